use Rattle.std.proofs.Common.{ℕ, List, sym, ◌∙◌, arith}
use Rattle.text_words.proofs.Digits.{not_empty, number_step, spells, zero_alone, same_first, front_found, zero_spells}
use Rattle.text_words.proofs.decimal.u64_to.Goals as goal

pub returns-in_default : goal.returns-in_default
returns-in_default c = λ (n : ℕ) (rest : List ℕ) lt stops e. not_empty n c.args.text.now rest lt e c.in_default.ensures

pub returns-in_default-with_digit : goal.returns-in_default-with_digit
returns-in_default-with_digit c =
    λ (n : ℕ) (rest : List ℕ) lt stops e.
    let s = number_step c.args.stop c.in-Some.first n c.in-Some.rest.now rest lt stops (sym c.in-Some.ensures ∙ e) in
    c.in_default-with_digit.ensures s.low s.high (omega (arith, s.grown, lt))

pub returns-then-value-gt0 : goal.returns-then-value-gt0
returns-then-value-gt0 c =
    let d = c.in-Some-with_digit.ensures in
    front_found c.digits_to.result
    (λ none (n : ℕ) (rest : List ℕ) lt stops e.
    let s = number_step c.args.stop c.in-Some.first n c.in-Some.rest.now rest lt stops (sym c.in-Some.ensures ∙ e) in
    none n rest lt (same_first c.args.stop _ _ c.in-Some.rest.now n rest d.3 s.goes))
    (λ r some.
    let g = same_first c.args.stop _ _ c.in-Some.rest.now r.0 r.1.now (sym d.3) some.1 in
    (some.0, g.stops, c.in-Some.ensures ∙ spells c.args.stop c.in-Some.first r.0 c.in-Some.rest.now r.1.now c.requires d.1 d.2 some.0 (λ is. absurd (omega (arith, d.3, is, c.if-value-gt0.true))) g))
    c.digits_to.ensures

pub returns-then-stops_at : goal.returns-then-stops_at
returns-then-stops_at c =
    let d = c.in-Some-with_digit.ensures in
    (omega arith, c.if-stops_at.ensures, c.in-Some.ensures ∙ zero_spells c.in-Some.first c.in-Some-with_digit.value c.in-Some.rest.now d.1 d.3 (omega (arith, c.if-value-gt0.false)))

pub returns : goal.returns
returns c =
    λ (n : ℕ) (rest : List ℕ) lt stops e.
    let d = c.in-Some-with_digit.ensures in
    c.if-stops_at.ensures (zero_alone c.args.stop c.in-Some.first n c.in-Some.rest.now rest lt stops (sym c.in-Some.ensures ∙ e) (omega (arith, d.1, d.3, c.if-value-gt0.false)))
