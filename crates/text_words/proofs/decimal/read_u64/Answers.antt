use Rattle.std.proofs.Common.{ℕ, [], sym, ◌∙◌}
use Rattle.std.proofs.lemmas.List.{append-nil}
use Rattle.text_words.proofs.Cutting.{none_left, some_left}
use Rattle.text_words.proofs.Digits.{whole_word, not_word}
use Rattle.text_words.proofs.decimal.read_u64.Goals as goal

pub returns-in_default : goal.returns-in_default
returns-in_default c = λ (n : ℕ) lt e. c.in_default.ensures n [] lt tt (e ∙ sym (append-nil _))

pub returns-then-is_empty : goal.returns-then-is_empty
returns-then-is_empty c =
    let f = c.in-Some.ensures in
    (f.0, whole_word c.in-Some.number c.args.word.now c.in-Some.rest.now f.2 (none_left _ (sym c.is_empty.ensures ∙ c.if-is_empty.true)))

pub returns-else-is_empty : goal.returns-else-is_empty
returns-else-is_empty c =
    let f = c.in-Some.ensures in
    λ (n : ℕ) lt e. not_word n c.in-Some.number c.args.word.now c.in-Some.rest.now lt f.0 f.1 f.2 (some_left _ (sym c.is_empty.ensures ∙ c.if-is_empty.false)) e
