use Rattle.std.proofs.Common.{ℕ, List, arith}
use Rattle.text_words.proofs.Digits.{goes_on, goes_back, same_first}
use Rattle.text_words.proofs.decimal.digits_to.Goals as goal

pub returns-in_default-with_digit : goal.returns-in_default-with_digit
returns-in_default-with_digit c =
    λ (n : ℕ) (rest : List ℕ) lt g.
    let s = goes_on c.args.stop c.digits.number c.in-Some.byte n c.digits.rest.now c.in-Some.after.now rest c.in-Some.ensures c.if-byte-stop.false (c.digits.invariant.on n rest g) in
    c.in_default-with_digit.ensures s.low s.high (omega (arith, s.grown, lt))

pub digits-preserved : goal.digits-preserved
digits-preserved c =
    let d = c.in-Some-with_digit.ensures in
    record {
      fits = d.0;
      on =
          λ (n : ℕ) (rest : List ℕ) g.
          let s = goes_on c.args.stop c.digits.number c.in-Some.byte n c.digits.rest.now c.in-Some.after.now rest c.in-Some.ensures c.if-byte-stop.false (c.digits.invariant.on n rest g) in
          same_first c.args.stop _ _ c.in-Some.after.now n rest d.3 s.goes;
      back =
          λ (n : ℕ) (rest : List ℕ) g.
          c.digits.invariant.back n rest (goes_back c.args.stop c.digits.number c.in-Some.byte c.in-Some-with_digit.longer n c.digits.rest.now c.in-Some.after.now rest c.in-Some.ensures d.1 d.2 d.3 g);
    }
