use Rattle.std.proofs.Common.{ℕ, List, arith}
use Rattle.text_words.proofs.Digits.{same_front}
use Rattle.text_words.proofs.decimal.u16_to.Goals as goal

pub returns-in_default-try_from : goal.returns-in_default-try_from
returns-in_default-try_from c =
    let f = c.in-Some.ensures in
    λ (n : ℕ) (rest : List ℕ) lt stops e.
    let same = same_front c.args.stop c.in-Some.number n c.args.text.now c.in-Some.rest.now rest c.requires f.0 (omega arith) f.1 stops f.2 e in
    c.in_default-try_from.ensures (omega (arith, same, lt))
