use Rattle.std.proofs.Common.{◌<◌, ◌^◌, ℕ, List, length}
use Rattle.text_words.specs.Words.{GoesOn}
use Rattle.text_words.proofs.decimal.digits_to.Given as goal

abbrev pub invariant-digits : goal.invariant-digits
invariant-digits l = record {
  fits : l.number < 2 ^ 64;
  on : (n : ℕ) (rest : List ℕ) → GoesOn l.stop l.value l.text n rest → GoesOn l.stop l.number l.rest n rest;
  back : (n : ℕ) (rest : List ℕ) → GoesOn l.stop l.number l.rest n rest → GoesOn l.stop l.value l.text n rest;
}

abbrev pub decreases-digits : goal.decreases-digits
decreases-digits l = length l.rest
