use Rattle.std.proofs.Common.{◌≡◌, drop}
use Rattle.text_words.specs.Words.{lower}
use Rattle.text_words.proofs.hexadecimal.is_lower.Given as goal

abbrev pub invariant-bytes : goal.invariant-bytes
invariant-bytes l = lower (drop l.byte-index l.word) ≡ lower l.word
