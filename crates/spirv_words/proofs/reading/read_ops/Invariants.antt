use Rattle.std.proofs.Common.{◌≡◌, ◌+◌, length}
use Rattle.spirv_words.specs.Known.{history}
use Rattle.spirv_words.specs.Reading.{reading_of}
use Rattle.spirv_words.proofs.Walking.{Left}
use Rattle.spirv_words.proofs.reading.read_ops.Given as goal

abbrev pub invariant-words : goal.invariant-words
invariant-words l = record {
  left : Left l.bound (reading_of l.body) (history l.known) l.at (reading_of l.rest);
  place : l.at + length l.rest ≡ 5 + length l.body;
  same_bound : l.known.bound ≡ l.bound;
}

abbrev pub decreases-words : goal.decreases-words
decreases-words l = length l.rest
