use Rattle.std.proofs.Common.{◌≡◌, length}
use Rattle.spirv_words.specs.Known.{history}
use Rattle.spirv_model.specs.Types.{all_words}
use Rattle.spirv_words.proofs.known.Known.are_words.Given as goal

abbrev pub invariant-ids : goal.invariant-ids
invariant-ids l = all_words (history l.self) l.rest ≡ all_words (history l.self) l.ids

abbrev pub decreases-ids : goal.decreases-ids
decreases-ids l = length l.rest
