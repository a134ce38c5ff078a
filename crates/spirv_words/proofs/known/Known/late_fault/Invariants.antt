use Rattle.std.proofs.Common.{◌≡◌, ◌+◌, length, map}
use Rattle.spirv_model.specs.View.{shown}
use Rattle.spirv_words.specs.Known.{history}
use Rattle.spirv_model.specs.FirstBad.{late_fault, total_words}
use Rattle.spirv_words.proofs.known.Known.late_fault.Given as goal

abbrev pub invariant-ops : goal.invariant-ops
invariant-ops l = record {
  words_left : l.at + total_words (map shown l.rest) ≡ 5 + total_words (map shown l.self.ops.items);
  fault_left : late_fault (history l.self) l.at (map shown l.rest) ≡ late_fault (history l.self) 5 (map shown l.self.ops.items);
}

abbrev pub decreases-ops : goal.decreases-ops
decreases-ops l = length l.rest
