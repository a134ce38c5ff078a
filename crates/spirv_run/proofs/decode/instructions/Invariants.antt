use Rattle.std.proofs.Common.{◌≡◌, ◌-◌, ◌++◌, length, map}
use Rattle.spirv_model.specs.FirstBad.{reading}
use Rattle.spirv_model.specs.View.{shown}
use Rattle.spirv_run.proofs.decode.instructions.Given as goal

abbrev pub invariant-words : goal.invariant-words
invariant-words l = (reading (length l.words) l.words).ops ≡ map shown l.ops.items ++ (reading (length l.words - l._i) l.rest).ops
