use Rattle.std.proofs.Common.{◌≡◌, ◌++◌, drop, map}
use Rattle.spirv_model.specs.View.{shown}
use Rattle.spirv_run.specs.Decoding.{steps_from}
use Rattle.spirv_run.proofs.decode.steps.Given as goal

abbrev pub invariant-ops : goal.invariant-ops
invariant-ops l = steps_from (map shown l.ops) 0 (map shown l.ops) ≡ l.steps.items ++ steps_from (map shown l.ops) l.at (drop l.at (map shown l.ops))
