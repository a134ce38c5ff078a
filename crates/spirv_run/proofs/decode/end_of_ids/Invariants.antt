use Rattle.std.proofs.Common.{◌≡◌, max, drop}
use Rattle.spirv_run.specs.Steps.{end_of_all}
use Rattle.spirv_run.proofs.decode.end_of_ids.Given as goal

abbrev pub invariant-steps : goal.invariant-steps
invariant-steps l = end_of_all l.steps ≡ max l.end (end_of_all (drop l.step-index l.steps))
