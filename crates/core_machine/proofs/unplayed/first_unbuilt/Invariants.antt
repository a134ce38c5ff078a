use Rattle.std.proofs.Common.{◌+◌}
use Rattle.d3d_plan.specs.Ends.{NoneBefore}
use Rattle.core_machine.specs.Unplayed.{is_unplayed_record}
use Rattle.core_machine.proofs.unplayed.first_unbuilt.Given as goal

abbrev pub invariant-calls : goal.invariant-calls
invariant-calls l = NoneBefore is_unplayed_record l.log.frames (l.i + 1)
