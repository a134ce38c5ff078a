use Rattle.std.proofs.Common.{◌+◌}
use Rattle.d3d_plan.specs.Ends.{NoneBefore, is_draw_record}
use Rattle.d3d_plan.proofs.scan.first_draw.Given as goal

abbrev pub invariant-calls : goal.invariant-calls
invariant-calls l = NoneBefore is_draw_record l.log.frames (l.i + 1)
