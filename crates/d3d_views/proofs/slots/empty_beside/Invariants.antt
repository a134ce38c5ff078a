use Rattle.std.proofs.Common.{◌≡◌, ◌++◌, take, drop}
use Rattle.d3d_model.specs.Binding.{without}
use Rattle.d3d_views.proofs.slots.empty_beside.Given as goal

abbrev pub invariant-loop-slot : goal.invariant-loop-slot
invariant-loop-slot l = l.slot-items ≡ without l.v (take l.slot-index l.initial.slot-items) ++ drop l.slot-index l.initial.slot-items
