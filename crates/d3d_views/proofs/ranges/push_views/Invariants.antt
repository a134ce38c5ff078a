use Rattle.std.proofs.Common.{◌≡◌, ◌++◌, take}
use Rattle.std.specs.List.{filter_map}
use Rattle.d3d_model.specs.Binding.{bound_range}
use Rattle.d3d_views.proofs.ranges.push_views.Given as goal

abbrev pub invariant-loop-slot : goal.invariant-loop-slot
invariant-loop-slot l = l.ranges.items ≡ l.fn.ranges.items ++ filter_map bound_range (take l.slot-index l.slots)
