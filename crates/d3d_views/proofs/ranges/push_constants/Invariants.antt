use Rattle.std.proofs.Common.{◌≡◌, ◌++◌, take}
use Rattle.std.specs.List.{filter_map}
use Rattle.d3d_views.proofs.ranges.push_constants.Given as goal

abbrev pub invariant-loop-slot : goal.invariant-loop-slot
invariant-loop-slot l = l.ranges.items ≡ l.fn.ranges.items ++ filter_map (λ slot. slot) (take l.slot-index l.slots)
