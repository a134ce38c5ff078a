use Rattle.std.proofs.Common.{◌≡◌, ◌++◌, take}
use Rattle.std.specs.List.{filter_map}
use Rattle.d3d_model.specs.Binding.{bound_range}
use Rattle.d3d_effects.proofs.dispatches.push_srvs.Given as goal

abbrev pub invariant-slots : goal.invariant-slots
invariant-slots l = l.ranges.items ≡ l.initial.ranges.items ++ filter_map bound_range (take l.slot l.bindings.srvs)
