use Rattle.std.proofs.Common.{◌≡◌, ◌++◌, take}
use Rattle.std.specs.List.{filter_map}
use Rattle.std.specs.Option.{option_map}
use Rattle.d3d_model.specs.Stream.{cut}
use Rattle.d3d_state.specs.Meaning.{objects_of}
use Rattle.d3d_effects.proofs.dispatches.push_constants.Given as goal

abbrev pub invariant-slots : goal.invariant-slots
invariant-slots l =
    let o = objects_of l.objects in
    l.ranges.items ≡ l.initial.ranges.items ++ filter_map (λ slot. option_map (cut o) slot) (take l.slot l.bindings.constants)
