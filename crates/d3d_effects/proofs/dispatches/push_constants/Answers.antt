use Rattle.std.proofs.Common.{◌<◌, ◌≤◌, ◌++◌, List, None, length, ap, ◌∙◌, arith}
use Rattle.std.specs.Option.{option_map}
use Rattle.dx_types.specs.declared.range.ResRange.{ResRange}
use Rattle.d3d_model.specs.Stream.{cut}
use Rattle.d3d_state.specs.Meaning.{objects_of}
use Rattle.d3d_effects.proofs.Slots.{all_slots, constants_cut, one_more}
use Rattle.d3d_effects.proofs.dispatches.push_constants.Goals as goal

pub slots-preserved : goal.slots-preserved
slots-preserved c =
    let o = objects_of c.args.objects.now in
    let slots = c.args.bindings.now.constants in
    let below : c.slots.slot < length slots = omega (arith, c.has_all_slots.ensures.constants, c.slots-test.true) in
    one_more (λ slot. option_map (cut o) slot) slots c.slots.slot None c.args.ranges.now.items c.slots.ranges.items c.push_some.new.ranges.items c.constant_bound.result
    below c.constant_bound.ensures c.slots.invariant c.in_ok-push_some.ensures

pub returns : goal.returns
returns c =
    let o = objects_of c.args.objects.now in
    let slots = c.args.bindings.now.constants in
    let before = c.args.ranges.now.items in
    let all : length slots ≤ c.slots.slot = omega (arith, c.has_all_slots.ensures.constants, c.slots-test.false) in
    all_slots (λ slot. option_map (cut o) slot) slots c.slots.slot before c.slots.ranges.items all c.slots.invariant
    ∙ ap (λ (l : List ResRange). before ++ l) (constants_cut o c.args.bindings.now)
