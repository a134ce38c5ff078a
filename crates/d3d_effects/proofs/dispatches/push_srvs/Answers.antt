use Rattle.std.proofs.Common.{◌<◌, None, length, arith}
use Rattle.d3d_model.specs.Binding.{bound_range}
use Rattle.d3d_effects.proofs.Slots.{one_more}
use Rattle.d3d_effects.proofs.dispatches.push_srvs.Goals as goal

pub slots-preserved : goal.slots-preserved
slots-preserved c =
    let slots = c.args.bindings.now.srvs in
    let below : c.slots.slot < length slots = omega (arith, c.has_all_slots.ensures.srvs, c.slots-test.true) in
    one_more bound_range slots c.slots.slot None c.args.ranges.now.items c.slots.ranges.items c.push_some.new.ranges.items c.srv_bound.result
    below c.srv_bound.ensures c.slots.invariant c.in_ok-push_some.ensures
