use Rattle.std.specs.Option.{option_to_list}
use Rattle.std.proofs.lemmas.Result.{on_ok_weaker}
use Rattle.d3d_state.specs.Meaning.{objects_of}
use Rattle.d3d_effects.proofs.Slots.{all_bound}
use Rattle.d3d_effects.proofs.dispatches.push_dispatch.Goals as goal

pub returns : goal.returns
returns c =
    let o = objects_of c.args.objects.now in
    on_ok_weaker c.push_some.result
    (λ pushed. all_bound o c.args.bindings.now c.args.ranges.now.items c.push_constants.new.ranges.items c.push_srvs.new.ranges.items c.push_uavs.new.ranges.items c.push_some.new.ranges.items
    (option_to_list c.predicate_word.result) c.in_ok-push_constants.ensures c.in_ok-push_srvs.ensures c.in_ok-push_uavs.ensures
    c.predicate_word.ensures pushed)
    c.push_some.ensures
