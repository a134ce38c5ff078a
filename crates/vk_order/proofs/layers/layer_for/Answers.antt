use Rattle.std.proofs.Common.{slice_get, inr, ap, ◌∙◌}
use Rattle.vk_order.proofs.Places.{get_last}
use Rattle.vk_order.proofs.layers.layer_for.Goals as goal

pub returns-clause-there : goal.returns-clause-there
returns-clause-there c =
    let old = c.args.layers.now.items in let l = c.in_ok-layer.layer in
    record {
      layer = l;
      there = ap (λ ls. slice_get ls c.len-n.result) c.in_ok-push.ensures.items ∙ get_last old l c.len-n.result (c.len-n.ensures ∙ c.args.layers.now.ok.0);
      first_is = c.in_ok-layer.ensures.first_is;
    }

pub returns-clause-pushed : goal.returns-clause-pushed
returns-clause-pushed c = inr (c.in_ok-layer.layer, c.in_ok-layer.ensures, c.in_ok-push.ensures.items)
