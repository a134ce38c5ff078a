use Rattle.std.proofs.Common.{get_or}
use Rattle.std.proofs.lemmas.Option.{slice_get-get_or}
use Rattle.vk_order.proofs.layers.layer_place.Goals as goal

pub returns-then-is_first : goal.returns-then-is_first
returns-then-is_first c =
    let layers = c.args.layers.now in let n = c.loop-n.n in let l = c.index-layers-n.result in
    record { layer = get_or layers n l; there = slice_get-get_or layers n l c.loop-n-test.true; first_is = c.is_first.ensures c.if-is_first.true }
