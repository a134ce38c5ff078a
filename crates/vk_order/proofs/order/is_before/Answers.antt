use Rattle.std.proofs.Common.{◌≡◌, ◌+◌, ◌-◌, ◌<◌, length, take, drop, Some, sym, ap, ◌∙◌, arith, take_all}
use Rattle.std.proofs.lemmas.List.{length-drop}
use Rattle.std.proofs.lemmas.Option.{slice_get-get_or}
use Rattle.vk_types.specs.Before.{side}
use Rattle.vk_order.specs.Order.{ordered_by}
use Rattle.vk_order.proofs.Placed.{before_is}
use Rattle.vk_order.proofs.order.is_before.Goals as goal

pub returns : goal.returns
returns c =
    let ops = c.args.ops.now in let x = c.args.x in let y = c.args.y in
    let there : x < length ops = let o = c.requires.order in let w = c.requires.within in omega arith in
    let rest : take (length ops - (x + 1)) (drop (x + 1) ops) ≡ drop (x + 1) ops = take_all (length ops - (x + 1)) (drop (x + 1) ops) (omega (arith, length-drop (x + 1) ops)) in
    c.pair_is_before.ensures
    ∙ ap (λ l. ordered_by l (take (y - (x + 1)) (drop (x + 1) ops)) (side c.index-ops-x.result) (side c.index-ops-y.result)) rest
    ∙ before_is ops x y c.index-ops-x.result c.index-ops-y.result c.requires.order
    (slice_get-get_or ops x c.index-ops-x.result there ∙ ap Some (sym c.index-ops-x.is))
    (slice_get-get_or ops y c.index-ops-y.result c.requires.within ∙ ap Some (sym c.index-ops-y.is))
