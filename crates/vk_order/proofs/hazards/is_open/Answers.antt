use Rattle.std.proofs.Common.{◌≡◌, ◌+◌, ◌-◌, ◌<◌, length, take, drop, Some, sym, ap, ◌∙◌, arith, take_all}
use Rattle.std.proofs.lemmas.List.{length-drop}
use Rattle.std.proofs.lemmas.Option.{slice_get-get_or}
use Rattle.vk_order.specs.Asks.{is_pair_open}
use Rattle.vk_order.proofs.Open.{open_is}
use Rattle.vk_order.proofs.hazards.is_open.Goals as goal

pub returns : goal.returns
returns c =
    let ops = c.args.ops.now in let x = c.args.x in let y = c.args.y in
    let there : x < length ops = let o = c.requires.order in let w = c.requires.within in omega arith in
    let rest : take (length ops - (x + 1)) (drop (x + 1) ops) ≡ drop (x + 1) ops = take_all (length ops - (x + 1)) (drop (x + 1) ops) (omega (arith, length-drop (x + 1) ops)) in
    c.pair_open.ensures
    ∙ ap (λ l. is_pair_open l (take (y - (x + 1)) (drop (x + 1) ops)) c.index-ops-x.result c.index-ops-y.result) rest
    ∙ open_is ops x y c.index-ops-x.result c.index-ops-y.result c.requires.order
    (slice_get-get_or ops x c.index-ops-x.result there ∙ ap Some (sym c.index-ops-x.is))
    (slice_get-get_or ops y c.index-ops-y.result c.requires.within ∙ ap Some (sym c.index-ops-y.is))
