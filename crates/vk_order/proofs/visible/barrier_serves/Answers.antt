use Rattle.std.proofs.Common.{◌≡◌, true, sym, ◌∙◌, arith}
use Rattle.vk_order.proofs.Served.{serves_from}
use Rattle.vk_order.proofs.visible.barrier_serves.Goals as goal

pub returns : goal.returns
returns c available =
    let whole : c.is_whole.result ≡ true = grind arith in
    let named : c.names_stages_of.result ≡ true = grind arith in
    serves_from c.args.c.now c.args.b.now (sym c.names_stages_of.ensures ∙ named) (sym c.all_available.ensures ∙ available) (c.is_whole.ensures whole)
