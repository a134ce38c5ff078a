use Rattle.std.proofs.Common.{◌≡◌, Some, slice_get, sym, ap, ◌∙◌}
use Rattle.std.proofs.lemmas.Option.{slice_get-get_or}
use Rattle.vk_types.specs.declared.op.VkOp.{VkOp}
use Rattle.vk_order.proofs.Sweep.{all_closed}
use Rattle.vk_order.proofs.by_index.first_open.Goals as goal

pub returns-then-is_clear : goal.returns-then-is_clear
returns-then-is_clear c =
    let ops = c.args.ops.now in let y = c.args.second in let o = c.index-ops-second.result in
    let there : slice_get ops y ≡ Some o = slice_get-get_or ops y o c.requires.there ∙ ap (λ (p : VkOp). Some p) (sym c.index-ops-second.is) in
    all_closed ops c.args.places.now c.args.index.now y o c.requires.few c.requires.finished c.requires.holds (c.is_clear.ensures c.if-is_clear.true) there
