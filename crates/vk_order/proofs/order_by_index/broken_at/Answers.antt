use Rattle.std.proofs.Common.{◌≡◌, Some, slice_get, sym, ap, subst, ◌∙◌}
use Rattle.std.proofs.lemmas.Option.{slice_get-get_or}
use Rattle.vk_types.specs.declared.op.VkOp.{VkOp}
use Rattle.vk_order.specs.Turns.{IsKept}
use Rattle.vk_order.proofs.Kept.{kept_closes}
use Rattle.vk_order.proofs.order_by_index.broken_at.Goals as goal

pub returns-then-is_kept-clause-least : goal.returns-then-is_kept-clause-least
returns-then-is_kept-clause-least c = λ x l.
    let ops = c.args.ops.now in let y = c.args.second in let o = c.index-ops-second.result in
    let there : slice_get ops y ≡ Some o = slice_get-get_or ops y o c.requires.there ∙ ap (λ (p : VkOp). Some p) (sym c.index-ops-second.is) in
    let kept = c.is_kept.ensures c.if-is_kept.true in
    kept_closes ops c.args.order.now c.args.ranks.now c.args.turns.now y o c.requires.holds c.requires.ranks there (subst (λ r. IsKept c.args.turns.now r o) c.rank_of.ensures kept) x
