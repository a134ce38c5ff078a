use Rattle.std.proofs.Common.{◌≡◌, true, false, Some, subst, ap, ◌∙◌}
use Rattle.vk_order.specs.declared.cuts.Cut.{Cut}
use Rattle.vk_order.specs.Cuts.{precedes}
use Rattle.vk_order.proofs.CutOrder.{found_reach}
use Rattle.vk_order.proofs.cuts.reach_of.Goals as goal

pub returns : goal.returns
returns c =
    let cuts = c.args.cuts.now in
    found_reach cuts c.args.range.now c.place_of-from.result c.end_place.result
    (c.stands_at.ensures c.if-not-stands_at.false ∙ ap (λ (d : Cut). Some d) c.begin_of-begin.ensures)
    (λ k d l e. subst (λ (z : Cut). precedes d z ≡ true) c.begin_of-begin.ensures (c.place_of-from.ensures.below k d l e))
    (λ k d l e. subst (λ (z : Cut). precedes d z ≡ false) c.end_of.ensures (c.end_place.ensures k d l e))
