use Rattle.std.proofs.Common.{get_or, sym, ap, ◌∙◌}
use Rattle.std.proofs.lemmas.Bool.{ltb-true}
use Rattle.std.proofs.lemmas.Option.{slice_get-get_or}
use Rattle.vk_order.specs.declared.cuts.Cut.{Cut}
use Rattle.vk_order.specs.Cuts.{precedes}
use Rattle.vk_order.proofs.CutOrder.{step_high}
use Rattle.vk_order.proofs.cuts.end_place.Goals as goal

pub returns-in-Some : goal.returns-in-Some
returns-in-Some c =
    let cuts = c.args.cuts.now in let likely = c.args.likely in let other = c.in-Some.other.now in let l = c.in-Some.ensures.lookup in
    step_high cuts likely (get_or cuts likely other) c.args.cut.now c.requires (slice_get-get_or cuts likely other (ltb-true _ _ (sym l.0)))
    (ap (λ (d : Cut). precedes d c.args.cut.now) (sym l.1) ∙ (sym c.precedes.ensures ∙ c.if-not-precedes.true))
