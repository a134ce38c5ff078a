use Rattle.std.proofs.Common.{◌||◌, map, sym, ap, ◌∙◌}
use Rattle.std.specs.List.{list_any}
use Rattle.std.proofs.lemmas.List.Folds.{list_any-append}
use Rattle.vk_types.specs.Hazards.{groups_touches, slot_touch, touches_conflict}
use Rattle.base_lemmas.proofs.Scan.{any_map}
use Rattle.vk_types.proofs.hazard.dispatch_clashes.Goals as goal

pub returns-else-clashes : goal.returns-else-clashes
returns-else-clashes c =
    let p = touches_conflict c.args.t.now in let slots = c.args.slots.now in
    c.slots_clash.ensures ∙ any_map p slot_touch slots
    ∙ sym (list_any-append p (groups_touches c.args.groups.now) (map slot_touch slots)
    ∙ ap (λ v. v || list_any p (map slot_touch slots)) (sym c.clashes.ensures ∙ c.if-clashes.false))
