use Rattle.std.proofs.Common.{◌<◌, length, Option, None, sym, ap, ◌∙◌, arith}
use Rattle.std.specs.List.{find}
use Rattle.shader_model.specs.declared.tree.Declared.{Declared}
use Rattle.d3d_model.specs.Binding.{BoundView}
use Rattle.d3d_model.specs.Memory.{view_shown, is_declared}
use Rattle.item_work.proofs.ShownSlots.{shown_first}
use Rattle.item_work.proofs.shown.uav_shown.Goals as goal

pub returns : goal.returns
returns c =
    let slots = c.args.set.now.uavs in
    let ds = c.args.declared.now in
    let fits : c.args.slot < length slots = omega (arith, c.requires, c.has_all_slots.ensures.uavs) in
    c.view_shown.ensures
    ∙ ap (λ (d : Option Declared). view_shown d c.uav.result) c.declared_slot-d.ensures
    ∙ ap (λ (s : Option BoundView). view_shown (find (is_declared 5 c.args.slot) ds) s) c.uav.ensures.value
    ∙ sym (shown_first (view_shown) ds 5 slots c.args.slot None fits)
