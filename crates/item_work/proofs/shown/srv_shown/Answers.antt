use Rattle.std.proofs.Common.{◌<◌, length, Option, None, sym, ap, ◌∙◌, arith}
use Rattle.std.specs.List.{find}
use Rattle.shader_model.specs.declared.tree.Declared.{Declared}
use Rattle.d3d_model.specs.Binding.{BoundView}
use Rattle.d3d_model.specs.Memory.{view_shown, is_declared}
use Rattle.item_work.proofs.ShownSlots.{shown_first}
use Rattle.item_work.proofs.shown.srv_shown.Goals as goal

pub returns : goal.returns
returns c =
    let slots = c.args.set.now.srvs in
    let ds = c.args.declared.now in
    let fits : c.args.slot < length slots = omega (arith, c.requires, c.has_all_slots.ensures.srvs) in
    c.view_shown.ensures
    ∙ ap (λ (d : Option Declared). view_shown d c.srv.result) c.declared_slot-d.ensures
    ∙ ap (λ (s : Option BoundView). view_shown (find (is_declared 4 c.args.slot) ds) s) c.srv.ensures.value
    ∙ sym (shown_first (view_shown) ds 4 slots c.args.slot None fits)
