use Rattle.std.proofs.Common.{◌<◌, length, Option, None, sym, ap, ◌∙◌, arith}
use Rattle.std.specs.List.{find}
use Rattle.dx_types.specs.declared.range.ResRange.{ResRange}
use Rattle.shader_model.specs.declared.tree.Declared.{Declared}
use Rattle.d3d_model.specs.Memory.{constant_shown, is_declared}
use Rattle.d3d_state.specs.Meaning.{objects_of}
use Rattle.item_work.proofs.ShownSlots.{shown_first}
use Rattle.item_work.proofs.shown.constant_shown.Goals as goal

pub returns : goal.returns
returns c =
    let slots = c.args.set.now.constants in
    let ds = c.args.declared.now in
    let fits : c.args.slot < length slots = omega (arith, c.requires, c.has_all_slots.ensures.constants) in
    c.cut.ensures
    ∙ ap (λ (d : Option Declared). constant_shown (objects_of c.args.objects.now) d c.constant.result) c.declared_slot-d.ensures
    ∙ ap (λ (s : Option ResRange). constant_shown (objects_of c.args.objects.now) (find (is_declared 3 c.args.slot) ds) s) c.constant.ensures
    ∙ sym (shown_first (constant_shown (objects_of c.args.objects.now)) ds 3 slots c.args.slot None fits)
