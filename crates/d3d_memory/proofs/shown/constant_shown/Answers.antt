use Rattle.std.proofs.Common.{◌<◌, length, Option, sym, ap, ◌∙◌, arith}
use Rattle.std.specs.List.{find}
use Rattle.dx_types.specs.declared.range.ResRange.{ResRange}
use Rattle.shader_model.specs.declared.tree.Declared.{Declared}
use Rattle.d3d_model.specs.Memory.{constant_shown, is_declared}
use Rattle.d3d_state.specs.Meaning.{objects_of}
use Rattle.d3d_memory.proofs.Shows.{constant_first}
use Rattle.d3d_memory.proofs.shown.constant_shown.Goals as goal

pub returns : goal.returns
returns c =
    let o = objects_of c.args.objects.now in
    let b = c.args.bindings.now in
    let ds = c.args.declared.now in
    let fits : c.args.slot < length b.constants = omega (arith, c.requires, c.has_all_slots.ensures.constants) in
    c.cut.ensures
    ∙ ap (λ (d : Option Declared). constant_shown o d c.constant.result) c.declared_slot-d.ensures
    ∙ ap (λ (s : Option ResRange). constant_shown o (find (is_declared 3 c.args.slot) ds) s) (c.constant.ensures)
    ∙ sym (constant_first o b ds c.args.slot fits)
