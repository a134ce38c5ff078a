use Rattle.std.proofs.Common.{◌<◌, length, Option, sym, ap, ◌∙◌, arith}
use Rattle.std.specs.List.{find}
use Rattle.shader_model.specs.declared.tree.Declared.{Declared}
use Rattle.d3d_model.specs.Binding.{BoundView}
use Rattle.d3d_model.specs.Memory.{view_shown, is_declared}
use Rattle.d3d_memory.proofs.Shows.{srv_first}
use Rattle.d3d_memory.proofs.shown.srv_shown.Goals as goal

pub returns : goal.returns
returns c =
    let b = c.args.bindings.now in
    let ds = c.args.declared.now in
    let fits : c.args.slot < length b.srvs = omega (arith, c.requires, c.has_all_slots.ensures.srvs) in
    c.view_shown.ensures
    ∙ ap (λ (d : Option Declared). view_shown d c.srv.result) c.declared_slot-d.ensures
    ∙ ap (λ (s : Option BoundView). view_shown (find (is_declared 4 c.args.slot) ds) s) (c.srv.ensures.value)
    ∙ sym (srv_first b ds c.args.slot fits)
