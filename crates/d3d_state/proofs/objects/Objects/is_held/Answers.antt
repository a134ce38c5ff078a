use Rattle.std.proofs.Common.{◌||◌, length, sym, ap, arith, ◌∙◌}
use Rattle.base_lemmas.specs.IdMap.{values}
use Rattle.d3d_lists.specs.Names.{name_view}
use Rattle.d3d_lists.specs.Recorded.{lists_of, recorded_by}
use Rattle.d3d_model.specs.Stream.{is_listed, list_names}
use Rattle.d3d_state.specs.Meaning.{objects_of}
use Rattle.d3d_lists.proofs.Tables.{length-recorded_in}
use Rattle.d3d_state.proofs.Contexts.{some_listed}
use Rattle.d3d_state.proofs.objects.Objects.is_held.Goals as goal

pub returns-else-is_set : goal.returns-else-is_set
returns-else-is_set c =
    let o = c.args.self.now in
    let n = name_view c.args.name in
    c.names.ensures
    ∙ some_listed (list_names n.class n.id) o.settings.bindings (recorded_by o.recorder) (values (lists_of o.recorder))
    (omega (arith, o.settings.all, o.recorder.all, length-recorded_in o.recorder.opened.items))
    ∙ sym (ap (λ b. b || is_listed (objects_of o) n.class n.id) c.if-is_set.false)
