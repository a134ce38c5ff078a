use Rattle.std.proofs.Common.{List, false, arith, ap, ◌∙◌}
use Rattle.d3d_lists.specs.Recorded.{recorded_by}
use Rattle.d3d_model.specs.D3dState.{Numbered}
use Rattle.d3d_model.specs.Stream.{begun_after}
use Rattle.d3d_state.proofs.Contexts.{recorded_on}
use Rattle.d3d_state.proofs.objects.Objects.is_begun_in_list.Goals as goal

pub returns : goal.returns
returns c =
    let o = c.args.self.now in
    c.is_begun.ensures
    ∙ ap (λ (cs : List Numbered). begun_after c.args.query false cs)
    (recorded_on o.settings.bindings (recorded_by o.recorder) c.args.context (omega (arith, o.settings.all, c.requires)))
