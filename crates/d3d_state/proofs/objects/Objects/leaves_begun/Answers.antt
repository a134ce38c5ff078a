use Rattle.std.proofs.Common.{List, false, arith, ap, ◌∙◌}
use Rattle.std.specs.List.{list_any}
use Rattle.d3d_lists.specs.Recorded.{recorded_by}
use Rattle.d3d_model.specs.D3dState.{Numbered}
use Rattle.d3d_model.specs.Stream.{begun_after, begun_in_list}
use Rattle.d3d_state.proofs.Contexts.{recorded_on}
use Rattle.d3d_state.proofs.objects.Objects.leaves_begun.Goals as goal

pub returns : goal.returns
returns c =
    let o = c.args.self.now in
    c.leaves_begun.ensures
    ∙ ap (λ (cs : List Numbered). list_any (λ q. begun_after q false cs) (begun_in_list cs))
    (recorded_on o.settings.bindings (recorded_by o.recorder) c.args.context (omega (arith, o.settings.all, c.requires)))
