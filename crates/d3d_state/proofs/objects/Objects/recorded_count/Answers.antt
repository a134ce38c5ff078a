use Rattle.std.proofs.Common.{List, length, arith, ap, ◌∙◌}
use Rattle.d3d_lists.specs.Recorded.{recorded_by}
use Rattle.d3d_model.specs.D3dState.{Numbered}
use Rattle.d3d_state.proofs.Contexts.{recorded_on}
use Rattle.d3d_state.proofs.objects.Objects.recorded_count.Goals as goal

pub returns : goal.returns
returns c =
    let o = c.args.self.now in
    c.count.ensures
    ∙ ap (λ (cs : List Numbered). length cs) (recorded_on o.settings.bindings (recorded_by o.recorder) c.args.context (omega (arith, o.settings.all, c.requires)))
