use Rattle.std.proofs.Common.{arith, ◌∙◌}
use Rattle.d3d_lists.specs.Recorded.{recorded_by}
use Rattle.d3d_state.proofs.Contexts.{bindings_at}
use Rattle.d3d_state.proofs.objects.Objects.bindings.Goals as goal

pub returns : goal.returns
returns c =
    let o = c.args.self.now in
    c.on.ensures ∙ bindings_at o.settings.bindings (recorded_by o.recorder) c.args.context (omega (arith, o.settings.all, c.requires))
