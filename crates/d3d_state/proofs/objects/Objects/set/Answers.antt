use Rattle.std.proofs.Common.{List, arith, ap}
use Rattle.d3d_lists.specs.Recorded.{lists_of, recorded_by}
use Rattle.d3d_model.specs.D3dState.{Context}
use Rattle.d3d_state.specs.Meaning.{objects_from}
use Rattle.d3d_state.specs.Setting.{set_to}
use Rattle.d3d_state.proofs.Contexts.{set_on}
use Rattle.d3d_state.proofs.objects.Objects.set.Goals as goal

pub returns : goal.returns
returns c =
    let o = c.args.self.now in
    ap (λ (cs : List Context). objects_from o.buffers o.views o.shaders o.queries (lists_of o.recorder) cs)
    (set_on o.settings.bindings c.set.new.self.bindings (recorded_by o.recorder) c.args.context (λ b. set_to b c.args.setting) (omega (arith, o.settings.all, c.requires.context)) c.set.ensures)
