use Rattle.d3d_lists.specs.Recorded.{recorded_by}
use Rattle.d3d_model.specs.Binding.{holds_shader}
use Rattle.d3d_model.specs.Stream.{is_listed}
use Rattle.d3d_state.specs.Meaning.{objects_of}
use Rattle.d3d_state.proofs.Contexts.{held_by}
use Rattle.d3d_state.proofs.objects.Objects.uses_shader.Goals as goal

pub returns : goal.returns
returns c =
    let o = c.args.self.now in
    held_by (λ b. holds_shader b c.args.id) o.settings.bindings (recorded_by o.recorder) c.is_held.result c.hold_shader.result (is_listed (objects_of o) 3 c.args.id) c.is_held.ensures c.hold_shader.ensures
