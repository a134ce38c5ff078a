use Rattle.std.proofs.Common.{ap}
use Rattle.d3d_lists.specs.Recorded.{lists_of, recorded_by}
use Rattle.d3d_model.specs.Resource.{Buffers}
use Rattle.d3d_state.specs.Contexts.{contexts_of}
use Rattle.d3d_state.specs.Meaning.{objects_from}
use Rattle.d3d_state.proofs.Found.{removed_anyway}
use Rattle.d3d_state.proofs.objects.Objects.destroy_buffer.Goals as goal

pub returns : goal.returns
returns c =
    let o = c.args.self.now in
    ap (λ (b : Buffers). objects_from b o.views o.shaders o.queries (lists_of o.recorder) (contexts_of o.settings.bindings (recorded_by o.recorder)))
    (removed_anyway o.buffers c.remove.new.self c.args.id c.remove.result c.remove.ensures.value c.remove.ensures.removed c.remove.ensures.unchanged)
