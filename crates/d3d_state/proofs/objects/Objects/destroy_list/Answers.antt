use Rattle.d3d_state.specs.Contexts.{contexts_of}
use Rattle.d3d_state.proofs.objects.Objects.destroy_list.Goals as goal

pub returns : goal.returns
returns c =
    let o = c.args.self.now in
    λ i. record {
      buffers = o.buffers;
      views = o.views;
      shaders = o.shaders;
      queries = o.queries;
      lists = c.remove.ensures.lists i;
      contexts = contexts_of o.settings.bindings (c.remove.ensures.opened i);
    }
