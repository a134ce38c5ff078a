use Rattle.d3d_state.proofs.Contexts.{contexts_default}
use Rattle.d3d_state.proofs.objects.Objects.new.Goals as goal

pub returns : goal.returns
returns c = λ i. record {
  buffers = c.new-2.ensures i;
  views = c.new-3.ensures i;
  shaders = c.new-4.ensures i;
  queries = c.new-5.ensures i;
  lists = c.in_ok-recorder.ensures.lists i;
  contexts = contexts_default c.new-6.result.bindings _ 17 c.new-6.ensures c.in_ok-recorder.ensures.opened i;
}
