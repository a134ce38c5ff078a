use Rattle.std.proofs.Common.{arith}
use Rattle.std.proofs.lemmas.Result.{on_err_weaker, on_ok_weaker}
use Rattle.d3d_lists.specs.Recorded.{recorded_by}
use Rattle.d3d_lists.proofs.Tables.{length-recorded_in}
use Rattle.d3d_state.specs.Contexts.{contexts_of}
use Rattle.d3d_state.proofs.Contexts.{recorded_more}
use Rattle.d3d_state.proofs.objects.Objects.record.Goals as goal

pub returns-clause-recorded : goal.returns-clause-recorded
returns-clause-recorded c =
    let o = c.args.self.now in
    on_ok_weaker c.record.result
    (λ e i. record {
      buffers = o.buffers;
      views = o.views;
      shaders = o.shaders;
      queries = o.queries;
      lists = c.record.ensures.lists i;
      contexts = recorded_more o.settings.bindings (recorded_by o.recorder) (recorded_by c.record.new.self) c.args.context _ (omega (arith, o.settings.all, c.requires))
          (omega (arith, o.recorder.all, length-recorded_in o.recorder.opened.items, c.requires)) e i;
    })
    c.record.ensures.recorded

pub returns-clause-unchanged : goal.returns-clause-unchanged
returns-clause-unchanged c =
    let o = c.args.self.now in
    on_err_weaker c.record.result
    (λ e i. record {
      buffers = o.buffers;
      views = o.views;
      shaders = o.shaders;
      queries = o.queries;
      lists = c.record.ensures.lists i;
      contexts = contexts_of o.settings.bindings (e i);
    })
    c.record.ensures.unchanged
