use Rattle.std.proofs.Common.{List, ap, ◌∙◌, arith}
use Rattle.base_lemmas.specs.IdMap.{insert}
use Rattle.d3d_lists.specs.Recorded.{lists_of, recorded_by}
use Rattle.d3d_lists.proofs.Tables.{length-recorded_in}
use Rattle.d3d_model.specs.D3dState.{Numbered}
use Rattle.d3d_state.proofs.Contexts.{begun_anew, recorded_on}
use Rattle.d3d_state.proofs.objects.Objects.finish_list.Goals as goal

pub returns-clause-finished : goal.returns-clause-finished
returns-clause-finished c =
    let o = c.args.self.now in
    let bs = o.settings.bindings in
    let ls = recorded_by o.recorder in
    let x = c.args.context in
    λ i. record {
      buffers = o.buffers;
      views = o.views;
      shaders = o.shaders;
      queries = o.queries;
      lists = (c.in_ok-finish.ensures.lists ∙ ap (λ (cs : List Numbered). insert (lists_of o.recorder) c.args.list cs) (recorded_on bs ls x (omega (arith, o.settings.all, c.requires.context)))) i;
      contexts = begun_anew bs c.set.new.self.bindings ls (recorded_by c.finish.new.self) x (omega (arith, o.recorder.all, length-recorded_in o.recorder.opened.items, c.requires.context))
          c.set.ensures c.in_ok-finish.ensures.opened i;
    }
