use Rattle.std.proofs.Common.{List, subst, arith}
use Rattle.std.proofs.lemmas.Option.{slice_get_within}
use Rattle.vk_order.specs.declared.cuts.Cut.{Cut}
use Rattle.vk_order.specs.Cuts.{IsReach}
use Rattle.vk_order.proofs.index.Index.read_is_clear.Goals as goal

pub returns : goal.returns
returns c = λ _.
    let index = c.args.self.now in
    record {
      reach = c.reach_of-reach.result;
      reaches = subst (λ (cuts : List Cut). IsReach cuts c.args.range.now c.reach_of-reach.result) c.deref.ensures.value c.reach_of-reach.ensures;
      hosted = c.if-not-self.false;
      finished = c.are_before.ensures c.if-not-are_before.false;
      layers = λ n l e.
          let w = slice_get_within index.layers.items n l e in let end = c.loop-n-test.false in let len = c.len-n-end.ensures in let ok = index.layers.ok.0 in
          c.loop-n.invariant n l (omega (arith, w, end, len, ok)) e;
    }
