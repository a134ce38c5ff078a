use Rattle.std.proofs.Common.{◌≡◌, List, Some, IfSome, slice_get, subst, arith}
use Rattle.std.proofs.lemmas.Option.{slice_get_within}
use Rattle.vk_order.specs.declared.classes.Second.{Second}
use Rattle.vk_order.specs.declared.cuts.Cut.{Cut}
use Rattle.vk_order.specs.Cuts.{IsReach}
use Rattle.vk_order.proofs.index.Index.touch_is_clear.Goals as goal

pub returns : goal.returns
returns c = λ _.
    let index = c.args.self.now in let second = c.second_place-second.result in
    record {
      reach = c.reach_of-reach.result;
      reaches = subst (λ (cuts : List Cut). IsReach cuts c.args.u.now.range c.reach_of-reach.result) c.deref.ensures.value c.reach_of-reach.ensures;
      second = second;
      class =
          subst (λ (s : Second). IfSome second (λ k. slice_get index.seconds.items k ≡ Some s)) c.second_of.ensures
          (subst (λ (ss : List Second). IfSome second (λ k. slice_get ss k ≡ Some c.second_of.result)) c.deref-2.ensures.value c.second_place-second.ensures);
      layers = λ n l e.
          let w = slice_get_within index.layers.items n l e in let end = c.loop-n-test.false in let len = c.len-n-end.ensures in let ok = index.layers.ok.0 in
          c.loop-n.invariant n l (omega (arith, w, end, len, ok)) e;
    }
