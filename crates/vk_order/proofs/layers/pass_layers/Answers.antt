use Rattle.std.proofs.Common.{get_or, ◌∙◌, arith}
use Rattle.std.proofs.lemmas.Option.{slice_get-get_or, slice_get_within}
use Rattle.vk_order.proofs.Places.{get_set_other}
use Rattle.vk_order.proofs.Touching.{pass_next}
use Rattle.vk_order.proofs.layers.pass_layers.Goals as goal

pub loop-n-preserved : goal.loop-n-preserved
loop-n-preserved c =
    let layers = c.loop-n.layers in let n = c.loop-n.n in let l = c.index-layers-n.result in let test = c.loop-n-test.true in let len = c.loop-n.auto.layers in
    record {
      passed = pass_next c.args.seconds.now c.args.b.now c.args.past c.args.layers.now layers n (get_or layers n l) c.pass.new.self (slice_get-get_or layers n l (omega (arith, test, len))) c.pass.ensures
          c.loop-n.invariant.rest c.loop-n.invariant.passed;
      rest = λ k le. get_set_other layers n k c.pass.new.self (omega (arith, le)) ∙ c.loop-n.invariant.rest k (omega (arith, le));
    }

pub returns-clause-passed : goal.returns-clause-passed
returns-clause-passed c = λ n l e.
    let w = slice_get_within c.loop-n.layers n l e in let end = c.loop-n-test.false in let len = c.loop-n.auto.layers in
    c.loop-n.invariant.passed n l (omega (arith, w, end, len)) e
