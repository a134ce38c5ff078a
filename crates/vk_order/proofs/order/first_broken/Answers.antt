use Rattle.std.proofs.Common.{refl, arith}
use Rattle.std.proofs.lemmas.Bool.{both_ways}
use Rattle.vk_order.specs.Order.{is_broken}
use Rattle.vk_order.proofs.Broken.{kept_whole, whole_kept}
use Rattle.vk_order.proofs.Rising.{rising_kept}
use Rattle.vk_order.proofs.order.first_broken.Goals as goal

pub returns-then-first-second-clause-ok : goal.returns-then-first-second-clause-ok
returns-then-first-second-clause-ok c =
    let ops = c.args.ops.now in let order = c.args.order.now in let first = c.least_broken-first.result in let second = c.loop-second.second in
    (λ e. absurd (cc e), λ all. absurd (both_ways (is_broken ops order first second) (kept_whole ops order all.1 first second) (c.least_broken-first.ensures.here c.if-first-second.true)))

pub returns-clause-ok : goal.returns-clause-ok
returns-clause-ok c = (λ _. (c.requires.whole, whole_kept c.args.ops.now c.args.order.now c.loop-second.second (omega arith) c.loop-second.invariant), λ _. refl)

pub returns-then-rises-clause-ok : goal.returns-then-rises-clause-ok
returns-then-rises-clause-ok c = (λ _. (c.requires.whole, rising_kept c.args.ops.now c.args.order.now (c.rises.ensures c.if-rises.true)), λ _. refl)
