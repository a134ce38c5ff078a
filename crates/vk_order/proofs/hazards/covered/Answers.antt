use Rattle.std.proofs.Common.{sym, subst, Err, arith}
use Rattle.vk_order.specs.declared.hazards.Uncovered.{Uncovered}
use Rattle.vk_order.proofs.Best.{IsEnd, compared_next, break_found, ok_is_covered, err_is_first}
use Rattle.vk_order.proofs.hazards.covered.Goals as goal
use Rattle.vk_order.proofs.hazards.covered.Goals.{then-second-bound, else-second-bound}

pub firsts-preserved : goal.firsts-preserved
firsts-preserved c =
    let ops = c.args.ops.now in let inv = c.firsts.invariant in let first = c.firsts.first in let second = c.open_to-second.result in
    let bound = c.if-second-bound.bound in
    elim c.if-second-bound.branch [
      | then-second-bound w ↦ (
        compared_next ops first c.firsts.bound second bound inv.0 c.open_to-second.ensures.none (omega (arith, w.bound-is, w.if-second-bound.true)) (omega (arith, w.bound-is)),
        omega (arith, w.bound-is, w.if-second-bound.true, inv.1),
        subst (λ e. IsEnd ops bound e) (sym w.end-is)
            (subst (λ b. let u : Uncovered = record { first = first; second = second } in IsEnd ops b (Err u)) (sym w.bound-is)
            (break_found ops first c.firsts.bound second inv.0 w.if-second-bound.true (c.open_to-second.ensures.here w.if-second-bound.true))),
      )
      | else-second-bound w ↦ (
        compared_next ops first c.firsts.bound second bound inv.0 c.open_to-second.ensures.none (omega (arith, w.bound-is)) (omega (arith, w.bound-is, w.if-second-bound.false)),
        omega (arith, w.bound-is, inv.1),
        subst (λ e. IsEnd ops bound e) (sym w.end-is) (subst (λ b. IsEnd ops b c.firsts.end) (sym w.bound-is) inv.2),
      )
    ]

pub returns-clause-ok : goal.returns-clause-ok
returns-clause-ok c =
    let ops = c.args.ops.now in let inv = c.firsts.invariant in
    ok_is_covered ops c.firsts.bound inv.1 (λ x y l k. inv.0 x y (omega (arith, l)) k) c.firsts.end inv.2

pub returns-clause-err : goal.returns-clause-err
returns-clause-err c =
    let ops = c.args.ops.now in let inv = c.firsts.invariant in
    err_is_first ops c.firsts.bound inv.1 (λ x y l k. inv.0 x y (omega (arith, l)) k) c.firsts.end inv.2
