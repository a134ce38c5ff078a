use Rattle.std.proofs.Common.{refl, sym, subst}
use Rattle.std.specs.Prelude.{IsSome}
use Rattle.std.proofs.lemmas.Map.Keys.{le_from_not_gt, ge_from_not_lt}
use Rattle.d3d_uses.proofs.Bytes.{not_gt_from_le}
use Rattle.d3d_uses.proofs.ranges.last_until.Goals as goal

pub returns-clause-last : goal.returns-clause-last
returns-clause-last c =
    let inside = c.range.ensures.in_range tt in
    let last = inside.3 _ _ c.in_ok-start.ensures.steps in
    (le_from_not_gt _ _ last.0.1, last.1, λ a b le is. ge_from_not_lt _ _ (inside.4 _ _ c.in_ok-start.ensures.steps a (tt, not_gt_from_le _ _ le) (subst IsSome (sym is) refl)))
