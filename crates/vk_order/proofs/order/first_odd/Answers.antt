use Rattle.std.proofs.Common.{◌≡◌, ◌≤◌, ◌<◌, true, get_or, length, take, ap, sym, ◌∙◌, arith, below_more}
use Rattle.std.proofs.lemmas.Option.{slice_get_past, slice_get-get_or}
use Rattle.vk_order.specs.Order.{is_new_at, is_new_in}
use Rattle.vk_order.proofs.Rising.{below_next}
use Rattle.vk_order.proofs.order.first_odd.Goals as goal

pub loop-at-preserved : goal.loop-at-preserved
loop-at-preserved c =
    let ops = c.args.ops.now in
    let order = c.args.order.now in
    let at = c.loop-at.at in
    let here : is_new_at ops order at ≡ true = ap (is_new_in ops (take at order)) (slice_get-get_or order at 0 c.loop-at-test.true) ∙ sym c.is_new.ensures ∙ c.if-not-is_new.false in
    let le : c.loop-at.past ≤ c.max-past.result = omega (arith, c.max-past.ensures) in
    let more : get_or order at 0 < c.max-past.result = omega (arith, c.max-past.ensures, c.from.ensures) in
    record {
      new = below_more _ _ c.loop-at.invariant.new here;
      below = below_next order at c.loop-at.past c.max-past.result c.loop-at-test.true le more c.loop-at.invariant.below;
    }

pub returns-clause-odd : goal.returns-clause-odd
returns-clause-odd c =
    let order = c.args.order.now in
    ap (is_new_in c.args.ops.now (take (length order) order)) (slice_get_past order (length order) (omega arith))
