use Rattle.std.proofs.Common.{◌≤◌, ◌<◌, ◌+◌, get_or, arith}
use Rattle.vk_order.proofs.Rising.{below_next, rising_next}
use Rattle.vk_order.proofs.order.rises.Goals as goal

pub loop-place-preserved : goal.loop-place-preserved
loop-place-preserved c =
    let order = c.args.order.now in
    let i = c.loop-place.place-index in
    let le : c.loop-place.past ≤ get_or order i 0 = omega (arith, c.from.ensures, c.if-from-past.false) in
    let more : get_or order i 0 < c.from-past.result + 1 = omega (arith, c.from-past.ensures) in
    record {
      rising = rising_next order i c.loop-place.past c.loop-place-test.true le c.loop-place.invariant.below c.loop-place.invariant.rising;
      below = below_next order i c.loop-place.past (c.from-past.result + 1) c.loop-place-test.true (omega arith) more c.loop-place.invariant.below;
    }
