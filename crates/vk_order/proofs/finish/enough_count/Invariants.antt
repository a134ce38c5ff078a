use Rattle.std.proofs.Common.{◌≤◌, ◌-◌, length}
use Rattle.vk_order.proofs.finish.enough_count.Given as goal

abbrev pub invariant-halves : goal.invariant-halves
invariant-halves l = (l.low ≤ l.high) × (l.high ≤ length l.fences)

abbrev pub decreases-halves : goal.decreases-halves
decreases-halves l = l.high - l.low
