use Rattle.std.proofs.Common.{◌≤◌, length}
use Rattle.vk_order.proofs.finish.longer_count.Given as goal

abbrev pub invariant-shorter : goal.invariant-shorter
invariant-shorter l = l.count ≤ length l.fences

abbrev pub decreases-shorter : goal.decreases-shorter
decreases-shorter l = l.count
