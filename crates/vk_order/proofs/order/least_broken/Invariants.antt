use Rattle.std.proofs.Common.{◌≡◌, ◌<◌, ◌≤◌, true}
use Rattle.vk_order.specs.Order.{late_of, is_broken}
use Rattle.vk_order.proofs.Broken.{NoneBelow}
use Rattle.vk_order.proofs.order.least_broken.Given as goal

abbrev pub invariant-loop-place : goal.invariant-loop-place
invariant-loop-place l =
    (l.place-items ≡ late_of l.order l.second)
    × (l.least ≤ l.second)
    × NoneBelow l.ops l.second (late_of l.order l.second) l.place-index l.least
    × (l.least < l.second → is_broken l.ops l.order l.least l.second ≡ true)
