use Rattle.std.proofs.Common.{◌≡◌, drop}
use Rattle.vk_order.specs.Order.{late_of}
use Rattle.vk_order.proofs.order.late.Given as goal

abbrev pub invariant-loop-i : goal.invariant-loop-i
invariant-loop-i l = late_of (drop l.i l.order) l.place ≡ late_of l.order l.place
