use Rattle.std.proofs.Common.{◌≡◌, ℕ, ◌<◌, false}
use Rattle.vk_order.specs.Order.{is_broken}
use Rattle.vk_order.proofs.order.first_broken.Given as goal

abbrev pub invariant-loop-second : goal.invariant-loop-second
invariant-loop-second l = (x y : ℕ) → y < l.second → is_broken l.ops l.order x y ≡ false
