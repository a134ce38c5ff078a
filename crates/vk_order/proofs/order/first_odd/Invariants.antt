use Rattle.std.proofs.Common.{◌≡◌, ℕ, ◌<◌, true, take}
use Rattle.vk_order.specs.Order.{is_new_at}
use Rattle.vk_order.proofs.Rising.{AreBelow}
use Rattle.vk_order.proofs.order.first_odd.Given as goal

abbrev pub invariant-loop-at : goal.invariant-loop-at
invariant-loop-at l = record {
  new : (i : ℕ) → i < l.at → is_new_at l.ops l.order i ≡ true;
  below : AreBelow l.past (take l.at l.order);
}
