use Rattle.std.proofs.Common.{◌≡◌, ℕ, ◌<◌, true, take}
use Rattle.vk_order.specs.Order.{is_new_at}
use Rattle.vk_order.proofs.Marks.{AreMarks}
use Rattle.vk_order.proofs.order_by_index.odd_place.Given as goal

abbrev pub invariant-loop-at : goal.invariant-loop-at
invariant-loop-at l = record {
  marks : AreMarks l.ops (take l.at l.order) l.marks.items;
  new : (i : ℕ) → i < l.at → is_new_at l.ops l.order i ≡ true;
}
