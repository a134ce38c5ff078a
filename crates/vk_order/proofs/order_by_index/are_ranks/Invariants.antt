use Rattle.std.proofs.Common.{◌≡◌, ℕ, ◌+◌, ◌<◌, Some, slice_get, slice_index}
use Rattle.vk_order.proofs.order_by_index.are_ranks.Given as goal

abbrev pub invariant-loop-i : goal.invariant-loop-i
invariant-loop-i l = (j p : ℕ) → j < l.i → slice_get l.order j ≡ Some p → slice_index l.ranks p ≡ j + 1
