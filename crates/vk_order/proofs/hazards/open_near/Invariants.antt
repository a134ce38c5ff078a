use Rattle.std.proofs.Common.{◌≡◌, ℕ, ◌<◌, false}
use Rattle.vk_types.specs.Covered.{uncovered}
use Rattle.vk_order.proofs.hazards.open_near.Given as goal

abbrev pub invariant-loop-y : goal.invariant-loop-y
invariant-loop-y l = (y : ℕ) → y < l.y → uncovered l.ops l.x y ≡ false
