use Rattle.std.proofs.Common.{◌≡◌, ℕ, ◌<◌, ◌≤◌, false, length}
use Rattle.vk_types.specs.Covered.{uncovered}
use Rattle.vk_order.proofs.Best.{IsEnd}
use Rattle.vk_order.proofs.hazards.covered.Given as goal

abbrev pub invariant-firsts : goal.invariant-firsts
invariant-firsts l = ((x y : ℕ) → x < l.first → y < l.bound → uncovered l.ops x y ≡ false) × (l.bound ≤ length l.ops) × IsEnd l.ops l.bound l.end
