use Rattle.std.proofs.Common.{◌≡◌, ℕ, ◌<◌, false}
use Rattle.vk_types.specs.Covered.{uncovered}
use Rattle.vk_order.proofs.by_index.least_open.Given as goal

abbrev pub invariant-loop-first : goal.invariant-loop-first
invariant-loop-first l = (x : ℕ) → x < l.first → uncovered l.ops x l.second ≡ false
