use Rattle.std.proofs.Common.{◌≡◌, ℕ, ◌<◌, false}
use Rattle.vk_types.specs.Covered.{uncovered}
use Rattle.vk_order.specs.Index.{IndexHolds}
use Rattle.vk_order.proofs.by_index.covered_by_index.Given as goal

abbrev pub invariant-seconds : goal.invariant-seconds
invariant-seconds l = record {
  none : (x y : ℕ) → y < l.second → uncovered l.ops x y ≡ false;
  holds : IndexHolds l.ops l.places.items l.second l.index;
}
