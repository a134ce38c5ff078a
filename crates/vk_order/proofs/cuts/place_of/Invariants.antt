use Rattle.std.proofs.Common.{◌≡◌, ℕ, ◌<◌, ◌≤◌, ◌-◌, true, false, Some, length, slice_get}
use Rattle.vk_order.specs.declared.cuts.Cut.{Cut}
use Rattle.vk_order.specs.Cuts.{precedes}
use Rattle.vk_order.proofs.cuts.place_of.Given as goal

abbrev pub invariant-halves : goal.invariant-halves
invariant-halves l = record {
  order : l.low ≤ l.high;
  within : l.high ≤ length l.cuts;
  below : (k : ℕ) (c : Cut) → k < l.low → slice_get l.cuts k ≡ Some c → precedes c l.cut ≡ true;
  above : (k : ℕ) (c : Cut) → l.high ≤ k → slice_get l.cuts k ≡ Some c → precedes c l.cut ≡ false;
}

abbrev pub decreases-halves : goal.decreases-halves
decreases-halves l = l.high - l.low
