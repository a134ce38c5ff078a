use Rattle.std.proofs.Common.{◌≡◌, ℕ, false, length}
use Rattle.d3d_uses.specs.Ranges.{end_of, is_between}
use Rattle.d3d_uses.proofs.ranges.remove_between.Given as goal

abbrev pub invariant-inner : goal.invariant-inner
invariant-inner l = (a : ℕ) → is_between l.from l.to a ≡ false → end_of l.ends.entries a ≡ end_of l.initial.ends.entries a

abbrev pub decreases-inner : goal.decreases-inner
decreases-inner l = length l.ends.entries
