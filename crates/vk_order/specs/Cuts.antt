-- Where ranges begin, in order, and which of these places a range has.
use Rattle.std.specs.Prelude.{◌≡◌, ℕ, ◌<◌, ◌≤◌, Bool, true, ◌&&◌, ◌||◌, ◌==◌, nat_lt, ◌⊎◌, List, length, Some, slice_get}
use Rattle.dx_types.specs.declared.range.Range.{Range}
use Rattle.vk_order.specs.declared.cuts.Cut.{Cut}
use Rattle.vk_order.specs.declared.tree.Reach.{Reach}

-- by blocks, and in a block by bytes
abbrev pub precedes : Cut → Cut → Bool
precedes a b = nat_lt a.block b.block || ((a.block == b.block) && nat_lt a.at b.at)

abbrev pub begin_of : Range → Cut
begin_of r = record { block = r.block; at = r.from }

abbrev pub end_of : Range → Cut
end_of r = record { block = r.block; at = r.to }

-- each cut precedes those behind it
abbrev pub IsRising : List Cut → Type 0
IsRising cuts = (j k : ℕ) (a b : Cut) → j < k → slice_get cuts j ≡ Some a → slice_get cuts k ≡ Some b → precedes a b ≡ true

-- all places
pub record IsWhole (cuts : List Cut) (reach : Reach) : Type 0 where
  pub from : reach.from ≡ 0
  pub to : length cuts ≤ reach.to
  pub some : 0 < reach.to

-- the reach has each cut in the range, and begins with the range's own, or has all places
pub record IsReach (cuts : List Cut) (r : Range) (reach : Reach) : Type 0 where
  pub begin : (slice_get cuts reach.from ≡ Some (begin_of r)) ⊎ IsWhole cuts reach
  pub inside : (k : ℕ) (c : Cut) → slice_get cuts k ≡ Some c → c.block ≡ r.block → r.from ≤ c.at → c.at < r.to → (reach.from ≤ k) × (k < reach.to)
