-- Some bytes of one buffer, as the ranges that they make.
use Rattle.std.specs.Prelude.{◌≡◌, ℕ, ◌<◌, ◌≤◌, nat_le, nat_lt, min, max, Bool, true, ◌&&◌, ◌||◌, List, Option, Some, None, IsSome, if◌then◌else◌}
use Rattle.std.specs.List.{list_any}
use Rattle.std.specs.Map.{lookup}
use Rattle.std.specs.Ordering.{nat_cmp}
use Rattle.std.specs.BTreeMap.{is_at}

-- ranges of one buffer, each from its first byte to just before its end
abbrev pub Ranges : Type 0
Ranges = List (ℕ × ℕ)

-- a byte from one place to another is in the range
abbrev pub overlap : ℕ → ℕ → ℕ × ℕ → Bool
overlap from to r = nat_lt (max from r.0) (min to r.1)

-- a byte from one place to another is in one of the ranges
abbrev pub meet_any : Ranges → ℕ → ℕ → Bool
meet_any rs from to = list_any (overlap from to) rs

-- the new ranges have the bytes of the old ones, those from one place to another, and no other
abbrev pub Adds : Ranges → ℕ → ℕ → Ranges → Type 0
Adds old a b new = (from to : ℕ) → meet_any new from to ≡ (overlap from to (a, b) || meet_any old from to)

-- where the range that begins at a place ends, if one does
abbrev pub end_of : Ranges → ℕ → Option ℕ
end_of rs from = lookup (is_at (nat_cmp from)) rs

-- each range has a byte, and between two of them is a byte that is in neither
pub record IsApart (rs : Ranges) : Type 0 where
  pub full : (a b : ℕ) → end_of rs a ≡ Some b → a < b
  pub gaps : (a b c d : ℕ) → end_of rs a ≡ Some b → end_of rs c ≡ Some d → a < c → b < c

-- ---- the steps of an addition

-- of the ranges that begin at a place or before it, the last
abbrev pub IsLast : Ranges → ℕ → Option (ℕ × ℕ) → Type 0
IsLast rs at None = (a : ℕ) → a ≤ at → end_of rs a ≡ None
IsLast rs at (Some r) = (r.0 ≤ at) × (end_of rs r.0 ≡ Some r.1) × ((a b : ℕ) → a ≤ at → end_of rs a ≡ Some b → a ≤ r.0)

-- an added range that begins at `from` comes to begin at `start`, with the range that it meets or touches there
pub record JoinsStart (rs : Ranges) (from start : ℕ) : Type 0 where
  pub before : start ≤ from
  pub own : start < from → (b : ℕ) × (end_of rs start ≡ Some b) × (from ≤ b)
  pub apart : (a b : ℕ) → end_of rs a ≡ Some b → a < start → b < start

-- an added range that ends at `to` comes to end at `end`, with the range that it meets or touches there
pub record JoinsEnd (rs : Ranges) (to end : ℕ) : Type 0 where
  pub after : to ≤ end
  pub own : to < end → (a : ℕ) × (end_of rs a ≡ Some end) × (a ≤ to)
  pub covers : (a b : ℕ) → end_of rs a ≡ Some b → a ≤ to → b ≤ end

-- an added range that ends at `to` and comes to begin at `start` takes in no range but one that begins there
pub record IsAlone (rs : Ranges) (from to start : ℕ) : Type 0 where
  pub starts : JoinsStart rs from start
  pub only : (a b : ℕ) → end_of rs a ≡ Some b → a ≤ to → (a ≤ start) × (b ≤ to)

-- the new ranges have the added bytes too, and are apart again
pub record Joins (old : Ranges) (from to : ℕ) (new : Ranges) : Type 0 where
  pub adds : Adds old from to new
  pub apart : IsApart new

abbrev pub is_between : ℕ → ℕ → ℕ → Bool
is_between from to a = nat_lt from a && nat_le a to

abbrev pub IsLastBetween : Ranges → ℕ → ℕ → Option ℕ → Type 0
IsLastBetween rs from to None = (a : ℕ) → is_between from to a ≡ true → end_of rs a ≡ None
IsLastBetween rs from to (Some start) = (is_between from to start ≡ true) × IsSome (end_of rs start)

-- without the ranges that begin after `from` and not after `to`
abbrev pub RemovesBetween : Ranges → ℕ → ℕ → Ranges → Type 0
RemovesBetween old from to new = (a : ℕ) → end_of new a ≡ (if is_between from to a then None else end_of old a)
