-- Sets of bytes. A map has a place wherever bytes begin to be in the set or out of it, so that a byte is as the last
-- place says that stands at it or before it.
use Rattle.std.specs.Prelude.{◌≡◌, ℕ, zero, suc, ◌<◌, ◌≤◌, nat_le, nat_lt, Bool, true, false, cond, ◌&&◌, ◌||◌, List}
use Rattle.std.specs.Prelude.{[], Option, Some, None}
use Rattle.std.specs.Map.{lookup}
use Rattle.std.specs.Ordering.{nat_cmp}
use Rattle.std.specs.BTreeMap.{is_at}
use Rattle.dx_types.specs.declared.range.Range.{Range}
use Rattle.vk_types.specs.Memory.{covers}

-- bytes of one block, by the places where they change
abbrev pub Ranges : Type 0
Ranges = List (ℕ × Bool)

-- what the place says, if there is one
abbrev pub start_of : Ranges → ℕ → Option Bool
start_of rs at = lookup (is_at (nat_cmp at)) rs

-- what there is, or else this
abbrev pub or_else : Option Bool → Bool → Bool
or_else None b = b
or_else (Some a) b = a

-- a byte is as the last place says at it or before it
abbrev pub byte_by : (ℕ → Option Bool) → ℕ → Bool
byte_by starts zero = or_else (starts zero) false
byte_by starts (suc at) = or_else (starts (suc at)) (byte_by starts at)

-- a byte is in the set
abbrev pub byte_at : Ranges → ℕ → Bool
byte_at rs at = byte_by (start_of rs) at

-- the bytes of each block
abbrev pub Blocks : Type 0
Blocks = List (ℕ × Ranges)

-- the bytes, or none
abbrev pub ranges_if : Option Ranges → Ranges
ranges_if None = []
ranges_if (Some rs) = rs

-- the bytes of a block
abbrev pub ranges_of : Blocks → ℕ → Ranges
ranges_of blocks block = ranges_if (lookup (is_at (nat_cmp block)) blocks)

-- a byte of a block is in the set
abbrev pub has_byte : Blocks → ℕ → ℕ → Bool
has_byte blocks block at = byte_at (ranges_of blocks block) at

-- ---- questions

-- a place lies from the first byte to just before the end
abbrev pub is_within : ℕ → ℕ → ℕ → Bool
is_within from to at = nat_le from at && nat_lt at to

-- whether one of the bytes from one place to another is in the set
abbrev pub Meets : (ℕ → Bool) → ℕ → ℕ → Bool → Type 0
Meets has from to true = (at : ℕ) × (from ≤ at) × (at < to) × (has at ≡ true)
Meets has from to false = (at : ℕ) → from ≤ at → at < to → has at ≡ false

-- the last place at this one or before it
abbrev pub IsLast : Ranges → ℕ → Option (ℕ × Bool) → Type 0
IsLast rs at None = (a : ℕ) → a ≤ at → start_of rs a ≡ None
IsLast rs at (Some r) = (r.0 ≤ at) × (start_of rs r.0 ≡ Some r.1) × ((a : ℕ) → r.0 < a → a ≤ at → start_of rs a ≡ None)

-- the first place from one to just before another
abbrev pub IsFirst : Ranges → ℕ → ℕ → Option (ℕ × Bool) → Type 0
IsFirst rs from to None = (a : ℕ) → from ≤ a → a < to → start_of rs a ≡ None
IsFirst rs from to (Some r) =
    (from ≤ r.0) × (r.0 < to) × (start_of rs r.0 ≡ Some r.1) × ((a : ℕ) → from ≤ a → a < r.0 → start_of rs a ≡ None)

-- ---- steps

-- there is no place any more from one to just before another
abbrev pub Forgets : Ranges → ℕ → ℕ → Ranges → Type 0
Forgets old from to new = (a : ℕ) → start_of new a ≡ cond (is_within from to a) None (start_of old a)

-- the bytes from one place to another are in the set too
abbrev pub Adds : Ranges → ℕ → ℕ → Ranges → Type 0
Adds old from to new = (at : ℕ) → byte_at new at ≡ (is_within from to at || byte_at old at)

-- each byte is as it was
abbrev pub IsSame : Ranges → Ranges → Type 0
IsSame old new = (at : ℕ) → byte_at new at ≡ byte_at old at

-- the bytes of a range are in the set too, where this is so
abbrev pub AddsIf : Bool → Blocks → Range → Blocks → Type 0
AddsIf so old r new = (block at : ℕ) → has_byte new block at ≡ ((so && covers r block at) || has_byte old block at)

-- each byte of each block is as it was
abbrev pub KeepsBytes : Blocks → Blocks → Type 0
KeepsBytes old new = (block at : ℕ) → has_byte new block at ≡ has_byte old block at

-- some bytes of a range may be in the set too, where this is so
pub record Grows (so : Bool) (old : Blocks) (r : Range) (new : Blocks) : Type 0 where
  pub keeps : (block at : ℕ) → has_byte old block at ≡ true → has_byte new block at ≡ true
  pub only : (block at : ℕ) → has_byte new block at ≡ true → ((so && covers r block at) || has_byte old block at) ≡ true
