-- What commands touched, and the sets of their bytes.
use Rattle.std.specs.Prelude.{◌≡◌, ℕ, ◌<◌, ◌≤◌, Bool, true, false, cond, List, length, slice_get, Some}
use Rattle.vk_types.specs.declared.access.Access.{Access}
use Rattle.vk_types.specs.declared.touch.Touch.{Touch}
use Rattle.vk_types.specs.declared.command.Command.{Command}
use Rattle.vk_types.specs.Memory.{covers}
use Rattle.vk_types.specs.Hazards.{touches, touches_conflict, has_write}
use Rattle.std.specs.List.{list_any}
use Rattle.barrier_track.specs.declared.touches.Seen.{Seen}
use Rattle.barrier_track.specs.Bytes.{Blocks, has_byte}

-- touches of commands, in order, and room for so many more
pub record Touched : Type 0 where
  pub seen : List Seen
  pub room : ℕ

-- every touch
abbrev pub any_access : Access → Bool
any_access access = true

-- The set has the bytes of the first of these touches that access them so, and no byte that none of them accesses so.
pub record IsSet (does : Access → Bool) (seen : List Seen) (settled : ℕ) (bytes : Blocks) : Type 0 where
  pub has : (i : ℕ) (s : Seen) → i < settled → slice_get seen i ≡ Some s → does s.touch.access ≡ true
      → (block at : ℕ) → covers s.touch.range block at ≡ true → has_byte bytes block at ≡ true
  pub only : (block at : ℕ) → has_byte bytes block at ≡ true
      → (i : ℕ) × (s : Seen) × (slice_get seen i ≡ Some s) × (does s.touch.access ≡ true)
      × (covers s.touch.range block at ≡ true)

-- The two sets have the bytes that the first of these touches access, and that they write.
pub record HaveBytes (seen : List Seen) (settled : ℕ) (touched written : Blocks) : Type 0 where
  pub within : settled ≤ length seen
  pub accessed : IsSet any_access seen settled touched
  pub changed : IsSet has_write seen settled written

-- no byte of the touch is in the set whose bytes it conflicts with: a write conflicts with each access, a read with
-- writes
abbrev pub Misses : Blocks → Blocks → Touch → Type 0
Misses touched written t =
    let bytes = cond (has_write t.access) touched written in
    (block at : ℕ) → covers t.range block at ≡ true → has_byte bytes block at ≡ false

-- the first of the command's touches do so
abbrev pub AllMiss : Blocks → Blocks → Command → ℕ → Type 0
AllMiss touched written c count =
    (i : ℕ) (t : Touch) → i < count → slice_get (touches c) i ≡ Some t → Misses touched written t

-- of the touches from one place to just before another none conflicts with the command
abbrev pub NoneClashes : Command → List Seen → ℕ → ℕ → Type 0
NoneClashes c seen from to =
    (i : ℕ) (s : Seen) → from ≤ i → i < to → slice_get seen i ≡ Some s
    → list_any (touches_conflict s.touch) (touches c) ≡ false
