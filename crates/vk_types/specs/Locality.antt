-- What it means that an effect is local to a list of touches: it reads what they read, and changes what they write.
use Rattle.std.specs.Prelude.{◌≡◌, ℕ, Bool, true, false, ◌&&◌, List, ◌⊎◌}
use Rattle.std.specs.List.{list_any}
use Rattle.vk_types.specs.declared.touch.Touch.{Touch}
use Rattle.vk_types.specs.Memory.{Memory, covers}
use Rattle.vk_types.specs.Hazards.{has_read, is_written}

-- some touch reads this byte
abbrev pub is_read : List Touch → ℕ → ℕ → Bool
is_read ts block at = list_any (λ t. has_read t.access && covers t.range block at) ts

-- the two memories have the same bytes wherever the touches read
abbrev pub AgreeOnReads : List Touch → Memory → Memory → Type 0
AgreeOnReads ts m n = (block at : ℕ) → is_read ts block at ≡ true → m block at ≡ n block at

-- the byte ends as the same from both memories, or each keeps its own
abbrev pub EndsAlike : (Memory → Memory) → Memory → Memory → ℕ → ℕ → Type 0
EndsAlike f m n block at = (f m block at ≡ f n block at) ⊎ ((f m block at ≡ m block at) × (f n block at ≡ n block at))

-- the effect keeps each byte that no touch writes, and the bytes that the touches read decide alone which others it
-- changes and to what
pub record IsLocal (ts : List Touch) (f : Memory → Memory) : Type 0 where
  pub keeps : (m : Memory) (block at : ℕ) → is_written ts block at ≡ false → f m block at ≡ m block at
  pub reads : (m n : Memory) → AgreeOnReads ts m n → (block at : ℕ) → EndsAlike f m n block at

-- the bytes that the touches read decide alone what is told of a memory
abbrev pub DependsOnReads : {A : Type 0} → List Touch → (Memory → A) → Type 0
DependsOnReads ts f = (m n : Memory) → AgreeOnReads ts m n → f m ≡ f n
