-- The bytes of a buffer, as a list and as memory.
use Rattle.std.specs.Prelude.{◌≡◌, ℕ, ◌<◌, List, length, slice_index}
use Rattle.vk_types.specs.Memory.{Memory}

-- the memory has these bytes in the buffer, from its start on
abbrev pub Shows : Memory → ℕ → List ℕ → Type 0
Shows m b bytes = (i : ℕ) → i < length bytes → m b i ≡ slice_index bytes i
