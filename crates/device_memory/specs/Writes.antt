-- Bytes with a piece of them written, and blocks whose bytes were exchanged.
use Rattle.std.specs.Prelude.{◌≡◌, ◌-◌, ℕ, Bool, cond, ◌&&◌, nat_le, nat_lt, List, [], ◌∷◌, length, Option, Some, None}
use Rattle.std.specs.Ordering.{nat_cmp}
use Rattle.std.specs.BTreeMap.{is_at}
use Rattle.buffer_blocks.specs.declared.block.Block.{Block}
use Rattle.buffer_blocks.specs.Block.{bytes_of, with_bytes}
use Rattle.vk_types.specs.Memory.{number_at}
use Rattle.device_memory.specs.Held.{Held}

-- a place lies from one place to just before another
abbrev pub is_within : ℕ → ℕ → ℕ → Bool
is_within from to at = nat_le from at && nat_lt at to

-- the bytes from one place to another are the piece's, and all others as before. There are as many as before
pub record IsPut (from to : ℕ) (piece : ℕ → ℕ) (old new : List ℕ) : Type 0 where
  pub size : length new ≡ length old
  pub bytes : (at : ℕ) → number_at new at ≡ cond (is_within from to at) (piece (at - from)) (number_at old at)

-- the same of the bytes of a block, which else stays as it was
pub record IsPutIn (from to : ℕ) (piece : ℕ → ℕ) (old new : Block) : Type 0 where
  pub rest : new ≡ with_bytes old (bytes_of new)
  pub bytes : IsPut from to piece (bytes_of old) (bytes_of new)

-- the bytes of a block, none where there is no block
abbrev pub bytes_if : Option Block → List ℕ
bytes_if None = []
bytes_if (Some block) = bytes_of block

-- the blocks with other bytes in the one of this number, if there is one
abbrev pub exchanged : ℕ → List ℕ → Held → Held
exchanged number bytes [] = []
exchanged number bytes (e ∷ es) = cond (is_at (nat_cmp number) e.0) ((e.0, with_bytes e.1 bytes) ∷ es) (e ∷ exchanged number bytes es)
