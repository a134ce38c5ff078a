-- The blocks that the device holds, and the memory that their bytes are.
use Rattle.std.specs.Prelude.{◌≡◌, ◌≤◌, ℕ, List, length, map, Option, Some, None}
use Rattle.std.specs.Map.{lookup}
use Rattle.std.specs.Ordering.{nat_cmp}
use Rattle.std.specs.BTreeMap.{is_at}
use Rattle.dx_types.specs.declared.range.Range.{Range}
use Rattle.buffer_blocks.specs.declared.block.Block.{Block}
use Rattle.buffer_blocks.specs.Block.{bytes_of}
use Rattle.vk_types.specs.Memory.{Memory, number_at}

-- the blocks by their numbers, which rise
abbrev pub Held : Type 0
Held = List (ℕ × Block)

-- the block of a number
abbrev pub block_of : Held → ℕ → Option Block
block_of held number = lookup (is_at (nat_cmp number)) held

-- a byte of a block, 0 past its end and where there is no block
abbrev pub byte_at : Option Block → ℕ → ℕ
byte_at None at = 0
byte_at (Some block) at = number_at (bytes_of block) at

-- the byte of each block at each place
abbrev pub memory_of : Held → Memory
memory_of held = λ block at. byte_at (block_of held block) at

-- the place `to` is not before `from`, and the block goes at least up to it
abbrev pub HasPart : Option Block → ℕ → ℕ → Type 0
HasPart None from to = ⊥
HasPart (Some block) from to = (from ≤ to) × (to ≤ length (bytes_of block))

-- the range lies in a block that is held
abbrev pub IsHeld : Held → Range → Type 0
IsHeld held r = HasPart (block_of held r.block) r.from r.to

-- what of a block stays when bytes are written
pub record Outline : Type 0 where
  pub key : ℕ
  pub number : ℕ
  pub retired : ℕ
  pub size : ℕ

abbrev pub outline : ℕ × Block → Outline
outline e = record { key = e.0; number = e.1.number; retired = e.1.retired; size = length (bytes_of e.1) }

-- the same blocks, by number, the chunk that retired them last, and length
abbrev pub AreAlike : Held → Held → Type 0
AreAlike held later = map outline held ≡ map outline later

-- each block is held under its own number
abbrev pub IsNumbered : ℕ × Block → Type 0
IsNumbered e = e.0 ≡ e.1.number
