-- How a call gets a block of a class: one that the board gives and that the recorder knows of, else a new one.
use Rattle.std.specs.Prelude.{◌≡◌, ℕ, suc, ◌+◌, ◌*◌, ◌<◌, ◌≤◌, List, replicate, Option, Some, None, slice_get}
use Rattle.std.specs.Prelude.{slice_set, ◌⊎◌}
use Rattle.buffer_blocks.specs.declared.block.Block.{Block}
use Rattle.buffer_blocks.specs.Block.{bytes_of}
use Rattle.dx_types.specs.Classes.{class_length}
use Rattle.dx_types.specs.declared.limits.TheConstants.{CLASS_BLOCKS}
use Rattle.base_lemmas.specs.IdMap as ids
use Rattle.slice_board.specs.declared.board.Take.{Take}
use Rattle.slice_board.specs.declared.board.Take.TheVariants.{Got, NoneFree}
use Rattle.immediate_ctx.specs.Tables.{Numbers}

-- how many blocks of each class were made, and the marked blocks that no call took since
pub record Made : Type 0 where
  pub made : List ℕ
  pub marks : Numbers

-- the recorder knows of the block: its number is one of the class, and the chunk of its `retired` marked it, was
-- handed over, and no
-- call took it since
pub record IsKnown (class handed : ℕ) (marks : Numbers) (block : Block) : Type 0 where
  pub low : class * CLASS_BLOCKS ≤ block.number
  pub high : block.number < class * CLASS_BLOCKS + CLASS_BLOCKS
  pub marked : ids.get marks block.number ≡ Some block.retired
  pub handed_over : block.retired ≤ handed

-- the board gave no block, or one that the recorder doesn't know of, which is dropped
abbrev pub GaveNone : ℕ → ℕ → Numbers → Take → Type 0
GaveNone class handed marks (Got block) = IsKnown class handed marks block → ⊥
GaveNone class handed marks (NoneFree looked) = Unit {0}

-- a new block of the class, with the class's next number
pub record MakesNew (class : ℕ) (old : Made) (block : Block) (new : Made) : Type 0 where
  pub count : ℕ
  pub counted : slice_get old.made class ≡ Some count
  pub room : count < CLASS_BLOCKS
  pub number : block.number ≡ class * CLASS_BLOCKS + count
  pub retired : block.retired ≡ 0
  pub zeros : bytes_of block ≡ replicate (class_length class) 0
  pub after : new ≡ record old { made = slice_set old.made class (suc count) }

-- the block that the board gave
pub record TakesKnown (class handed : ℕ) (old : Made) (block : Block) (new : Made) : Type 0 where
  pub known : IsKnown class handed old.marks block
  pub after : new ≡ record old { marks = ids.remove old.marks block.number }

-- from what the board answers: its block where the recorder knows of it, else a new one, and none where 64 were made
abbrev pub GetsBlock : ℕ → ℕ → Made → Take → Option Block → Made → Type 0
GetsBlock class handed old answer (Some block) new =
    ((answer ≡ Got block) × TakesKnown class handed old block new)
    ⊎ (GaveNone class handed old.marks answer × MakesNew class old block new)
GetsBlock class handed old answer None new =
    GaveNone class handed old.marks answer × (slice_get old.made class ≡ Some CLASS_BLOCKS) × (new ≡ old)
