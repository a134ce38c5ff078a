-- What the calls of a board say.
use Rattle.std.specs.Prelude.{◌≡◌, ◌≢◌, ℕ, ◌+◌, ◌*◌, ◌/◌, ◌%◌, ◌≤◌, ◌<◌, List, [], ◌∷◌, length, max, Some, None, IsSome}
use Rattle.dx_types.specs.declared.limits.TheConstants.{CLASS_BLOCKS}
use Rattle.atomic_table.specs.Seated.{TableId}
use Rattle.buffer_blocks.specs.declared.block.Block.{Block}
use Rattle.buffer_blocks.specs.Block.{bytes_of}
use Rattle.slice_board.specs.declared.rule.Pool.{Pool}
use Rattle.slice_board.specs.declared.rule.Hand.{Hand}
use Rattle.slice_board.specs.declared.board.Take.{Take}
use Rattle.slice_board.specs.declared.board.Take.TheVariants.{Got, NoneFree}
use Rattle.dx_types.specs.Classes.{class_length}
use Rattle.slice_board.specs.Hands.{home_of, looked, passed, having_taken, having_given, with_done}
use Rattle.slice_board.specs.Steps.{PoolHas, PoolHasSome, KnowsDone}

-- a seat: of which board, and what it knows
pub record Seated : Type 0 where
  pub board : TableId
  pub hand : Hand

-- these are places from this one on, in order, each with a word that is not one of a block at home
abbrev pub AreNotFree : ℕ → List (ℕ × ℕ) → Type 0
AreNotFree first [] = Unit {0}
AreNotFree first (x ∷ xs) = (x.0 ≡ first) × (x.1 % 4 ≢ 3) × AreNotFree (first + 1) xs

-- the same with words that are not vacant
abbrev pub AreNotVacant : ℕ → List (ℕ × ℕ) → Type 0
AreNotVacant first [] = Unit {0}
AreNotVacant first (x ∷ xs) = (x.0 ≡ first) × (x.1 ≢ 0) × AreNotVacant (first + 1) xs

-- the place was looked at, and no block is at home
pub record NotTakenAt (k : ℕ) (before after : Hand) : Type 0 where
  pub found : ℕ
  pub word : found % 4 ≢ 3
  pub hand : after ≡ looked before k found
  pub pool : PoolHas before k None

-- the block that was at home there was taken, and then the greatest number was read
pub record TakenAt (k : ℕ) (b : Block) (before after : Hand) : Type 0 where
  pub read : ℕ
  pub hand : after ≡ having_taken before k b.retired read
  pub len : length (bytes_of b) ≡ class_length (k / CLASS_BLOCKS)
  pub retired : b.retired ≤ read
  pub done : KnowsDone read before
  pub home : PoolHas before k (Some b)

-- the place was looked at, and is not vacant
pub record NotGivenAt (k : ℕ) (before after : Hand) : Type 0 where
  pub found : ℕ
  pub word : found ≢ 0
  pub hand : after ≡ looked before k found
  pub pool : PoolHasSome before k

-- the block went home there
pub record GivenAt (k : ℕ) (b : Block) (before after : Hand) : Type 0 where
  pub hand : after ≡ having_given before k b
  pub home : PoolHas before k None

-- n places from `first` on were looked at in turn, and none had a block at home. Nothing else changed
pub record FoundNone (first n : ℕ) (before after : Hand) : Type 0 where
  pub looks : List (ℕ × ℕ)
  pub count : length looks ≡ n
  pub words : AreNotFree first looks
  pub hand : after ≡ passed before looks
  pub pool : (p : Pool) → before.pool ≡ Some p → (j : ℕ) → j < n → home_of p (first + j) ≡ None

-- the same of places that are vacant
pub record FoundFull (first n : ℕ) (before after : Hand) : Type 0 where
  pub looks : List (ℕ × ℕ)
  pub count : length looks ≡ n
  pub words : AreNotVacant first looks
  pub hand : after ≡ passed before looks
  pub pool : (p : Pool) → before.pool ≡ Some p → (j : ℕ) → j < n → IsSome (home_of p (first + j))

-- A block was taken, of the place after those that were passed over. `read` is the greatest number, as it was read in this call.
-- For the seat that knows the pool the place is the lowest that has a block.
pub record Taken (class : ℕ) (b : Block) (before after : Hand) : Type 0 where
  pub place : ℕ
  pub within : place < CLASS_BLOCKS
  pub passed_over : Hand
  pub others : FoundNone (CLASS_BLOCKS * class) place before passed_over
  pub read : ℕ
  pub hand : after ≡ having_taken passed_over (CLASS_BLOCKS * class + place) b.retired read
  pub len : length (bytes_of b) ≡ class_length class
  pub retired : b.retired ≤ read
  pub done : KnowsDone read before
  pub home : PoolHas before (CLASS_BLOCKS * class + place) (Some b)

-- A block went home, to the place after those that were passed over. For the seat that knows the pool it is the lowest that has none.
pub record Given (class : ℕ) (b : Block) (before after : Hand) : Type 0 where
  pub place : ℕ
  pub within : place < CLASS_BLOCKS
  pub passed_over : Hand
  pub others : FoundFull (CLASS_BLOCKS * class) place before passed_over
  pub hand : after ≡ having_given passed_over (CLASS_BLOCKS * class + place) b
  pub home : PoolHas before (CLASS_BLOCKS * class + place) None

abbrev pub TakeGives : ℕ → Hand → Take → Hand → Type 0
TakeGives class before (Got b) after = Taken class b before after
TakeGives class before (NoneFree looked) after = (looked ≡ CLASS_BLOCKS) × FoundNone (CLASS_BLOCKS * class) CLASS_BLOCKS before after

-- the greatest number is the greater of what was found and k
pub record Raised (k : ℕ) (before after : Hand) : Type 0 where
  pub found : ℕ
  pub done : KnowsDone found before
  pub hand : after ≡ with_done before (max found k)
