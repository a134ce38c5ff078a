-- What each step of the board tells its caller.
use Rattle.std.specs.Prelude.{◌≡◌, ℕ, ◌+◌, ◌/◌, ◌%◌, ◌≤◌, ◌<◌, ◌==◌, max, ◌∷◌, length, Option, Some, None, IsSome, MatchBool}
use Rattle.dx_types.specs.declared.limits.TheConstants.{CLASS_BLOCKS}
use Rattle.atomic_table.specs.Table.{Me, Step, rest}
use Rattle.buffer_blocks.specs.declared.block.Block.{Block}
use Rattle.buffer_blocks.specs.Block.{bytes_of}
use Rattle.slice_board.specs.declared.rule.Pool.{Pool}
use Rattle.slice_board.specs.declared.rule.Hand.{Hand}
use Rattle.dx_types.specs.Classes.{class_length}
use Rattle.slice_board.specs.Hands.{home_of, looked, holding, holding_taken, released, with_read, with_done}

abbrev pub Mine : Type 0
Mine = Me (Option Block) Hand

abbrev pub Act : Type 0
Act = Step (Option Block)

-- the pool of the one seat has this at the place
abbrev pub PoolHas : Hand → ℕ → Option Block → Type 0
PoolHas v k b = (p : Pool) → v.pool ≡ Some p → home_of p k ≡ b

abbrev pub PoolHasSome : Hand → ℕ → Type 0
PoolHasSome v k = (p : Pool) → v.pool ≡ Some p → IsSome (home_of p k)

pub record Takes (k found : ℕ) (before after : Mine) : Type 0 where
  pub block : Block
  pub slot : after.1 ≡ (k, Some block) ∷ before.1
  pub hand : after.0 ≡ holding_taken before.0 k block.retired
  pub len : length (bytes_of block) ≡ class_length (k / CLASS_BLOCKS)
  pub pool : PoolHas before.0 k (Some block)

pub record Finds (k found : ℕ) (before after : Mine) : Type 0 where
  pub slot : after.1 ≡ before.1
  pub hand : after.0 ≡ looked before.0 k found

-- a fetch_and: the block there is taken, or there is none
abbrev pub TriesTake : Act → Mine → ℕ → Mine → Type 0
TriesTake s before found after = (k : ℕ) → s.word ≡ k + 1 →
    MatchBool (found % 4 == 3) (Takes k found before after) (Finds k found before after × PoolHas before.0 k None)

pub record Reserves (k found : ℕ) (before after : Mine) : Type 0 where
  pub slot : after.1 ≡ (k, None) ∷ before.1
  pub hand : after.0 ≡ holding before.0 k
  pub pool : PoolHas before.0 k None

-- a compare-exchange from vacant: the place is held, or it was not vacant
abbrev pub TriesGive : Act → Mine → ℕ → Mine → Type 0
TriesGive s before found after = (k : ℕ) → s.word ≡ k + 1 →
    MatchBool (found == 0) (Reserves k found before after) (Finds k found before after × PoolHasSome before.0 k)

-- the held place becomes vacant
abbrev pub Empties : Act → Mine → ℕ → Mine → Type 0
Empties s before found after = (k : ℕ) → s.word ≡ k + 1 → (after.1 ≡ rest before.1) × (after.0 ≡ released before.0 k None)

-- a block goes home to the held place
abbrev pub Fills : Act → Mine → ℕ → Mine → Type 0
Fills s before found after = (k : ℕ) (b : Block) → s.word ≡ k + 1 → before.1 ≡ (k, Some b) ∷ rest before.1 → (after.1 ≡ rest before.1) × (after.0 ≡ released before.0 k (Some b))

-- what the number says of what the seat knew
pub record KnowsDone (found : ℕ) (v : Hand) : Type 0 where
  pub small : found < 4611686018427387904
  pub read : v.read ≤ found
  pub most : v.most ≤ found
  pub pool : (p : Pool) → v.pool ≡ Some p → found ≡ p.done

abbrev pub Reads : Act → Mine → ℕ → Mine → Type 0
Reads s before found after = (after.1 ≡ before.1) × (after.0 ≡ with_read before.0 found) × KnowsDone found before.0

abbrev pub Raises : Act → Mine → ℕ → Mine → Type 0
Raises s before found after = (after.1 ≡ before.1) × (after.0 ≡ with_done before.0 (max found s.first)) × KnowsDone found before.0
