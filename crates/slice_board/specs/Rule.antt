-- The rule of the board. Word 0 is not used, word k + 1 is that of place k, and word 513 is the greatest number that was raised.
-- A place's word is 0 if it is vacant, 1 + 4 r if it is busy, and 3 + 4 r if a block with `retired` r is at home there.
use Rattle.std.specs.Prelude.{◌≡◌, ℕ, ◌+◌, ◌*◌, ◌/◌, ◌%◌, ◌<◌, ◌≤◌, List, length, Option, Some, None, slice_index}
use Rattle.dx_types.specs.declared.limits.TheConstants.{CLASS_BLOCKS}
use mathlib.Core.Option.{Option as Maybe, none, some}
use lib.ListN.{get_elem?}
use Rattle.atomic_table.specs.Table.{State}
use Rattle.buffer_blocks.specs.declared.block.Block.{Block}
use Rattle.buffer_blocks.specs.Block.{bytes_of}
use Rattle.slice_board.specs.declared.rule.Pool.{Pool}
use Rattle.slice_board.specs.declared.rule.Hand.{Hand}
use Rattle.dx_types.specs.Classes.{class_length}
use Rattle.slice_board.specs.Hands.{home_of}

abbrev pub Cells : Type 0
Cells = State (Option Block) Hand

abbrev pub done_of : Cells → ℕ
done_of s = slice_index s.words 513

-- what lies at the place k, if it is at home
abbrev pub home_at : Cells → ℕ → Maybe (Maybe (Option Block))
home_at s k = get_elem? s.homes k

-- the block fits the place
pub record IsHome (done k : ℕ) (b : Block) : Type 0 where
  pub retired : b.retired ≤ done
  pub len : length (bytes_of b) ≡ class_length (k / CLASS_BLOCKS)

-- the word w and the slot h of the place k agree
pub data IsPlace (done k w : ℕ) (h : Maybe (Maybe (Option Block))) : Type 0 where
  vacant : w ≡ 0 → h ≡ some (some None) → IsPlace done k w h
  busy : w % 4 ≡ 1 → h ≡ some none → IsPlace done k w h
  free : (b : Block) → w ≡ 3 + 4 * b.retired → h ≡ some (some (Some b)) → IsHome done k b → IsPlace done k w h

-- the one seat knows the whole pool
pub record IsPooled (s : Cells) (v : Hand) (p : Pool) : Type 0 where
  pub alone : length s.views ≡ 1
  pub done : done_of s ≡ p.done
  pub count : length p.homes ≡ 512
  pub vacant : (k : ℕ) → k < 512 → home_at s k ≡ some (some None) → home_of p k ≡ None
  pub home : (k : ℕ) (b : Block) → k < 512 → home_at s k ≡ some (some (Some b)) → home_of p k ≡ Some b
  pub out : (k : ℕ) → k < 512 → home_at s k ≡ some none → v.held ≡ Some k

pub record IsSeated (s : Cells) (v : Hand) : Type 0 where
  pub read : v.read ≤ done_of s
  pub most : v.most ≤ done_of s
  pub held : (k : ℕ) → v.held ≡ Some k → (k < 512) × (home_at s k ≡ some none)
  pub pooled : (p : Pool) → v.pool ≡ Some p → IsPooled s v p

-- some seat holds the place
abbrev pub HasHolder : List Hand → ℕ → Type 0
HasHolder views k = (i : ℕ) × (v : Hand) × (get_elem? views i ≡ some v) × (v.held ≡ Some k)

pub record IsSound (s : Cells) : Type 0 where
  pub words : length s.words ≡ 514
  pub slots : length s.homes ≡ 512
  pub small : done_of s < 4611686018427387904
  pub places : (k : ℕ) → k < 512 → IsPlace (done_of s) k (slice_index s.words (k + 1)) (home_at s k)
  pub seats : (i : ℕ) (v : Hand) → get_elem? s.views i ≡ some v → IsSeated s v
  -- each busy place is held by exactly one seat
  pub owned : (k : ℕ) → k < 512 → home_at s k ≡ some none → HasHolder s.views k
  pub apart : (i j : ℕ) (v w : Hand) (k : ℕ) → get_elem? s.views i ≡ some v → get_elem? s.views j ≡ some w → v.held ≡ Some k → w.held ≡ Some k → i ≡ j
