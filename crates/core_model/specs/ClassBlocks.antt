-- Where the 64 blocks of a class are: at home, on their way home, a buffer's, or retired by a chunk.
use Rattle.std.specs.Prelude.{◌≡◌, ℕ, ◌+◌, ◌*◌, ◌<◌, ◌≤◌, true, List, length, Option, Some, None, slice_get, ◌⊎◌}
use Rattle.core_model.specs.Script.{Turn, Script}
use Rattle.core_model.specs.Chunking.{mark_count}
use Rattle.core_model.specs.CoreState.{Owner, Unmade, Home, Returning, Spare, Live, Retired, Paged, Dropped}
use Rattle.core_model.specs.CoreState.{has_class, Board, Core, marks, open_number}
use Rattle.core_model.specs.OtherParts.{is_among}
use Rattle.core_model.specs.Succession.{only_class}
use Rattle.dx_types.specs.declared.limits.TheConstants.{CLASSES, CLASS_BLOCKS}

pub data Stand : Type 0 where
  -- not made yet, a page, or dropped
  Apart : Stand
  At_home : Stand
  On_way : Stand
  Held : (buffer : ℕ) → Stand
  Gone : (chunk : ℕ) → Stand

abbrev pub stand : Owner → Stand
stand Unmade = Apart
stand (Home k) = At_home
stand (Returning k) = On_way
stand Spare = Apart
stand (Live buffer since bound) = Held buffer
stand (Retired k since bound) = Gone k
stand (Paged k since bound) = Apart
stand Dropped = Apart

-- the block is one of the class
abbrev pub IsInClass : ℕ → ℕ → Type 0
IsInClass class b = (class * CLASS_BLOCKS ≤ b) × (b < class * CLASS_BLOCKS + CLASS_BLOCKS)

-- a buffer of this class may have the block
abbrev pub IsFor : Option ℕ → ℕ → Type 0
IsFor None b = 512 ≤ b
IsFor (Some class) b = (class < CLASSES) × IsInClass class b

-- a block that was made is at home, on its way, a buffer's or retired. What is at home stands on the board, what a
-- buffer holds is the buffer's block and of its class, and what the open chunk retired is among its marks, which are
-- no more than its turns give
pub record ClassRight (script : Script) (board : Board) (at : ℕ → Stand) (blocks : ℕ
    → Option ℕ) (number : ℕ) (marked : List ℕ) (turns : List Turn) : Type 0 where
  pub made : (class i : ℕ) → class < CLASSES → i < board.made class → i < CLASS_BLOCKS
      → at (class * CLASS_BLOCKS + i) ≡ Apart → ⊥
  pub home : (class b : ℕ) → class < CLASSES → IsInClass class b → at b ≡ At_home → (place : ℕ)
      × (slice_get (board.places class) place ≡ Some (Some b))
  pub held : (b r : ℕ) → at b ≡ Held r → (blocks r ≡ Some b) × IsFor (script.class r) b
  pub gone : (b k : ℕ) → at b ≡ Gone k → k ≤ number
  pub retired : (b : ℕ) → at b ≡ Gone number → has_class b ≡ true → is_among b marked ≡ true
  pub few : length (only_class marked) ≤ mark_count script turns

abbrev pub ClassesRight : Script → Core → Type 0
ClassesRight script core = ClassRight script core.board (λ b. stand (core.owner b)) core.blocks (open_number core)
    (marks core.open_chunk) core.open_chunk.turns

-- App may take a block of the class: a new one, or one that is at home. Else one is on its way home, or retired by a
-- chunk that was handed over, and comes home as the other parts go on
abbrev pub HasBlockFor : Core → ℕ → Type 0
HasBlockFor core class =
    (core.board.made class < CLASS_BLOCKS)
    ⊎ (((place : ℕ) × (b : ℕ) × (slice_get (core.board.places class) place ≡ Some (Some b)))
    ⊎ ((b : ℕ) × IsInClass class b × ((stand (core.owner b) ≡ On_way)
    ⊎ ((k : ℕ) × (stand (core.owner b) ≡ Gone k) × (k < open_number core)))))
