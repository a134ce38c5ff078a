-- What holds of a run between steps beside the invariant of what is listed: where blocks and pages stand, which
-- blocks are of staging buffers, and what is bound.
use Rattle.std.specs.Prelude.{◌≡◌, ℕ, suc, ◌+◌, ◌*◌, ◌<◌, ◌≤◌, Bool, true, false, List, [], ◌∷◌, ◌++◌, Option, Some}
use Rattle.std.specs.Prelude.{None, slice_get}
use Rattle.std.specs.List.{list_any, AllByRecursion}
use Rattle.base_lemmas.specs.Lists.{Pairwise}
use Rattle.vk_types.specs.Effects.{Meaning}
use Rattle.vk_types.specs.Entries.{Entry}
use Rattle.dx_types.specs.declared.range.Range.{Range}
use Rattle.dx_types.specs.declared.limits.TheConstants.{CLASSES, CLASS_BLOCKS}
use Rattle.core_model.specs.Script.{Turn, Script}
use Rattle.core_model.specs.CoreState.{Page, Segment, Owner, Unmade, Home, Returning, Spare, Live, Retired, Paged}
use Rattle.core_model.specs.CoreState.{Dropped, has_class, Board, Newest, Pool, Core, later, taken_count, open_number}
use Rattle.core_model.specs.Chunking.{entry_count, joined}
use Rattle.core_model.specs.Readings.{Reading}
use Rattle.core_model.specs.Adding.{has_block}
use Rattle.core_model.specs.Lawful.{binds_buffer, bound_by, is_bound}
use Rattle.core_model.specs.Invariant.{turns_of, Good}

-- Owners ------------------------------------------------------------------------------------------------------------

-- a page of this chunk
abbrev pub IsPageOf : ℕ → Owner → Type 0
IsPageOf n Unmade = ⊥
IsPageOf n (Home k) = ⊥
IsPageOf n (Returning k) = ⊥
IsPageOf n Spare = ⊥
IsPageOf n (Live buffer since bound) = ⊥
IsPageOf n (Retired k since bound) = ⊥
IsPageOf n (Paged k since bound) = k ≡ n
IsPageOf n Dropped = ⊥

-- no byte from there on is bound, if it is a page
abbrev pub IsFreeFrom : ℕ → Owner → Type 0
IsFreeFrom at Unmade = Unit {0}
IsFreeFrom at (Home k) = Unit {0}
IsFreeFrom at (Returning k) = Unit {0}
IsFreeFrom at Spare = Unit {0}
IsFreeFrom at (Live buffer since bound) = Unit {0}
IsFreeFrom at (Retired k since bound) = Unit {0}
IsFreeFrom at (Paged k since bound) = (i : ℕ) → at ≤ i → bound i ≡ false
IsFreeFrom at Dropped = Unit {0}

-- it was taken when the greatest fence was at most this one, if it is a buffer's or a page
abbrev pub IsTakenBy : ℕ → Owner → Type 0
IsTakenBy fence Unmade = Unit {0}
IsTakenBy fence (Home k) = Unit {0}
IsTakenBy fence (Returning k) = Unit {0}
IsTakenBy fence Spare = Unit {0}
IsTakenBy fence (Live buffer since bound) = since ≤ fence
IsTakenBy fence (Retired k since bound) = Unit {0}
IsTakenBy fence (Paged k since bound) = since ≤ fence
IsTakenBy fence Dropped = Unit {0}

-- a buffer has it, or had it last
abbrev pub IsOfBuffer : Owner → Type 0
IsOfBuffer Unmade = ⊥
IsOfBuffer (Home k) = ⊥
IsOfBuffer (Returning k) = ⊥
IsOfBuffer Spare = ⊥
IsOfBuffer (Live buffer since bound) = Unit {0}
IsOfBuffer (Retired k since bound) = Unit {0}
IsOfBuffer (Paged k since bound) = ⊥
IsOfBuffer Dropped = Unit {0}

-- it was made
abbrev pub IsMade : Owner → Type 0
IsMade Unmade = ⊥
IsMade (Home k) = Unit {0}
IsMade (Returning k) = Unit {0}
IsMade Spare = Unit {0}
IsMade (Live buffer since bound) = Unit {0}
IsMade (Retired k since bound) = Unit {0}
IsMade (Paged k since bound) = Unit {0}
IsMade Dropped = Unit {0}

-- the byte was bound since a live buffer took the block
abbrev pub bound_at : Owner → ℕ → Bool
bound_at Unmade i = false
bound_at (Home k) i = false
bound_at (Returning k) i = false
bound_at Spare i = false
bound_at (Live buffer since bound) i = bound i
bound_at (Retired k since bound) i = false
bound_at (Paged k since bound) i = false
bound_at Dropped i = false

-- Pages -------------------------------------------------------------------------------------------------------------

-- pages have blocks of their own
abbrev pub AreApart : List Page → Type 0
AreApart ps = Pairwise (λ p q. p.block ≡ q.block → ⊥) ps

-- the pages of each chunk are its own, the first of which is one more than k
abbrev pub ArePaged : ℕ → (ℕ → Owner) → List Segment → Type 0
ArePaged k owner [] = Unit {0}
ArePaged k owner (s ∷ ss) = AllByRecursion (λ p. IsPageOf (suc k) (owner p.block)) s.pages × AreApart s.pages
    × ArePaged (suc k) owner ss

-- the newest page is the open chunk's, and free behind its used bytes
abbrev pub IsNewest : ℕ → (ℕ → Owner) → Option Newest → Type 0
IsNewest number owner None = Unit {0}
IsNewest number owner (Some n) = IsPageOf number (owner n.page.block) × IsFreeFrom n.used (owner n.page.block)

-- What holds --------------------------------------------------------------------------------------------------------

-- the board, the blocks that were not made yet and the spare pages, as the owners have them; and when blocks were taken
pub record PlacesRight (board : Board) (pool : Pool) (owner : ℕ → Owner) (fence : ℕ) : Type 0 where
  pub home : (class place b : ℕ) → slice_get (board.places class) place ≡ Some (Some b) → (class * CLASS_BLOCKS ≤ b)
      × (b < class * CLASS_BLOCKS + CLASS_BLOCKS) × (k : ℕ) × (owner b ≡ Home k)
  pub apart : (class p q b : ℕ) → slice_get (board.places class) p ≡ Some (Some b)
      → slice_get (board.places class) q ≡ Some (Some b) → p ≡ q
  pub unmade : (class k : ℕ) → class < CLASSES → board.made class ≤ k → k < CLASS_BLOCKS
      → owner (class * CLASS_BLOCKS + k) ≡ Unmade
  pub next : 512 ≤ pool.next
  pub fresh : (b : ℕ) → pool.next ≤ b → owner b ≡ Unmade
  pub spare : AllByRecursion (λ p. owner p.block ≡ Spare) pool.spare
  pub spares : AreApart pool.spare
  pub taken : (b : ℕ) → IsTakenBy fence (owner b)

-- the pages of the chunks whose posts App did not take, the first of which is one more than k, and of the open one
pub record PagesRight (owner : ℕ → Owner) (k number : ℕ) (chunks : List Segment) (pages : List Page)
    (top : Option Newest) : Type 0 where
  pub handed : ArePaged k owner chunks
  pub opened : AllByRecursion (λ p. IsPageOf number (owner p.block)) pages
  pub apart : AreApart pages
  pub newest : IsNewest number owner top

-- which blocks are of staging buffers: those of no class that such a buffer has or had last
pub record BlocksRight (script : Script) (blocks : ℕ → Option ℕ) (is_staging : ℕ → Bool) (owner : ℕ
    → Owner) : Type 0 where
  pub alike : (r b : ℕ) → blocks r ≡ Some b → is_staging b ≡ script.is_staging r
  pub held : (b : ℕ) → is_staging b ≡ true → IsOfBuffer (owner b) × (has_class b ≡ false)

-- what a chunk names as staging blocks are such, and what it binds was made
abbrev pub Names : (ℕ → Bool) → (ℕ → Owner) → List Range → List Range → Type 0
Names is_staging owner staging bound = ((b : ℕ) → has_block b staging ≡ true → is_staging b ≡ true)
    × ((b : ℕ) → has_block b bound ≡ true → IsMade (owner b))

-- what is bound of a buffer's block was bound since the buffer was created or discarded last
abbrev pub BoundRight : (ℕ → Option ℕ) → (ℕ → Owner) → List Turn → Type 0
BoundRight blocks owner past = (r b i : ℕ) → blocks r ≡ Some b → bound_at (owner b) i ≡ true
    → is_bound r past false i ≡ true

-- beside the invariant
pub record Beside (script : Script) (core : Core) : Type 0 where
  pub places : PlacesRight core.board core.pool core.owner core.fence
  pub pages : PagesRight core.owner (taken_count core) (open_number core) (later core) core.open_chunk.pages
      core.pool.newest
  pub blocks : BlocksRight script core.blocks core.is_staging core.owner
  pub named : AllByRecursion (λ s. Names core.is_staging core.owner s.staging s.bound) (core.taken ++ later core)
  pub named_open : Names core.is_staging core.owner core.open_chunk.staging core.open_chunk.bound
  pub bound : BoundRight core.blocks core.owner core.past

-- a turn of these binds a byte of the buffer
abbrev pub uses_buffer : ℕ → List Turn → Bool
uses_buffer r ts = list_any (λ t. binds_buffer r (bound_by t)) ts

-- where the block of a live staging buffer is bound, a turn binds the buffer
abbrev pub IsUsed : Script → (ℕ → Option ℕ) → List Turn → List Range → Type 0
IsUsed script blocks turns bound = (r b : ℕ) → script.is_staging r ≡ true → blocks r ≡ Some b
    → has_block b bound ≡ true → uses_buffer r turns ≡ true

-- the turns that were taken are those of the chunks, and bind what the chunks bind; without an item the open chunk
-- has no writes and no commands
pub record Traced (script : Script) (blocks : ℕ → Option ℕ) (front : List Turn) (chunks : List Segment)
    (turns : List Turn) (bound : List Range) (writes commands : List Entry) : Type 0 where
  pub past : front ≡ joined (turns_of chunks) ++ turns
  pub used : AllByRecursion (λ s. IsUsed script blocks s.turns s.bound) chunks
  pub used_open : IsUsed script blocks turns bound
  pub quiet : entry_count turns ≡ 0 → (writes ≡ []) × (commands ≡ [])

abbrev pub IsTraced : Script → Core → Type 0
IsTraced script core = Traced script core.blocks core.past (core.taken ++ later core) core.open_chunk.turns
    core.open_chunk.bound core.open_chunk.writes core.open_chunk.commands

-- the invariant of runs, and what holds beside it; the posts that App took are those up to the greatest fence or fewer
pub record Kept (meaning : Meaning) (reading : Reading) (script : Script) (core : Core) : Type 0 where
  pub good : Good meaning reading script core
  pub beside : Beside script core
  pub fenced : taken_count core ≤ core.fence
  pub traced : IsTraced script core
