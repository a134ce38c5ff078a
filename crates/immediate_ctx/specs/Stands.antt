-- How what the recorder keeps stands for a state of the core.
use Rattle.std.specs.Prelude.{◌≡◌, ℕ, suc, Bool, true, false, List, [], ◌∷◌, ◌++◌, length, map, take, Option, Some}
use Rattle.std.specs.Prelude.{None, is_some, slice_get}
use Rattle.std.specs.Option.{option_map}
use Rattle.base_lemmas.specs.IdMap as ids
use Rattle.std.specs.List.{AllByRecursion}
use Rattle.dx_types.specs.declared.range.Range.{Range}
use Rattle.dx_types.specs.declared.range.ResRange.{ResRange}
use Rattle.vk_types.specs.Memory.{range}
use Rattle.staging_pages.specs.PageState.{PageState}
use Rattle.vk_types.specs.declared.op.VkOp.{VkOp}
use Rattle.core_model.specs.Chunking.{in_list, last_call}
use Rattle.core_model.specs.Script.{Play, Create, Discard, No_overwrite, Stage, Command, Destroy, Create_shader}
use Rattle.core_model.specs.Script.{Mark_query, Set_state, Turn, Item, Script}
use Rattle.core_model.specs.Playing.{Plays}
use Rattle.core_model.specs.Readings.{Reading}
use Rattle.vk_types.specs.declared.message.Post.{Post}
use Rattle.core_model.specs.CoreState.{Segment, Message, of_messages, of_running, last_finished, Page, Newest, Board}
use Rattle.core_model.specs.CoreState.{Core, later, open_number, taken_count, has_class, Owner, Unmade, Home, Returning, Spare}
use Rattle.core_model.specs.CoreState.{Live, Retired, Paged, Dropped}
use Rattle.core_model.specs.CoreState as model
use Rattle.core_model.specs.Messages.{page_of}
use Rattle.cs_chunk.specs.declared.chunk.Chunk.{Chunk}
use Rattle.cs_chunk.specs.Chunk.{entries_of, pages_of}
use Rattle.chunk_parts.specs.Chunks.{placed_of}
use Rattle.core_model.specs.Adding.{has_block, with_turn}
use Rattle.core_model.specs.OtherParts.{is_among, used_in}
use Rattle.immediate_ctx.specs.declared.listing.Own.{Own}
use Rattle.immediate_ctx.specs.declared.listing.Own.TheVariants.{Op, Handed}
use Rattle.immediate_ctx.specs.Flight.{OnTheirWay, is_snapped}
use Rattle.immediate_ctx.specs.Listing.{Kept, expand}
use Rattle.immediate_ctx.specs.AppState.{AppState}
use Rattle.immediate_ctx.specs.Buffers as table
use Rattle.immediate_ctx.specs.ClassBlocks.{Made}
use Rattle.immediate_ctx.specs.Due.{counts_of}
use Rattle.immediate_ctx.specs.OpenChunk.{Filled}
use Rattle.immediate_ctx.specs.Staging.{Pool, put_by}
use Rattle.immediate_ctx.specs.declared.buffers.Buffer.{Buffer}

-- what is kept of the chunks on their way is what the state has of them: last calls, places, and blocks of staging
-- buffers. The Posts of the first chunks were taken
pub record FlightIs (first behind : List Segment) (is_staging : ℕ → Bool) (f : OnTheirWay) : Type 0 where
  pub taken : f.taken ≡ length first
  pub done : f.done ≡ last_finished first
  pub last_calls : map (λ c. c.upto) f.kept ≡ map (λ s. last_call s.turns) behind
  pub placed : map (λ c. c.placed) f.kept ≡ map (λ s. s.placed) behind
  pub named : map (λ c. c.named) f.kept ≡ map (λ s. map (λ r. r.block) s.staging) behind
  pub used : (b : ℕ) → is_staging b ≡ true
      → map (λ c. is_among b c.used) f.kept ≡ map (λ s. has_block b s.bound) behind

abbrev pub FlightStands : Core → OnTheirWay → Type 0
FlightStands core f = FlightIs core.taken (later core) core.is_staging f

-- how many chunks were handed over among these
abbrev pub handed_in : List Own → ℕ
handed_in [] = 0
handed_in (Op o ∷ os) = handed_in os
handed_in (Handed ∷ os) = suc (handed_in os)

-- where these are the operations of the chunks that were handed over, what is kept of the listing expands to the
-- state's
pub record ListingStands (ops : List (List VkOp)) (core : Core) (k : Kept) : Type 0 where
  pub traced : k.traced ≡ true
  pub each : length ops ≡ handed_in k.own
  pub listing : expand ops k.own ≡ core.listing
  pub brought : k.batches ≡ take (taken_count core) ops

-- the chunks that are on their way behind the first Post
abbrev pub behind_posts : List Message → Core → List Segment
behind_posts ms core = of_messages ms ++ (of_messages core.completions ++
    (of_running core.accepted ++ (core.submissions ++ (core.batches ++ core.chunks))))

-- the Post has the places of this message's chunk, and a copy of each block that the chunk names and that no later
-- chunk uses; what it
-- names are staging buffers' blocks
pub record IsPostFor (core : Core) (m : Message) (rest : List Segment) (p : Post) : Type 0 where
  pub placed : p.placed.items ≡ m.segment.placed
  pub staging : (b : ℕ) → has_block b m.segment.staging ≡ true → core.is_staging b ≡ true
  pub copied : (b : ℕ) → has_block b m.segment.staging ≡ true → used_in rest b ≡ false → is_snapped p b ≡ true

-- what is kept of the open chunk is what the state has of it
pub record OpenIs (script : Script) (is_staging : ℕ → Bool) (s : Segment) (f : Filled) : Type 0 where
  pub counts : f.counts ≡ counts_of script s.turns
  pub placed : f.placed ≡ s.placed
  pub named : f.named ≡ map (λ r. r.block) s.staging
  pub used : (b : ℕ) → is_staging b ≡ true → is_among b f.used ≡ has_block b s.bound

-- the last call that is done with, and whether a list is running, by the turns of the open chunk
abbrev pub PositionIs : List Turn → ℕ → Bool → Type 0
PositionIs [] passed running = Unit {0}
PositionIs (t ∷ ts) passed running = (last_call (t ∷ ts) ≡ passed) × (in_list (t ∷ ts) ≡ running)

-- a page as the state has it
abbrev pub page_shown : PageState → Page
page_shown p = page_of p.block

abbrev pub newest_shown : PageState → Newest
newest_shown p = record { page = page_shown p; used = p.used }

-- the pages that came back, the newest page, the next number, and the open chunk's pages
pub record PagesAre (state : model.Pool) (chunk_pages : List Page) (filled_pages : List PageState) (p : Pool) : Type 0 where
  pub spare : map page_of p.spare ≡ state.spare
  pub newest : option_map newest_shown p.newest ≡ state.newest
  pub next : p.next ≡ state.next
  pub pages : map page_shown (put_by filled_pages p.newest) ≡ chunk_pages

-- each live buffer has its block, its size and its class. `names` has the call that created the buffer with an id
pub record BuffersAre (script : Script) (blocks : ℕ → Option ℕ) (names : ℕ → ℕ) (live : table.Live) : Type 0 where
  pub block : (id : ℕ) → option_map (λ (b : Buffer). b.block) (ids.get live id) ≡ blocks (names id)
  pub size : (id : ℕ) (b : Buffer) → ids.get live id ≡ Some b → script.size (names id) ≡ b.size
  pub class : (id : ℕ) (b : Buffer) → ids.get live id ≡ Some b → script.class (names id) ≡ b.class
  pub staging : (id : ℕ) (b : Buffer) → ids.get live id ≡ Some b → script.is_staging (names id) ≡ b.is_staging

-- the chunk that gave a block up, if no call took it since
abbrev pub given_up : Owner → Option ℕ
given_up Unmade = None
given_up (Home k) = Some k
given_up (Returning k) = Some k
given_up Spare = None
given_up (Live buffer since bound) = None
given_up (Retired k since bound) = Some k
given_up (Paged k since bound) = None
given_up Dropped = None

-- so many blocks of each class were made, and these were given up
pub record BlocksAre (board : Board) (owner : ℕ → Owner) (m : Made) : Type 0 where
  pub made : (class n : ℕ) → slice_get m.made class ≡ Some n → board.made class ≡ n
  pub marked : (b k : ℕ) → has_class b ≡ true → given_up (owner b) ≡ Some k → ids.get m.marks b ≡ Some k

-- the recorder stands for a state of the core. The listing and what Posts brought are spoken of on their own
pub record AppStands (script : Script) (names : ℕ → ℕ) (core : Core) (s : AppState) : Type 0 where
  pub ended : s.ended ≡ core.ended
  pub position : PositionIs core.open_chunk.turns s.passed s.in_list
  pub flight : FlightStands core s.flight
  pub open_chunk : OpenIs script core.is_staging core.open_chunk s.open_chunk
  pub pool : PagesAre core.pool core.open_chunk.pages s.open_chunk.pages s.pool
  pub buffers : BuffersAre script core.blocks names s.buffers
  pub blocks : BlocksAre core.board core.owner s.blocks

-- the chunk is the open one of the state: its number, its last call, where its items stand, and its pages
pub record IsOpenChunk (core : Core) (chunk : Chunk) : Type 0 where
  pub number : chunk.number ≡ open_number core
  pub upto : chunk.upto ≡ last_call core.open_chunk.turns
  pub placed : map placed_of (entries_of chunk) ≡ core.open_chunk.placed
  pub pages : map page_shown (pages_of chunk) ≡ core.open_chunk.pages

-- bytes of the buffer that has an id, as bytes of the buffer that a call created
abbrev pub of_names : (ℕ → ℕ) → ResRange → Range
of_names names r = range (names r.res) r.from r.to

-- each range is one of a live buffer
abbrev pub AreLive : table.Live → List ResRange → Type 0
AreLive live rs = AllByRecursion (λ r. is_some (ids.get live r.res) ≡ true) rs

-- a live buffer that may be destroyed: it has a name of its own, and its block is its own; one of no class is none of the
-- board's
pub record IsDestroyed (names : ℕ → ℕ) (owner : ℕ → Owner) (buffers : table.Live) (id : ℕ) (b : Buffer) : Type 0 where
  pub live : ids.get buffers id ≡ Some b
  pub only : (other : ℕ) → names other ≡ names id → other ≡ id
  pub since : ℕ
  pub bound : ℕ → Bool
  pub owned : owner b.block ≡ Live (names id) since bound
  pub own : b.class ≡ None → has_class b.block ≡ false

-- a play that changes no block, and these ranges that it binds
abbrev pub IsPlain : Play → List ResRange → Type 0
IsPlain (Create buffer bytes) rs = ⊥
IsPlain (Discard buffer from bytes) rs = ⊥
IsPlain (No_overwrite buffer from bytes) rs = ⊥
IsPlain (Stage bytes target skip) rs = ⊥
IsPlain (Command work skip) rs = Unit {0}
IsPlain (Destroy buffer) rs = ⊥
IsPlain Create_shader rs = ⊥
IsPlain (Mark_query query begins) rs = rs ≡ []
IsPlain Set_state rs = Unit {0}

-- the item's turn leads the state to one that the recorder stands for then
abbrev pub PlaysTo : Reading → Script → (ℕ → ℕ) → (call item : ℕ) → Bool → Play → List ResRange → List Turn → Core
    → AppState → Type 0
PlaysTo reading script names call item ends play rs ts core new =
    (next : Core) × Plays reading script call item play (map (of_names names) rs)
    (with_turn (Item call item ends play (map (of_names names) rs)) ts core) next
    × AppStands script names next new
