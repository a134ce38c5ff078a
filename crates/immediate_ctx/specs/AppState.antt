-- The recorder's state as data, and what its calls do to it.
use Rattle.std.specs.Prelude.{◌≡◌, ◌<◌, ◌≤◌, ℕ, ◌-◌, Bool, true, false, cond, not, []}
use Rattle.std.specs.Prelude.{◌++◌, Option, Some, None, map, replicate}
use Rattle.base_lemmas.specs.IdMap as ids
use Rattle.dx_types.specs.declared.limits.TheConstants.{CLASSES}
use Rattle.cs_chunk.specs.declared.chunk.Chunk.{Chunk}
use Rattle.cs_chunk.specs.Chunk.{entries_of, pages_of}
use Rattle.chunk_parts.specs.Chunks.{placed_of}
use Rattle.vk_types.specs.declared.message.Post.{Post}
use Rattle.vk_types.specs.declared.op.VkOp.TheVariants as op
use Rattle.dx_types.specs.declared.reply.Reply.TheVariants as reply
use Rattle.immediate_ctx.specs.declared.step.AppStep.{AppStep}
use Rattle.immediate_ctx.specs.declared.step.AppStep.TheVariants as step
use Rattle.immediate_ctx.specs.declared.listing.Own.TheVariants.{Op, Handed}
use Rattle.immediate_ctx.specs.Buffers.{Live}
use Rattle.immediate_ctx.specs.Flight.{OnItsWay, OnTheirWay, TakesFirst, awaited, last_upto, open_number, with_sent}
use Rattle.immediate_ctx.specs.Listing.{Kept, with_own, with_batch}
use Rattle.immediate_ctx.specs.OpenChunk.{Filled, nothing_filled}
use Rattle.immediate_ctx.specs.Tables.{Numbers, Bytes, with_snaps, with_values}
use Rattle.immediate_ctx.specs.ClassBlocks.{Made}
use Rattle.immediate_ctx.specs.Staging.{Pool, empty_pool, put_by}

pub record AppState : Type 0 where
  -- the last call that is done with, whether a list is running behind it, and whether the end was said
  pub passed : ℕ
  pub in_list : Bool
  pub ended : Bool
  -- the chunks that were handed over, and the Posts taken
  pub flight : OnTheirWay
  -- whether a Post was taken since the last fence
  pub unfenced : Bool
  -- what the open chunk holds
  pub open_chunk : Filled
  -- the recorder's part of the listing, and the batches that Posts brought
  pub listing : Kept
  -- the live buffers by their ids, the blocks of classes, the pages, and the next number of a block of no class
  pub buffers : Live
  pub blocks : Made
  pub pool : Pool
  -- the newest copies and counts that Posts brought
  pub copies : Bytes
  pub values : Numbers

-- a Post was taken
pub record TakesPost (p : Post) (old new : AppState) : Type 0 where
  pub passed : new.passed ≡ old.passed
  pub in_list : new.in_list ≡ old.in_list
  pub ended : new.ended ≡ old.ended
  pub flight : TakesFirst old.flight new.flight
  pub unfenced : new.unfenced ≡ true
  pub open_chunk : new.open_chunk ≡ old.open_chunk
  pub listing : new.listing ≡ with_batch p.ops.items old.listing
  pub buffers : new.buffers ≡ old.buffers
  pub blocks : new.blocks ≡ old.blocks
  pub pool : new.pool ≡ record old.pool { spare = old.pool.spare ++ p.pages.items }
  pub copies : new.copies ≡ with_snaps old.copies p.snaps.items
  pub values : new.values ≡ with_values old.values p.values.items

-- where a Post was taken since the last fence, one of the newest of them stands in the listing
abbrev pub fenced : AppState → AppState
fenced s = cond s.unfenced (record s
    { listing = with_own (Op (op.Fence s.flight.taken)) s.listing; unfenced = false }) s

-- a part of this call was taken, which is its last one or isn't
abbrev pub with_passed : ℕ → Bool → AppState → AppState
with_passed call ends s = record s { passed = cond ends call (call - 1); in_list = not ends }

-- the open chunk goes on its way: what is kept of it, and a place in the listing for its operations
abbrev pub sent_of : AppState → OnItsWay
sent_of s = record {
  upto = s.passed;
  placed = s.open_chunk.placed;
  used = s.open_chunk.used;
  named = s.open_chunk.named;
}

abbrev pub without_chunk : AppState → AppState
without_chunk s = record s {
  flight = with_sent (sent_of s) s.flight;
  open_chunk = nothing_filled;
  listing = with_own Handed s.listing;
  pool = record s.pool { newest = None };
}

-- the open chunk was handed over: it has what was filled into it, and its last call is the last that is done with
pub record HandsOver (old : AppState) (chunk : Chunk) (new : AppState) : Type 0 where
  pub number : chunk.number ≡ open_number old.flight
  pub upto : chunk.upto ≡ old.passed
  pub entries : entries_of chunk ≡ old.open_chunk.entries
  pub places : map placed_of (entries_of chunk) ≡ old.open_chunk.placed
  pub pages : pages_of chunk ≡ put_by old.open_chunk.pages old.pool.newest
  pub after : new ≡ without_chunk old

-- handing the open chunk over: it waits where 32 are on their way, and nothing changes then
abbrev pub Hands : AppState → AppStep → AppState → Type 0
Hands old (step.Hand chunk) new = (awaited old.flight ≡ None) × HandsOver old chunk new
Hands old (step.Waits used) new = (awaited old.flight ≡ Some used) × (new ≡ old)
Hands old step.NoMemory new = Unit {0}
Hands old _ new = ⊥

-- the end comes where the chunk that was handed over last is finished
abbrev pub Ends : ℕ → AppState → AppStep → AppState → Type 0
Ends calls old (step.Ended said) new =
    (last_upto old.flight ≤ old.flight.done) × (said ≡ reply.Finished calls) × (new ≡ record old { ended = true })
Ends calls old (step.Waits used) new =
    (used ≡ last_upto old.flight) × (old.flight.done < used) × (new ≡ old)
Ends calls old _ new = ⊥

-- before the first call
abbrev pub at_start : Bool → AppState
at_start traced = record {
  passed = 0;
  in_list = false;
  ended = false;
  flight = record { taken = 0; done = 0; kept = [] };
  unfenced = false;
  open_chunk = nothing_filled;
  listing = record { traced = traced; own = []; batches = [] };
  buffers = ids.empty;
  blocks = record { made = replicate CLASSES 0; marks = ids.empty };
  pool = empty_pool;
  copies = ids.empty;
  values = ids.empty;
}
