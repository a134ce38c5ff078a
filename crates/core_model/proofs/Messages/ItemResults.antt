-- What each item makes of a state, field by field, and where it is placed.
use Rattle.std.proofs.Common.{◌≡◌, ℕ, suc, ◌<◌, Bool, true, false, cond, max, nat_le, List, [], ◌∷◌, ◌++◌, refl}
use Rattle.std.proofs.Common.{Option, Some, None, sym, append-nil}
use Rattle.dx_types.specs.declared.range.Range.{Range}
use Rattle.vk_types.specs.declared.command.Cond.{Cond}
use Rattle.vk_types.specs.declared.command.Command as c
use Rattle.vk_types.specs.declared.command.Work.{Work}
use Rattle.vk_types.specs.declared.op.Barrier.{Barrier}
use Rattle.vk_types.specs.declared.message.Placed.{Placed}
use Rattle.vk_types.specs.declared.message.QueryMark.{QueryMark}
use Rattle.vk_types.specs.declared.op.VkOp.{VkOp}
use Rattle.vk_types.specs.declared.op.VkOp.TheVariants as op
use Rattle.vk_types.specs.Effects.{Host_write, Device}
use Rattle.vk_types.specs.Entries.{Entry}
use Rattle.core_model.specs.Script.{Script, updated}
use Rattle.core_model.specs.Renaming.{BlockMap}
use Rattle.core_model.specs.CoreState.{Page, Owner, Live, Board, Pool, Core, open_number, taken_count}
use Rattle.core_model.specs.Readings.{Reading}
use Rattle.core_model.specs.Owners.{nothing_bound, bind_owner, retired}
use Rattle.core_model.specs.HostBytes.{if_some}
use Rattle.core_model.specs.Placing.{PageChoice, Staged, Stages}
use Rattle.core_model.specs.Adding.{with_write, fenced, placed_at, staged_range, page_owner, epoch_after, new_entry}
use Rattle.core_model.specs.Playing.{HasBlock, Own, Of_class}
use Rattle.vk_types.specs.BarrierCauses.{barrier_before, since_barrier, maybe_barrier}

-- what an item leaves of a state
pub record Result : Type 0 where
  pub placed : Placed
  pub writes : List Entry
  pub commands : List Entry
  pub ops : List VkOp
  pub bound : List Range
  pub staging : List Range
  pub pages : List Page
  pub queries : List QueryMark
  pub blocks : BlockMap
  pub owner : ℕ → Owner
  pub board : Board
  pub pool : Pool
  pub is_staging : ℕ → Bool
  pub listing : List VkOp
  pub contents : List (List ℕ)
  pub fence : ℕ
  pub epoch : ℕ
  pub host_acts : ℕ
  pub count : ℕ
  pub recent : List c.Command
  pub copies : ℕ → ℕ → ℕ

-- the state with its turn taken, and what the item leaves
abbrev pub applied : Result → Core → Core
applied x old = record old {
  open_chunk = record old.open_chunk {
    writes = x.writes;
    commands = x.commands;
    ops = x.ops;
    placed = old.open_chunk.placed ++ x.placed ∷ [];
    bound = x.bound;
    staging = x.staging;
    pages = x.pages;
    queries = x.queries;
  };
  blocks = x.blocks;
  owner = x.owner;
  board = x.board;
  pool = x.pool;
  is_staging = x.is_staging;
  listing = x.listing;
  contents = x.contents;
  fence = x.fence;
  epoch = x.epoch;
  host_acts = x.host_acts;
  commands = x.count;
  recent = x.recent;
  copies = x.copies;
}

-- nothing but a place
abbrev pub only_placed : Placed → Core → Result
only_placed p old = record {
  placed = p;
  writes = old.open_chunk.writes;
  commands = old.open_chunk.commands;
  ops = old.open_chunk.ops;
  bound = old.open_chunk.bound;
  staging = old.open_chunk.staging;
  pages = old.open_chunk.pages;
  queries = old.open_chunk.queries;
  blocks = old.blocks;
  owner = old.owner;
  board = old.board;
  pool = old.pool;
  is_staging = old.is_staging;
  listing = old.listing;
  contents = old.contents;
  fence = old.fence;
  epoch = old.epoch;
  host_acts = old.host_acts;
  count = old.commands;
  recent = old.recent;
  copies = old.copies;
}

-- a command more, with the barrier before it if there is one
abbrev pub next_command : ℕ → Work → Option Cond → Result → c.Command
next_command call w skip x = record { number = suc x.count; call = call; work = w; cond = skip }

abbrev pub next_barrier : ℕ → Work → Option Cond → Result → Option Barrier
next_barrier call w skip x = barrier_before x.recent (next_command call w skip x)

abbrev pub commanded : ℕ → Work → Option Cond → ℕ → Result → Result
commanded call w skip chunk x = record x {
  commands = x.commands ++ record {
    act = Device (next_command call w skip x);
    chunk = chunk;
    epoch =
        epoch_after (next_barrier call w skip x) x.epoch;
    fence = 0;
    number = 0;
  } ∷ [];
  ops = x.ops ++ (maybe_barrier (next_barrier call w skip x) ++ op.Command (next_command call w skip x) ∷ []);
  epoch = epoch_after (next_barrier call w skip x) x.epoch;
  count = suc x.count;
  recent = since_barrier x.recent (next_command call w skip x) (next_barrier call w skip x);
}

-- A host write ------------------------------------------------------------------------------------------------------

-- the host writes of the open chunk with one more, if there are bytes
abbrev pub more_writes : Range → List ℕ → Core → List Entry → List Entry
more_writes r [] core xs = xs
more_writes r (b ∷ bs) core xs = xs ++ new_entry core (Host_write r (b ∷ bs)) ∷ []

abbrev pub with_written : List Entry → List VkOp → List (List ℕ) → ℕ → Core → Core
with_written writes listing contents acts core = record core {
  open_chunk =
      record core.open_chunk { writes = writes };
  listing = listing;
  contents = contents;
  host_acts = acts;
}

pub write_parts : (call : ℕ) (r : Range) (l : List ℕ) (core : Core) → (listing : List VkOp)
    × (contents : List (List ℕ)) × (acts : ℕ)
    × (with_write call r l core ≡ with_written (more_writes r l core core.open_chunk.writes) listing contents acts core)
write_parts call r [] core = (core.listing, core.contents, core.host_acts, refl)
write_parts call r (b ∷ bs) core = (
  core.listing ++ op.HostWrite r call ∷ [],
  core.contents ++ (b ∷ bs) ∷ [],
  suc core.host_acts,
  refl,
)

pub written_bytes : (call : ℕ) (r : Range) (bytes : List ℕ) (core : Core)
    → (write_parts call r bytes core).1 ≡ core.contents ++ if_some bytes
unfolding write_parts
written_bytes call r [] core = sym (append-nil core.contents)
written_bytes call r (b ∷ bs) core = refl

pub fence_parts : (k : ℕ) (core : Core) → (listing : List VkOp) × (fence : ℕ)
    × (fenced k core ≡ record core { listing = listing; fence = fence })
fence_parts k core = by (nat_le k (taken_count core))
  where
    by : (b : Bool) → (listing : List VkOp) × (fence : ℕ)
        × (cond b core (record core { listing = core.listing ++ op.Fence k ∷ []; fence = max core.fence k })
        ≡ record core { listing = listing; fence = fence })
    by true = (core.listing, core.fence, refl)
    by false = (core.listing ++ op.Fence k ∷ [], max core.fence k, refl)

pub block_parts : (reading : Reading) (script : Script) (buffer block : ℕ) (old mid : Core)
    → HasBlock reading script buffer block old mid → mid ≡ record old { board = mid.board; pool = mid.pool }
block_parts reading script buffer block old mid (Own _ _ _ _ e) = refl
block_parts reading script buffer block old mid (Of_class _ _ _ class _ _ board e t) = refl

-- Where an item is placed -------------------------------------------------------------------------------------------

-- what goes on of a block's owner where its block is neither taken nor given up
pub data Placement (reading : Reading) (script : Script) (old : Core) : Placed → (ℕ → Owner) → List Page → Pool
    → Type 0 where
  -- no block, and ranges may be bound
  Nowhere : (call item : ℕ) → Placement reading script old (placed_at call item None None None) old.owner
      old.open_chunk.pages old.pool
  Bound_alone : (call item : ℕ) (rs : List Range) → Placement reading script old
      (placed_at call item None None None) (λ b. bind_owner rs b (old.owner b)) old.open_chunk.pages old.pool
  -- a block for a buffer, whose own is given up if it had one
  Taken_new : (call item buffer block since : ℕ) (mid : Core) → HasBlock reading script buffer block old mid
      → Placement reading script old (placed_at call item (Some block) None None)
      (updated block (Live buffer since nothing_bound) old.owner) old.open_chunk.pages mid.pool
  Taken_for : (call item buffer block since : ℕ) (mid : Core) → HasBlock reading script buffer block old mid
      → Placement reading script old (placed_at call item (Some block) (old.blocks buffer) None)
      (updated block (Live buffer since nothing_bound) (retired (old.blocks buffer) (open_number old) old.owner))
      old.open_chunk.pages mid.pool
  Given_up : (call item buffer : ℕ)
      → Placement reading script old (placed_at call item None (old.blocks buffer) None)
      (retired (old.blocks buffer) (open_number old) old.owner) old.open_chunk.pages old.pool
  -- a range of a page
  Staged_there : (call item len : ℕ) (s : Staged) (pool : Pool) (choice : PageChoice) (rs : List Range)
      → Stages choice len s old.pool pool → 0 < len
      → Placement reading script old (placed_at call item None None (Some (staged_range s len)))
      (λ b. bind_owner rs b (updated s.block (page_owner (open_number old) old.fence s.added (old.owner s.block))
      old.owner b)) (old.open_chunk.pages ++ s.added) pool
