-- What an item adds to the open chunk and the listing.
use Rattle.std.specs.Prelude.{ℕ, suc, ◌+◌, Bool, cond, not, max, ◌&&◌, ◌==◌, nat_le, List, [], ◌∷◌, ◌++◌, Option}
use Rattle.std.specs.Prelude.{Some, None}
use Rattle.std.specs.List.{list_any}
use Rattle.dx_types.specs.declared.range.Range.{Range}
use Rattle.dx_types.specs.Classes.{class_length}
use Rattle.vk_types.specs.declared.command.Work.{Work}
use Rattle.vk_types.specs.declared.command.Cond.{Cond}
use Rattle.vk_types.specs.declared.message.Placed.{Placed}
use Rattle.vk_types.specs.declared.op.Barrier.{Barrier}
use Rattle.vk_types.specs.Memory.{range}
use Rattle.vk_types.specs.Effects.{Act, Host_write, Device}
use Rattle.vk_types.specs.BarrierCauses.{barrier_before, since_barrier, maybe_barrier}
use Rattle.vk_types.specs.Entries.{Entry}
use Rattle.core_model.specs.Script.{Turn, Script, updated}
use Rattle.core_model.specs.Renaming.{BlockMap, block_of, range_on, cond_on}
use Rattle.core_model.specs.CoreState.{Page, Owner, Unmade, Home, Returning, Spare, Live, Retired, Paged, Dropped}
use Rattle.core_model.specs.CoreState.{Pool, Said, Core, taken_count, open_number}
use Rattle.core_model.specs.Owners.{nothing_bound, bind_owner, is_block}
use Rattle.core_model.specs.Placing.{Staged}
use Rattle.vk_types.specs.declared.command.Work.TheVariants as work
use Rattle.vk_types.specs.declared.command.Command as c
use Rattle.vk_types.specs.declared.op.VkOp.TheVariants as op

-- a turn is taken
abbrev pub with_turn : Turn → List Turn → Core → Core
with_turn turn turns core = record core {
  past = core.past ++ turn ∷ [];
  future = turns;
  open_chunk = record core.open_chunk { turns = core.open_chunk.turns ++ turn ∷ [] };
}

abbrev pub with_reply : Said → Core → Core
with_reply said core = record core { replies = core.replies ++ said ∷ [] }

-- the entry of an act of the host, which no barrier orders
abbrev pub new_entry : Core → Act → Entry
new_entry core a = record { act = a; chunk = open_number core; epoch = 0; fence = core.fence; number = core.host_acts }

-- the host writes bytes to a range, by a call. Nothing is written to an empty range
abbrev pub with_write : ℕ → Range → List ℕ → Core → Core
with_write call r [] core = core
with_write call r (b ∷ bs) core = record core {
  open_chunk = record core.open_chunk {
    writes = core.open_chunk.writes
        ++ new_entry core (Host_write r (b ∷ bs)) ∷ [];
  };
  listing = core.listing ++ op.HostWrite r call ∷ [];
  contents = core.contents ++ (b ∷ bs) ∷ [];
  host_acts = suc core.host_acts;
}

-- a fence stands before the host write into a block that a chunk retired whose post was not taken
abbrev pub fenced : ℕ → Core → Core
fenced k core =
    cond (nat_le k (taken_count core)) core (record core {
      listing = core.listing ++ op.Fence k ∷ [];
      fence =
          max core.fence k;
    })

-- the next command, and the barrier before it, if there is one
abbrev pub new_command : Core → ℕ → Work → Option Cond → c.Command
new_command core call w skip = record { number = suc core.commands; call = call; work = w; cond = skip }

abbrev pub epoch_after : Option Barrier → ℕ → ℕ
epoch_after None epoch = epoch
epoch_after (Some b) epoch = suc epoch

abbrev pub with_command : c.Command → Option Barrier → Core → Core
with_command d barrier core = record core {
  open_chunk = record core.open_chunk {
    commands = core.open_chunk.commands ++ record {
      act = Device d;
      chunk = open_number core;
      epoch =
          epoch_after barrier core.epoch;
      fence = 0;
      number = 0;
    } ∷ [];
    ops = core.open_chunk.ops ++ (maybe_barrier barrier ++ op.Command d ∷ []);
  };
  epoch = epoch_after barrier core.epoch;
  commands = suc core.commands;
  recent = since_barrier core.recent d barrier;
}

abbrev pub plays_command : ℕ → Work → Option Cond → Core → Core
plays_command call w skip core = with_command (new_command core call w skip)
    (barrier_before core.recent (new_command core call w skip)) core

-- where an item's bytes stand
abbrev pub with_placed : Placed → Core → Core
with_placed p core = record core { open_chunk = record core.open_chunk { placed = core.open_chunk.placed ++ p ∷ [] } }

abbrev pub placed_at : ℕ → ℕ → Option ℕ → Option ℕ → Option Range → Placed
placed_at call item block mark staged = record { call = call; item = item; block = block; mark = mark; staged = staged }

-- ranges of blocks are bound
abbrev pub with_bound : List Range → Core → Core
with_bound rs core = record core {
  open_chunk = record core.open_chunk { bound = core.open_chunk.bound ++ rs };
  owner = λ b. bind_owner rs b (core.owner b);
}

-- the whole of each staging buffer that is used stands once in the list
abbrev pub has_block : ℕ → List Range → Bool
has_block block rs = list_any (λ r. r.block == block) rs

abbrev pub add_staging : Script → BlockMap → List Range → List Range → List Range
add_staging script blocks [] staging = staging
add_staging script blocks (r ∷ rs) staging =
    add_staging script blocks rs
    (cond (script.is_staging r.block && not (has_block (block_of blocks r.block) staging))
    (staging ++ range (block_of blocks r.block) 0 (script.size r.block) ∷ []) staging)

abbrev pub with_staging : Script → List Range → Core → Core
with_staging script bound core =
    record core {
      open_chunk = record core.open_chunk {
        staging =
            add_staging script core.blocks bound core.open_chunk.staging;
      };
    }

abbrev pub without_block : Option ℕ → List Range → List Range
without_block block [] = []
without_block block (r ∷ rs) = cond (is_block block r.block) (without_block block rs) (r ∷ without_block block rs)

-- a block is a buffer's from now on
abbrev pub gives_block : ℕ → ℕ → Core → Core
gives_block buffer block core = record core {
  blocks = updated buffer (Some block) core.blocks;
  owner = updated block (Live buffer core.fence nothing_bound) core.owner;
}

-- a page's owner as bytes are staged in it
abbrev pub page_owner : ℕ → ℕ → List Page → Owner → Owner
page_owner chunk fence [] o = o
page_owner chunk fence (p ∷ ps) o = Paged chunk fence nothing_bound

abbrev pub with_page : Staged → Pool → Core → Core
with_page s pool core = record core {
  pool = pool;
  owner = updated s.block (page_owner (open_number core) core.fence s.added (core.owner s.block)) core.owner;
  open_chunk = record core.open_chunk { pages = core.open_chunk.pages ++ s.added };
}

abbrev pub staged_range : Staged → ℕ → Range
staged_range s len = range s.block s.at (s.at + len)

-- the command of a staging item, if it has one
abbrev pub staged_command : ℕ → Range → Option Range → Option Cond → Core → Core
staged_command call source None skip core = core
staged_command call source (Some target) skip core = plays_command call
    (work.Copy source (range_on core.blocks target)) (cond_on core.blocks skip) core

-- the length of the block of a buffer: its class's, or its own where it has none
abbrev pub length_by : Script → ℕ → Option ℕ → ℕ
length_by script buffer None = script.size buffer
length_by script buffer (Some class) = class_length class

abbrev pub length_of : Script → ℕ → ℕ
length_of script buffer = length_by script buffer (script.class buffer)

-- the number of the chunk that retired a block last, and 0 of a new one
abbrev pub retired_by : Owner → ℕ
retired_by (Home k) = k
retired_by (Returning k) = k
retired_by (Live buffer since bound) = 0
retired_by (Retired chunk since bound) = 0
retired_by (Paged chunk since bound) = 0
retired_by Unmade = 0
retired_by Spare = 0
retired_by Dropped = 0
