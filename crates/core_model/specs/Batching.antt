-- What a chunk's items make of the blocks that they were given: host writes, commands with their barriers, query marks.
use Rattle.std.specs.Prelude.{ℕ, suc, ◌+◌, Bool, false, List, [], ◌∷◌, ◌++◌, length, Option, Some, None}
use Rattle.dx_types.specs.declared.range.Range.{Range}
use Rattle.vk_types.specs.declared.command.Work.{Work}
use Rattle.vk_types.specs.declared.command.Work.TheVariants as work
use Rattle.vk_types.specs.declared.command.Cond.{Cond}
use Rattle.vk_types.specs.declared.command.Command as c
use Rattle.vk_types.specs.declared.message.Placed.{Placed}
use Rattle.vk_types.specs.declared.message.QueryMark.{QueryMark}
use Rattle.vk_types.specs.declared.op.Barrier.{Barrier}
use Rattle.vk_types.specs.declared.op.VkOp.{VkOp}
use Rattle.vk_types.specs.declared.op.VkOp.TheVariants as op
use Rattle.vk_types.specs.Memory.{range}
use Rattle.vk_types.specs.BarrierCauses.{barrier_before, since_barrier, maybe_barrier, least_writer, host_barrier}
use Rattle.core_model.specs.Script.{Play, Create, Discard, No_overwrite, Stage, Command, Destroy, Create_shader}
use Rattle.core_model.specs.Script.{Mark_query, Set_state, Turn, Refused, Passed, Flushed, Asked, Item, Script}
use Rattle.core_model.specs.Script.{updated}
use Rattle.core_model.specs.Chunking.{chunk_turns}
use Rattle.core_model.specs.Renaming.{block_of, range_on, work_on, cond_on}
use Rattle.core_model.specs.Adding.{add_staging, without_block}

-- bytes of the log that the host writes to a range
pub record Written : Type 0 where
  pub range : Range
  pub bytes : List ℕ

-- what the items so far made. The first four parts run on over chunks, the others are those of the chunk
pub record Made : Type 0 where
  pub blocks : ℕ → Option ℕ
  pub is_staging : ℕ → Bool
  pub commands : ℕ
  pub recent : List c.Command
  pub writes : List Written
  pub ops : List VkOp
  pub listed : List c.Command
  pub staging : List Range
  pub queries : List QueryMark

abbrev pub nothing_made : Made
nothing_made = record {
  blocks = λ r. None;
  is_staging = λ b. false;
  commands = 0;
  recent = [];
  writes = [];
  ops =
      [];
  listed = [];
  staging = [];
  queries = [];
}

abbrev pub next_chunk : Made → Made
next_chunk m = record m { writes = []; ops = []; listed = []; staging = []; queries = [] }

-- the host writes bytes of the log, if there are any
abbrev pub make_write : Range → List ℕ → Made → Made
make_write r [] m = m
make_write r (b ∷ bs) m = record m { writes = m.writes ++ record { range = r; bytes = b ∷ bs } ∷ [] }

abbrev pub add_command : c.Command → Option Barrier → Made → Made
add_command d barrier m = record m {
  commands = suc m.commands;
  recent = since_barrier m.recent d barrier;
  ops = m.ops ++ (maybe_barrier barrier ++ op.Command d ∷ []);
  listed = m.listed ++ d ∷ [];
}

abbrev pub make_command : ℕ → Work → Option Cond → Made → Made
make_command call w skip m =
    add_command (record { number = suc m.commands; call = call; work = w; cond = skip })
    (barrier_before m.recent (record { number = suc m.commands; call = call; work = w; cond = skip })) m

abbrev pub give_block : Script → ℕ → Option ℕ → Made → Made
give_block script buffer None m = m
give_block script buffer (Some b) m = record m {
  blocks = updated buffer (Some b) m.blocks;
  is_staging =
      updated b (script.is_staging buffer) m.is_staging;
}

abbrev pub make_staging : Script → List Range → Made → Made
make_staging script bound m = record m { staging = add_staging script m.blocks bound m.staging }

-- the bytes of a staged range are written, and a command copies them to the target
abbrev pub make_copy : ℕ → Range → Option Range → Option Cond → Made → Made
make_copy call source None skip m = m
make_copy call source (Some target) skip m = make_command call (work.Copy source (range_on m.blocks target))
    (cond_on m.blocks skip) m

abbrev pub make_staged : Script → ℕ → List ℕ → Option Range → Option Cond → List Range → Option Range → Made → Made
make_staged script call bytes target skip bound None m = m
make_staged script call bytes target skip bound (Some source) m =
    make_staging script bound (make_copy call source target skip (make_write source bytes m))

abbrev pub block_range : Option ℕ → ℕ → ℕ → Range
block_range None from to = range 0 from to
block_range (Some b) from to = range b from to

abbrev pub make_play : Script → ℕ → Play → List Range → Placed → Made → Made
make_play script call (Create buffer bytes) bound p m = make_write (block_range p.block 0 (length bytes)) bytes
    (give_block script buffer p.block m)
make_play script call (Discard buffer from bytes) bound p m =
    make_write (block_range p.block from (from + length bytes)) bytes (give_block script buffer p.block m)
make_play script call (No_overwrite buffer from bytes) bound p m =
    make_write (range (block_of m.blocks buffer) from (from + length bytes)) bytes m
make_play script call (Stage bytes target skip) bound p m = make_staged script call bytes target skip bound p.staged m
make_play script call (Command w skip) bound p m = make_staging script bound
    (make_command call (work_on m.blocks w) (cond_on m.blocks skip) m)
make_play script call (Destroy buffer) bound p m = record m {
  blocks = updated buffer None m.blocks;
  staging =
      without_block (m.blocks buffer) m.staging;
}
make_play script call Create_shader bound p m = m
make_play script call (Mark_query query begins) bound p m =
    record m {
      queries = m.queries ++ record {
        call = call;
        query = query;
        begins = begins;
        before =
            suc m.commands;
      } ∷ [];
    }
make_play script call Set_state bound p m = make_staging script bound m

abbrev pub no_place : Placed
no_place = record { call = 0; item = 0; block = None; mark = None; staged = None }

abbrev pub first_place : List Placed → Placed
first_place [] = no_place
first_place (p ∷ ps) = p

abbrev pub other_places : List Placed → List Placed
other_places [] = []
other_places (p ∷ ps) = ps

-- the items among these turns, each with its place
abbrev pub make_turns : Script → List Turn → List Placed → Made → Made
make_turns script [] ps m = m
make_turns script (Refused call ∷ ts) ps m = make_turns script ts ps m
make_turns script (Passed call ∷ ts) ps m = make_turns script ts ps m
make_turns script (Flushed call ∷ ts) ps m = make_turns script ts ps m
make_turns script (Asked call ask used may_pend ∷ ts) ps m = make_turns script ts ps m
make_turns script (Item call item ends play bound ∷ ts) ps m =
    make_turns script ts (other_places ps) (make_play script call play bound (first_place ps) m)

-- the chunks from number k on, with the places of their items
abbrev pub make_chunks : Script → ℕ → List (List Placed) → Made → Made
make_chunks script k [] m = m
make_chunks script k (ps ∷ pss) m = make_chunks script (suc k) pss
    (make_turns script (chunk_turns script k) ps (next_chunk m))

-- what the last of these chunks makes, the first of which is chunk 1
abbrev pub made : Script → List (List Placed) → Made
made script pss = make_chunks script 1 pss nothing_made

-- its operations: commands with their barriers, the barrier to the host, the submit
abbrev pub batch_ops : Made → ℕ → List VkOp
batch_ops m k = m.ops ++ (host_barrier (least_writer m.is_staging m.listed) ++ op.Submit k ∷ [])
