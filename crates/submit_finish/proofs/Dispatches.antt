-- The shaders that a batch's operations dispatch are those that its chunk's commands need.
use Rattle.std.proofs.Common.{◌≡◌, ℕ, suc, List, [], ◌∷◌, ◌++◌, length, refl, sym, ap, ◌∙◌, Option, Some, None, append-nil}
use Rattle.std.specs.List.{cons_option}
use Rattle.dx_types.specs.declared.range.Range.{Range}
use Rattle.vk_types.specs.declared.command.Work.{Work}
use Rattle.vk_types.specs.declared.command.Work.TheVariants as work
use Rattle.vk_types.specs.declared.command.Cond.{Cond}
use Rattle.vk_types.specs.declared.command.Command as c
use Rattle.vk_types.specs.declared.message.Placed.{Placed}
use Rattle.vk_types.specs.declared.op.Barrier.{Barrier}
use Rattle.vk_types.specs.declared.op.VkOp.{VkOp}
use Rattle.vk_types.specs.declared.op.VkOp.TheVariants as op
use Rattle.vk_types.specs.BarrierCauses.{barrier_before, maybe_barrier, least_writer, host_barrier}
use Rattle.core_model.specs.Script.{Play, Create, Discard, No_overwrite, Stage, Command, Destroy, Create_shader, Mark_query, Set_state, Turn, Refused, Passed, Flushed, Asked, Item, Script}
use Rattle.core_model.specs.Chunking.{chunk_turns}
use Rattle.core_model.specs.Renaming.{range_on, work_on, cond_on}
use Rattle.core_model.specs.OtherParts.{shaders_of_work, needed}
use Rattle.core_model.specs.Batching.{Made, nothing_made, next_chunk, make_write, add_command, make_command, give_block, make_copy, make_staged, make_play, make_turns, make_chunks, made, batch_ops, first_place, other_places}
use Rattle.vk_types.specs.declared.message.Batch.{Batch}
use Rattle.core_model.specs.AppActs.{device_commands}
use Rattle.core_model.specs.CoreState.{Segment, Core, start}
use Rattle.core_model.specs.CoreStep.{Event, Chain}
use Rattle.core_model.specs.Invariant.{handed}
use Rattle.core_model.specs.Lawful.{IsLawful}
use Rattle.core_model.specs.Messages.{IsBatch}
use Rattle.core_model.specs.Readings.{Reading}
use Rattle.core_model.specs.Succession.{Log}
use Rattle.core_model.proofs.Messages.Placements.{places_of}
use Rattle.core_model.proofs.Messages.Messaging.{kept, known, is_made, listed_there}
use Rattle.submit_finish.specs.Dispatched.{shader_of_work, dispatched, commands_among}

-- Commands among operations ------------------------------------------------------------------------------------------------

-- a dispatch in front adds its shader to both
work_needed : (w : Work) (shaders : List ℕ) → cons_option (shader_of_work w) shaders ≡ shaders_of_work w ++ shaders
work_needed (work.Copy source target) shaders = refl
work_needed (work.Fill target word) shaders = refl
work_needed (work.Clear target words unit) shaders = refl
work_needed (work.Dispatch shader counts slots) shaders = refl

pub dispatched_needed : (ops : List VkOp) → dispatched ops ≡ needed (commands_among ops)
dispatched_needed [] = refl
dispatched_needed (op.HostWrite r call ∷ ops) = dispatched_needed ops
dispatched_needed (op.Pipeline shader ∷ ops) = dispatched_needed ops
dispatched_needed (op.Barrier barrier ∷ ops) = dispatched_needed ops
dispatched_needed (op.Command command ∷ ops) = work_needed command.work (dispatched ops) ∙ ap (λ l. shaders_of_work command.work ++ l) (dispatched_needed ops)
dispatched_needed (op.Submit k ∷ ops) = dispatched_needed ops
dispatched_needed (op.Fence k ∷ ops) = dispatched_needed ops
dispatched_needed (op.HostRead r call ∷ ops) = dispatched_needed ops

commands_append : (xs ys : List VkOp) → commands_among (xs ++ ys) ≡ commands_among xs ++ commands_among ys
commands_append [] ys = refl
commands_append (op.HostWrite r call ∷ xs) ys = commands_append xs ys
commands_append (op.Pipeline shader ∷ xs) ys = commands_append xs ys
commands_append (op.Barrier barrier ∷ xs) ys = commands_append xs ys
commands_append (op.Command command ∷ xs) ys = ap (λ l. command ∷ l) (commands_append xs ys)
commands_append (op.Submit k ∷ xs) ys = commands_append xs ys
commands_append (op.Fence k ∷ xs) ys = commands_append xs ys
commands_append (op.HostRead r call ∷ xs) ys = commands_append xs ys

-- What is made -----------------------------------------------------------------------------------------------------------------

-- the commands that are listed are those among the operations
abbrev Lists : Made → Type 0
Lists m = commands_among m.ops ≡ m.listed

one_command : (b : Option Barrier) (d : c.Command) → commands_among (maybe_barrier b ++ op.Command d ∷ []) ≡ d ∷ []
one_command None d = refl
one_command (Some b) d = refl

no_command : (o : Option ℕ) (k : ℕ) → commands_among (host_barrier o ++ op.Submit k ∷ []) ≡ []
no_command None k = refl
no_command (Some first) k = refl

add_lists : (d : c.Command) (b : Option Barrier) (m : Made) → Lists m → Lists (add_command d b m)
add_lists d b m h =
    commands_append m.ops (maybe_barrier b ++ op.Command d ∷ []) ∙ ap (λ l. commands_among m.ops ++ l) (one_command b d) ∙ ap (λ l. l ++ d ∷ []) h

command_lists : (call : ℕ) (w : Work) (skip : Option Cond) (m : Made) → Lists m → Lists (make_command call w skip m)
command_lists call w skip m h =
    let d : c.Command = record { number = suc m.commands; call = call; work = w; cond = skip } in
    add_lists d (barrier_before m.recent d) m h

write_lists : (r : Range) (bytes : List ℕ) (m : Made) → Lists m → Lists (make_write r bytes m)
write_lists r [] m h = h
write_lists r (b ∷ bs) m h = h

give_lists : (script : Script) (buffer : ℕ) (block : Option ℕ) (m : Made) → Lists m → Lists (give_block script buffer block m)
give_lists script buffer None m h = h
give_lists script buffer (Some b) m h = h

copy_lists : (call : ℕ) (source : Range) (target : Option Range) (skip : Option Cond) (m : Made) → Lists m → Lists (make_copy call source target skip m)
copy_lists call source None skip m h = h
copy_lists call source (Some target) skip m h = command_lists call (work.Copy source (range_on m.blocks target)) (cond_on m.blocks skip) m h

staged_lists : (script : Script) (call : ℕ) (bytes : List ℕ) (target : Option Range) (skip : Option Cond) (bound : List Range) (staged : Option Range) (m : Made)
    → Lists m → Lists (make_staged script call bytes target skip bound staged m)
staged_lists script call bytes target skip bound None m h = h
staged_lists script call bytes target skip bound (Some source) m h = copy_lists call source target skip (make_write source bytes m) (write_lists source bytes m h)

play_lists : (script : Script) (call : ℕ) (play : Play) (bound : List Range) (p : Placed) (m : Made) → Lists m → Lists (make_play script call play bound p m)
play_lists script call (Create buffer bytes) bound p m h = write_lists _ bytes (give_block script buffer p.block m) (give_lists script buffer p.block m h)
play_lists script call (Discard buffer from bytes) bound p m h = write_lists _ bytes (give_block script buffer p.block m) (give_lists script buffer p.block m h)
play_lists script call (No_overwrite buffer from bytes) bound p m h = write_lists _ bytes m h
play_lists script call (Stage bytes target skip) bound p m h = staged_lists script call bytes target skip bound p.staged m h
play_lists script call (Command w skip) bound p m h = command_lists call (work_on m.blocks w) (cond_on m.blocks skip) m h
play_lists script call (Destroy buffer) bound p m h = h
play_lists script call Create_shader bound p m h = h
play_lists script call (Mark_query query begins) bound p m h = h
play_lists script call Set_state bound p m h = h

turns_list : (script : Script) (ts : List Turn) (ps : List Placed) (m : Made) → Lists m → Lists (make_turns script ts ps m)
turns_list script [] ps m h = h
turns_list script (Refused call ∷ ts) ps m h = turns_list script ts ps m h
turns_list script (Passed call ∷ ts) ps m h = turns_list script ts ps m h
turns_list script (Flushed call ∷ ts) ps m h = turns_list script ts ps m h
turns_list script (Asked call ask used may_pend ∷ ts) ps m h = turns_list script ts ps m h
turns_list script (Item call item ends play bound ∷ ts) ps m h =
    turns_list script ts (other_places ps) (make_play script call play bound (first_place ps) m) (play_lists script call play bound (first_place ps) m h)

chunks_list : (script : Script) (k : ℕ) (pss : List (List Placed)) (m : Made) → Lists m → Lists (make_chunks script k pss m)
chunks_list script k [] m h = h
chunks_list script k (ps ∷ pss) m h =
    chunks_list script (suc k) pss (make_turns script (chunk_turns script k) ps (next_chunk m)) (turns_list script (chunk_turns script k) ps (next_chunk m) refl)

pub made_needed : (script : Script) (places : List (List Placed)) (k : ℕ) → dispatched (batch_ops (made script places) k) ≡ needed (made script places).listed
made_needed script places k =
    let m = made script places in
    let end = host_barrier (least_writer m.is_staging m.listed) ++ op.Submit k ∷ [] in
    let commands : commands_among (batch_ops m k) ≡ m.listed =
    commands_append m.ops end ∙ ap (λ l. commands_among m.ops ++ l) (no_command (least_writer m.is_staging m.listed) k)
    ∙ append-nil (commands_among m.ops) ∙ chunks_list script 1 places nothing_made refl in
    dispatched_needed (batch_ops m k) ∙ ap needed commands

-- In every state -----------------------------------------------------------------------------------------------------------------

module _ (log : Log) (reading : Reading) (lawful : IsLawful log.meaning log.script) (events : List Event) (core : Core)
    (h : Chain log.meaning reading log.script (start log.script) events core)
    (front : List Segment) (s : Segment) (back : List Segment) (e : handed core ≡ front ++ s ∷ back) where
  of_chunk : Made
  of_chunk = made log.script (places_of (front ++ s ∷ []))

  pub batch_needed : (m : Batch) → IsBatch log core.listing front s m → dispatched m.ops.items ≡ needed (device_commands s.commands)
  unfolding of_chunk
  batch_needed m is =
      let k = kept log.meaning reading log.script lawful events core h in
      let f = known log.meaning reading log.script lawful events core h in
      let there : Some m.ops.items ≡ Some (batch_ops of_chunk (suc (length front))) = sym is.ops ∙ listed_there log reading core k f front s back e in
      let same : m.ops.items ≡ batch_ops of_chunk (suc (length front)) = cc there in
      ap dispatched same ∙ made_needed log.script (places_of (front ++ s ∷ [])) (suc (length front)) ∙ ap needed (is_made log reading core k f front s back e).listed
