-- The next act of App: an answer, an item, a hand-over, the end.
use Rattle.std.specs.Prelude.{◌≡◌, ℕ, suc, ◌-◌, ◌≤◌, Bool, true, false, nat_le, List, [], ◌∷◌, ◌++◌, map, Option}
use Rattle.std.specs.Prelude.{Some, None, ◌⊎◌}
use Rattle.dx_types.specs.declared.range.Range.{Range}
use Rattle.base_lemmas.specs.Lists.{numbers_from}
use Rattle.vk_types.specs.Effects.{Act, Host_write, Device, Host_read}
use Rattle.vk_types.specs.BarrierCauses.{least_writer, host_barrier}
use Rattle.vk_types.specs.Entries.{Entry}
use Rattle.core_model.specs.Script.{Ask, Bytes, Count, Constant, Turn, Refused, Passed, Flushed, Asked, Item, Script}
use Rattle.core_model.specs.Chunking.{is_due}
use Rattle.core_model.specs.Renaming.{range_on}
use Rattle.core_model.specs.CoreState.{of_messages, of_running, Bytes_said, Value_said, Still_said, Refused_said}
use Rattle.core_model.specs.CoreState.{End_said, Core, empty_segment, open_number, last_finished, done}
use Rattle.core_model.specs.Readings.{Reading, may_hand_over}
use Rattle.core_model.specs.Adding.{with_turn, with_reply, new_entry}
use Rattle.core_model.specs.Playing.{Plays}
use Rattle.vk_types.specs.declared.command.Command as c
use Rattle.vk_types.specs.declared.op.VkOp.TheVariants as op

-- the use is finished, as the posts taken show, or there is none
abbrev pub is_finished : Option ℕ → ℕ → Bool
is_finished None d = true
is_finished (Some used) d = nat_le used d

abbrev pub used_or_zero : Option ℕ → ℕ
used_or_zero None = 0
used_or_zero (Some used) = used

-- the copied bytes of a range of a block
abbrev pub copied_bytes : Core → Range → List ℕ
copied_bytes core r = map (λ i. core.copies r.block i) (numbers_from r.from (r.to - r.from))

-- a host read stands in the listing where the buffer has a use
abbrev pub with_read : ℕ → Range → Option ℕ → Core → Core
with_read call r None core = core
with_read call r (Some used) core = record core {
  open_chunk = record core.open_chunk { reads = core.open_chunk.reads ++ new_entry core (Host_read r) ∷ [] };
  listing = core.listing ++ op.HostRead r call ∷ [];
  host_acts = suc core.host_acts;
}

abbrev pub answer : ℕ → Ask → Option ℕ → Core → Core
answer call (Bytes source) used core =
    with_reply (Bytes_said call (copied_bytes core (range_on core.blocks source)))
    (with_read call (range_on core.blocks source) used core)
answer call (Count query) used core = with_reply (Value_said call (core.values query)) core
answer call (Constant value) used core = with_reply (Value_said call value) core

-- a waiting call is answered once its use is finished; one that may pend is answered at once
abbrev pub Answers : ℕ → Ask → Option ℕ → Bool → Core → Core → Type 0
Answers call ask used may_pend old new =
    ((is_finished used (done old) ≡ true) × (new ≡ answer call ask used old))
    ⊎ ((is_finished used (done old) ≡ false) × (may_pend ≡ true)
    × (new ≡ with_reply (Still_said call (used_or_zero used) (done old)) old))

-- The next act of App -----------------------------------------------------------------------------------------------

abbrev pub TakesTurn : Reading → Script → Turn → List Turn → Core → Core → Type 0
TakesTurn reading script (Refused call) turns old new = new ≡ with_reply (Refused_said call)
    (with_turn (Refused call) turns old)
TakesTurn reading script (Passed call) turns old new = new ≡ with_turn (Passed call) turns old
TakesTurn reading script (Flushed call) turns old new = new ≡ with_turn (Flushed call) turns old
TakesTurn reading script (Asked call ask used may_pend) turns old new =
    Answers call ask used may_pend (with_turn (Asked call ask used may_pend) turns old) new
TakesTurn reading script (Item call item ends play bound) turns old new =
    Plays reading script call item play bound (with_turn (Item call item ends play bound) turns old) new

-- the commands among these entries
abbrev pub act_commands : Act → List c.Command
act_commands (Host_write target bytes) = []
act_commands (Device d) = d ∷ []
act_commands (Host_read source) = []

abbrev pub device_commands : List Entry → List c.Command
device_commands [] = []
device_commands (x ∷ xs) = act_commands x.act ++ device_commands xs

-- the open chunk's commands, barriers and submit stand in the listing as it is handed over
abbrev pub handed_over : Core → Core
handed_over old = record old {
  chunks = old.chunks ++ old.open_chunk ∷ [];
  open_chunk = empty_segment;
  pool = record old.pool { newest = None };
  listing = old.listing
      ++ (old.open_chunk.ops
      ++ (host_barrier (least_writer old.is_staging (device_commands old.open_chunk.commands))
      ++ op.Submit (open_number old) ∷ []));
}

-- the next act: a due chunk is handed over, else the next turn is taken, else the end comes
abbrev pub Acts : Reading → Script → Core → Core → Type 0
Acts reading script old new =
    (old.ended ≡ false)
    × (((is_due script old.open_chunk.turns old.future ≡ true) × (may_hand_over reading old ≡ true)
    × (new ≡ handed_over old))
    ⊎ (((is_due script old.open_chunk.turns old.future ≡ false)
    × (turn : Turn) × (turns : List Turn) × (old.future ≡ turn ∷ turns) × TakesTurn reading script turn turns old new)
    ⊎ ((is_due script old.open_chunk.turns old.future ≡ false) × (old.future ≡ [])
    × (last_finished
    (old.taken ++
    (of_messages old.posts ++ (of_messages old.completions
    ++ (of_running old.accepted ++ (old.submissions ++ (old.batches ++ old.chunks)))))) ≤ done old)
    × (new ≡ with_reply End_said (record old { ended = true })))))
