-- What the other parts look at: requested shaders, ready commands, copies of staging blocks, counts of queries.
use Rattle.std.specs.Prelude.{ℕ, zero, suc, ◌+◌, ◌-◌, Bool, false, cond, not, ◌&&◌, ◌||◌, ◌==◌, nat_lt, nat_le, List}
use Rattle.std.specs.Prelude.{[], ◌∷◌, ◌++◌, Option, Some, None}
use Rattle.std.specs.List.{list_any}
use Rattle.vk_types.specs.declared.command.Work.{Work}
use Rattle.vk_types.specs.declared.message.QueryMark.{QueryMark}
use Rattle.vk_types.specs.declared.message.QueryValue.{QueryValue}
use Rattle.vk_types.specs.Memory.{Memory}
use Rattle.vk_types.specs.Effects.{Meaning, Act, Host_write, Device, Host_read, invocations}
use Rattle.vk_types.specs.Entries.{Entry, entry_before}
use Rattle.core_model.specs.Script.{Create, Discard, No_overwrite, Stage, Command, Destroy, Create_shader, Mark_query}
use Rattle.core_model.specs.Script.{Set_state, Turn, Refused, Passed, Flushed, Asked, Item}
use Rattle.core_model.specs.Chunking.{last_call}
use Rattle.core_model.specs.CoreState.{Segment, Running, of_running, last_finished}
use Rattle.core_model.specs.Adding.{has_block}
use Rattle.core_model.specs.Stands.{touches_block}
use Rattle.vk_types.specs.declared.command.Work.TheVariants as work
use Rattle.vk_types.specs.declared.command.Command as c

-- the shaders that a chunk creates, and those that its dispatches run
abbrev pub created_by : Turn → List ℕ
created_by (Refused call) = []
created_by (Passed call) = []
created_by (Flushed call) = []
created_by (Asked call ask used may_pend) = []
created_by (Item call item ends (Create buffer bytes) bound) = []
created_by (Item call item ends (Discard buffer from bytes) bound) = []
created_by (Item call item ends (No_overwrite buffer from bytes) bound) = []
created_by (Item call item ends (Stage bytes target skip) bound) = []
created_by (Item call item ends (Command w skip) bound) = []
created_by (Item call item ends (Destroy buffer) bound) = []
created_by (Item call item ends Create_shader bound) = call ∷ []
created_by (Item call item ends (Mark_query query begins) bound) = []
created_by (Item call item ends Set_state bound) = []

abbrev pub created : List Turn → List ℕ
created [] = []
created (t ∷ ts) = created_by t ++ created ts

abbrev pub shaders_of_work : Work → List ℕ
shaders_of_work (work.Copy source target) = []
shaders_of_work (work.Fill target word) = []
shaders_of_work (work.Clear target words unit) = []
shaders_of_work (work.Dispatch shader counts slots) = shader ∷ []

abbrev pub needed : List c.Command → List ℕ
needed [] = []
needed (d ∷ ds) = shaders_of_work d.work ++ needed ds

abbrev pub is_among : ℕ → List ℕ → Bool
is_among n ns = list_any (λ m. m == n) ns

-- the requested shaders that have no module, in order of their calls
abbrev pub unmade : List ℕ → List ℕ → List ℕ
unmade modules [] = []
unmade modules (s ∷ ss) = cond (is_among s modules) (unmade modules ss) (s ∷ unmade modules ss)

-- the ready commands among these, where those earlier ones are not run either: no earlier one that is not run is
-- before it
abbrev pub ready_among : List Entry → List Entry → List Entry
ready_among earlier [] = []
ready_among earlier (x ∷ xs) =
    cond (list_any (λ y. entry_before y x) earlier) (ready_among (earlier ++ x ∷ []) xs)
    (x ∷ ready_among (earlier ++ x ∷ []) xs)

-- what these chunks bind uses the block
abbrev pub used_in : List Segment → ℕ → Bool
used_in [] block = false
used_in (s ∷ ss) block = has_block block s.bound || used_in ss block

-- an act of these has the block in its touches
abbrev pub acts_touch : List Entry → ℕ → Bool
acts_touch xs block = list_any (λ x. touches_block x.act block) xs

-- what the device sees of a batch uses the block: the batch names it as a staging buffer's, or a host write or a
-- command of the batch touches it
abbrev pub needs_block : Segment → ℕ → Bool
needs_block s block = has_block block s.staging || (acts_touch s.writes block || acts_touch s.commands block)

abbrev pub needed_in : List Segment → ℕ → Bool
needed_in [] block = false
needed_in (s ∷ ss) block = needs_block s block || needed_in ss block

-- a completion has a copy of each staging buffer that the batch uses and does not destroy, and that no later accepted
-- batch names or touches
abbrev pub snaps_of : Segment → List Running → Memory → ℕ → Option (ℕ → ℕ)
snaps_of s rs memory block = cond (has_block block s.staging && not (needed_in (of_running rs) block))
    (Some (memory block)) None

-- the query marks of all chunks up to one
abbrev pub all_marks : List Segment → List QueryMark
all_marks [] = []
all_marks (s ∷ ss) = s.queries ++ all_marks ss

-- the command before which the query was last begun
abbrev pub last_begin : ℕ → List QueryMark → ℕ → ℕ
last_begin query [] found = found
last_begin query (m ∷ ms) found = last_begin query ms (cond ((m.query == query) && m.begins) m.before found)

abbrev pub sum_from : (ℕ → ℕ) → ℕ → ℕ → ℕ
sum_from counts first zero = 0
sum_from counts first (suc n) = counts first + sum_from counts (suc first) n

-- the value that an End leaves: the invocations of the commands between its Begin and it
abbrev pub value_at : (ℕ → ℕ) → List QueryMark → QueryMark → QueryValue
value_at counts earlier m = record {
  call = m.call;
  query = m.query;
  value = sum_from counts (last_begin m.query earlier 0) (m.before - last_begin m.query earlier 0);
}

-- the values of the Ends whose calls lie above one number and up to another, in order
abbrev pub values_between : (ℕ → ℕ) → ℕ → ℕ → List QueryMark → List QueryMark → List QueryValue
values_between counts low high earlier [] = []
values_between counts low high earlier (m ∷ ms) =
    cond (not m.begins && (nat_lt low m.call && nat_le m.call high))
    (value_at counts earlier m ∷ values_between counts low high (earlier ++ m ∷ []) ms)
    (values_between counts low high (earlier ++ m ∷ []) ms)

abbrev pub values_of : (ℕ → ℕ) → List Segment → Segment → List QueryValue
values_of counts finished s = values_between counts (last_finished finished) (last_call s.turns) []
    (all_marks (finished ++ s ∷ []))

abbrev pub counted : Meaning → Act → Memory → (ℕ → ℕ) → ℕ → ℕ
counted meaning (Host_write target bytes) memory counts = counts
counted meaning (Device d) memory counts = λ n. counts n + cond (n == d.number) (invocations meaning d memory) 0
counted meaning (Host_read source) memory counts = counts
