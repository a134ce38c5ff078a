-- What an accepted call does to the memory.
use Rattle.std.specs.Prelude.{ℕ, zero, suc, ◌+◌, ◌-◌, ◌*◌, ◌/◌, ◌==◌, Bool, false, ◌&&◌, List, [], ◌∷◌, length, take, Option, None, Some, unwrap_or, if◌then◌else◌}
use Rattle.std.specs.List.{find}
use Rattle.dx_types.specs.declared.shape.ViewShape.{ViewShape}
use Rattle.dx_types.specs.declared.range.ResRange.{ResRange}
use Rattle.dx_types.specs.declared.shape.Form.{Form}
use Rattle.dx_types.specs.declared.shape.Form.TheVariants.{Raw, Structured, Typed}
use Rattle.d3d_model.specs.declared.codes.TheConstants.{BUFFER_CLASS, MAP_DISCARD}
use Rattle.call_log.specs.Call as calls
use Rattle.call_log.specs.Call.{Call}
use Rattle.base_lemmas.specs.IdMap as ids
use Rattle.d3d_model.specs.Regions.{put, filled, slice, words_of, spelled, word_at, repeated}
use Rattle.d3d_model.specs.View.{view_range}
use Rattle.d3d_model.specs.Binding as binding
use Rattle.d3d_model.specs.Binding.{Bindings, BoundView, Predicate, bound_range}
use Rattle.shader_model.specs.declared.tree.Declared.{Declared}
use Rattle.shader_model.specs.Invocation.{Slots}
use Rattle.d3d_model.specs.Shader.{Ran, declared_by, ran_dispatch, fits_slot}
use Rattle.d3d_model.specs.D3dState.{Objects, Memory, Numbered, bindings_of, words_set, bound_view, calls_of_list, bytes_of}
use Rattle.d3d_model.specs.Stream.{cut}
use Rattle.d3d_model.specs.Effect.{played, list_start}
use Rattle.d3d_model.specs.Verdict.{Place, OnDevice, OnImmediate, OnEach, OnDeferred, place_of}

-- ---- regions

abbrev pub write_if : Option (List ℕ) → Memory → ℕ → ℕ → List ℕ → Memory
write_if None m res from piece = m
write_if (Some old) m res from piece = record m { bytes = ids.insert m.bytes res (put old from piece) }

-- these bytes in a live buffer, from a place on
abbrev pub write : Memory → ℕ → ℕ → List ℕ → Memory
write m res from piece = write_if (ids.get m.bytes res) m res from piece

abbrev pub read : Memory → ResRange → List ℕ
read m r = slice (bytes_of m r.res) r.from r.to

-- from one buffer to another, all read before the write
abbrev pub copied : Memory → ℕ → ℕ → ℕ → ℕ → ℕ → Memory
copied m target target_offset source source_offset len =
    write m target target_offset (slice (bytes_of m source) source_offset (source_offset + len))

-- a discard: the bytes, and zeros elsewhere
abbrev pub discarded : Memory → ℕ → ℕ → List ℕ → Memory
discarded m res offset piece = write (write m res 0 (filled (length (bytes_of m res)) [])) res offset piece

-- ---- clears

-- the words of one element: of a typed view as many as it has components, else one
abbrev pub element : Form → ℕ → List ℕ → List ℕ
element Raw unit values = take 1 values
element Structured unit values = take 1 values
element Typed unit values = take (unit / 4) values

abbrev pub elements : Form → ViewShape → ℕ
elements Raw v = v.count
elements Structured v = v.count * (v.unit / 4)
elements Typed v = v.count

-- all bytes of a view after a clear
abbrev pub pattern : ViewShape → List ℕ → List ℕ
pattern v values = spelled (repeated (elements v.form v) (element v.form v.unit values))

abbrev pub cleared : Memory → Option BoundView → List ℕ → Memory
cleared m None values = m
cleared m (Some v) values = write m v.shape.res (v.shape.first * v.shape.unit) (pattern v.shape values)

-- ---- predication

abbrev pub result_of_word : ℕ → ℕ
result_of_word zero = 0
result_of_word (suc w) = 1

-- a predicated call is skipped: the predicate's result, read before the call, equals the value
abbrev pub is_skipped : Memory → Predicate → Bool
is_skipped m binding.Never = false
is_skipped m (binding.Query id value) = 0 == value
is_skipped m (binding.Word res offset value) = result_of_word (word_at (bytes_of m res) offset) == value

abbrev pub unless_skipped : Memory → Predicate → Memory → Memory
unless_skipped m p after = if is_skipped m p then m else after

-- ---- dispatches

abbrev pub is_declared : ℕ → ℕ → Declared → Bool
is_declared opcode slot d = (d.opcode == opcode) && (d.slot == slot)

-- the range that a constant slot shows, where the shader declares the slot
abbrev pub constant_shown : Objects → Option Declared → Option ResRange → Option ResRange
constant_shown o None slot = None
constant_shown o (Some d) None = None
constant_shown o (Some d) (Some r) = Some (cut o r)

-- the range that a view's slot shows: it is declared, and fits the declaration
abbrev pub view_shown : Option Declared → Option BoundView → Option ResRange
view_shown None slot = None
view_shown (Some d) None = None
view_shown (Some d) (Some v) = if fits_slot d v.shape then Some (view_range v.shape) else None

-- the slots of an opcode, from one on, each with what it shows
abbrev pub shown_from : {X : Type 0} → (Option Declared → X → Option ResRange) → List Declared → ℕ → ℕ → List X → List (Option ResRange)
shown_from show ds opcode i [] = []
shown_from show ds opcode i (slot ∷ slots) = show (find (is_declared opcode i) ds) slot ∷ shown_from show ds opcode (suc i) slots

abbrev pub constants_shown : Objects → Bindings → List Declared → List (Option ResRange)
constants_shown o b ds = shown_from (constant_shown o) ds 3 0 b.constants

abbrev pub srvs_shown : Bindings → List Declared → List (Option ResRange)
srvs_shown b ds = shown_from view_shown ds 4 0 b.srvs

abbrev pub uavs_shown : Bindings → List Declared → List (Option ResRange)
uavs_shown b ds = shown_from view_shown ds 5 0 b.uavs

abbrev pub words_shown : Memory → List (Option ResRange) → List (List ℕ)
words_shown m [] = []
words_shown m (None ∷ slots) = [] ∷ words_shown m slots
words_shown m (Some r ∷ slots) = words_of (read m r) ∷ words_shown m slots

-- the words that a dispatch sees
abbrev pub slots_seen : Objects → Memory → Bindings → List Declared → Slots
slots_seen o m b ds =
    record { constants = words_shown m (constants_shown o b ds); reads = words_shown m (srvs_shown b ds); writes = words_shown m (uavs_shown b ds) }

-- the words that a dispatch left, each slot's in its range
abbrev pub stored : Memory → List (Option ResRange) → List (List ℕ) → Memory
stored m [] words = m
stored m (slot ∷ slots) [] = m
stored m (None ∷ slots) (w ∷ words) = stored m slots words
stored m (Some r ∷ slots) (w ∷ words) = stored (write m r.res r.from (spelled w)) slots words

abbrev pub counted : Memory → ℕ → Memory
counted m k = record m { ran = m.ran + k }

abbrev pub after_ran : Memory → List (Option ResRange) → Ran → Memory
after_ran m uavs r = counted (stored m uavs r.slots.writes) r.count

-- a dispatch of the shader that is set, of so many groups
abbrev pub dispatched : Objects → Bindings → List ℕ → Memory → Memory
dispatched o b groups m =
    let words = words_set o b in
    let ds = declared_by words in
    after_ran m (uavs_shown b ds) (ran_dispatch words groups (slots_seen o m b ds))

-- the counts that stand at a place, read as the command starts
abbrev pub counts_at : Memory → ℕ → ℕ → List ℕ
counts_at m res offset =
    let bytes = bytes_of m res in
    word_at bytes offset ∷ word_at bytes (offset + 4) ∷ word_at bytes (offset + 8) ∷ []

-- ---- queries

abbrev pub begun_count : Memory → ℕ → Memory
begun_count m query = record m { begun_at = ids.insert m.begun_at query m.ran }

-- the invocations since the last begin; an event has no begin, and counts none
abbrev pub ended_count : Memory → ℕ → Memory
ended_count m query = record m { counts = ids.insert m.counts query (m.ran - unwrap_or (ids.get m.begun_at query) m.ran) }

abbrev pub no_counts : Memory → ℕ → Memory
no_counts m query = record m { begun_at = ids.remove m.begun_at query; counts = ids.remove m.counts query }

-- ---- all kinds

-- a call of the device
abbrev pub made : Memory → Call → Memory
made m (calls.Buffer id size usage bind misc stride bytes) = record m { bytes = ids.insert m.bytes id (filled size bytes) }
made m (calls.Query id sort) = no_counts m id
made m (calls.Destroy class id) = if class == BUFFER_CLASS then record m { bytes = ids.remove m.bytes id } else m
made m _ = m

-- a call that may stand in a list, played on the immediate context
abbrev pub run : Objects → Memory → Call → Memory
run o m (calls.Dispatch x y z) =
    let b = bindings_of o 0 in
    unless_skipped m b.predicate (dispatched o b (x ∷ y ∷ z ∷ []) m)
run o m (calls.DispatchIndirect res offset) =
    let b = bindings_of o 0 in
    unless_skipped m b.predicate (dispatched o b (counts_at m res offset) m)
run o m (calls.CopyRegion target target_offset source source_offset len) =
    unless_skipped m (bindings_of o 0).predicate (copied m target target_offset source source_offset len)
run o m (calls.Copy target source) =
    unless_skipped m (bindings_of o 0).predicate (write m target 0 (bytes_of m source))
run o m (calls.Update res offset bytes) =
    unless_skipped m (bindings_of o 0).predicate (write m res offset bytes)
run o m (calls.ClearUav view v0 v1 v2 v3) =
    unless_skipped m (bindings_of o 0).predicate (cleared m (bound_view o view) (v0 ∷ v1 ∷ v2 ∷ v3 ∷ []))
run o m (calls.Begin query) = begun_count m query
run o m (calls.EndQuery query) = ended_count m query
run o m (calls.MapWrite res mode offset bytes) = if mode == MAP_DISCARD then discarded m res offset bytes else write m res offset bytes
run o m _ = m

-- the calls of a list, each on the objects that it meets
abbrev pub run_all : ℕ → Objects → Memory → List Numbered → Memory
run_all n o m [] = m
run_all n o m (c ∷ cs) = run_all n (played n o c.call) (run o m c.call) cs

abbrev pub immediate_run : ℕ → Objects → Memory → Call → Memory
immediate_run n o m (calls.ExecuteList list flag) = run_all n (list_start o) m (calls_of_list o list)
immediate_run n o m _ = m

abbrev pub run_at : Place → ℕ → Objects → Memory → ℕ → Call → Memory
run_at OnDevice n o m x c = made m c
run_at OnImmediate n o m x c = immediate_run n o m c
run_at OnEach n o m x c = if x == 0 then run o m c else m
run_at OnDeferred n o m x c = m

-- the memory after call n, accepted on a context
abbrev pub memory_after : ℕ → Objects → Memory → ℕ → Call → Memory
memory_after n o m x c = run_at (place_of c) n o m x c
