-- The checks of each call, in order: why it is refused, if it is.
use Rattle.std.specs.Prelude.{ℕ, ◌+◌, ◌%◌, ◌==◌, nat_le, nat_lt, Bool, true, false, not, ◌&&◌, ◌||◌, List, [], ◌∷◌, ◌++◌, length, Option, None, Some, is_some, if◌then◌else◌}
use Rattle.std.specs.List.{list_any}
use Rattle.dx_types.specs.declared.refusal.Refusal.{Refusal}
use Rattle.dx_types.specs.declared.refusal.Refusal.TheVariants.{UnknownId, IdInUse, BadUsage, BadBind, BadSize, OutOfRange, SameSubresource, BadFormat, NotMappable, InUse, FirstMapNotDiscard, BadShader, TooManyGroups, TooMuchMemory, TooManyDynamic, QueryState, WrongContext, UnknownList}
use Rattle.dx_types.specs.declared.shape.Shape.{Shape}
use Rattle.dx_types.specs.declared.shape.ViewShape.{ViewShape}
use Rattle.dx_types.specs.declared.limits.TheConstants.{CONSTANT_BUFFER, CONSTANT_SLOTS, DEFERRED_CONTEXTS, INDIRECT_ARGUMENTS, KNOWN_BITS, MAX_BUFFER_SIZE, MAX_CONSTANT_SIZE, MAX_DYNAMIC_OF_CLASS, MAX_DYNAMIC_SIZE, MAX_LIST_CALLS, MAX_LIVE_BYTES, MAX_STRIDE, MIN_STRIDE, RAW_VIEWS, SHADER_RESOURCE, SRV_SLOTS, STRUCTURED, UAV_SLOTS, UNORDERED_ACCESS}
use Rattle.d3d_model.specs.declared.codes.TheConstants.{BUFFER_CLASS, COUNT_BYTES, DO_NOT_WAIT, DYNAMIC_USAGE, EVENT_QUERY, IMMUTABLE_USAGE, LIST_CLASS, MAP_NO_OVERWRITE, MAP_WRITE, NO_PREDICATE, PREDICATE_QUERY, QUERY_CLASS, QUERY_PREDICATE, RESTORE_STATE, SHADER_CLASS, STAGING_USAGE, TYPED_FORM, VIEW_CLASS, WORD_PREDICATE, WRITE_VIEW}
pub use Rattle.call_log.specs.declared.kinds.Place.{Place}
pub use Rattle.call_log.specs.declared.kinds.Place.TheVariants.{OnDevice, OnImmediate, OnEach, OnDeferred}
use Rattle.call_log.specs.Kinds.{Kind, kinds}
use Rattle.call_log.specs.Put.{kind_of_call}
use Rattle.call_log.specs.Call as calls
use Rattle.call_log.specs.Call.{Call, Issued}
use Rattle.base_lemmas.specs.IdMap as ids
use Rattle.d3d_model.specs.Check.{Check, first_failed, has, is_id, is_named}
use Rattle.d3d_model.specs.Resource.{is_default, is_immutable, is_dynamic, is_staging, size_of, is_one, class_of, live_bytes, live_dynamic}
use Rattle.d3d_model.specs.View.{form_from, unit_of, lacks_bind, lacks_form, is_outside}
use Rattle.d3d_model.specs.Binding.{Bindings, holds_buffer, holds_view, holds_shader, holds_query}
use Rattle.shader_model.specs.Dispatch.{is_allowed}
use Rattle.d3d_model.specs.Shader.{decodes, group_of}
use Rattle.d3d_model.specs.D3dState.{Objects, Query, buffer_of, context_of, bindings_of, words_set, calls_of_list}
use Rattle.d3d_model.specs.Past.{Past, is_bound, was_discarded}
use Rattle.d3d_model.specs.Stream.{past_of_list, begun_after, begun_in_list, is_listed}

-- ---- where a kind may stand

-- where the kind of a number may stand
abbrev pub place_among : ℕ → List Kind → Place
place_among n [] = OnEach
place_among n (k ∷ ks) = if k.number == n then k.place else place_among n ks

-- where a call may stand, as the table of the kinds says
abbrev pub place_of : Call → Place
place_of (calls.Draw kind body) = OnEach
place_of c = place_among (kind_of_call c) kinds

abbrev pub is_wrong_at : Place → ℕ → Bool
is_wrong_at OnDevice x = not (x == 0)
is_wrong_at OnImmediate x = not (x == 0)
is_wrong_at OnEach x = nat_lt DEFERRED_CONTEXTS x
is_wrong_at OnDeferred x = (x == 0) || nat_lt DEFERRED_CONTEXTS x

-- ---- the tests

abbrev pub is_live_buffer : Objects → ℕ → Bool
is_live_buffer o id = is_some (buffer_of o id)

abbrev pub is_live_view : Objects → ℕ → Bool
is_live_view o id = is_some (ids.get o.views id)

abbrev pub is_live_shader : Objects → ℕ → Bool
is_live_shader o id = is_some (ids.get o.shaders id)

abbrev pub is_live_query : Objects → ℕ → Bool
is_live_query o id = is_some (ids.get o.queries id)

abbrev pub is_live_list : Objects → ℕ → Bool
is_live_list o id = is_some (ids.get o.lists id)

abbrev pub buffer_is : Objects → ℕ → (Shape → Bool) → Bool
buffer_is o id test = is_one (buffer_of o id) test

-- ranges from an offset on
abbrev pub passes_end : Objects → ℕ → ℕ → ℕ → Bool
passes_end o id offset len = nat_lt (size_of (buffer_of o id)) (offset + len)

abbrev pub query_is_one : Option Query → (Query → Bool) → Bool
query_is_one None test = false
query_is_one (Some q) test = test q

abbrev pub query_is : Objects → ℕ → (Query → Bool) → Bool
query_is o id test = query_is_one (ids.get o.queries id) test

-- ended by the immediate context or by a list that was executed, and not begun again
abbrev pub has_result : Query → Bool
has_result q = is_some q.ended && not q.begun

-- the view is one for writes
abbrev pub writable_if : Option ViewShape → Bool
writable_if None = false
writable_if (Some v) = v.writable

abbrev pub is_writable : Objects → ℕ → Bool
is_writable o view = writable_if (ids.get o.views view)

-- a query is begun on this context: a deferred one's own list decides
abbrev pub is_begun_on : Objects → ℕ → ℕ → Bool
is_begun_on o x query = if x == 0 then query_is o query (λ q. q.begun) else begun_after query false (context_of o x).recorded

-- ---- buffers

abbrev pub has_bytes : List ℕ → Bool
has_bytes bytes = nat_lt 0 (length bytes)

-- an unknown usage, or an immutable buffer without bytes
abbrev pub is_wrong_usage : ℕ → List ℕ → Bool
is_wrong_usage usage bytes = nat_lt STAGING_USAGE usage || ((usage == IMMUTABLE_USAGE) && not (has_bytes bytes))

-- data of another length than the buffer's
abbrev pub is_wrong_data : ℕ → List ℕ → Bool
is_wrong_data size bytes = has_bytes bytes && not (length bytes == size)

-- no whole number of words, or more than a buffer may have: a dynamic one may have less
abbrev pub is_wrong_length : ℕ → Bool → Bool
is_wrong_length size dynamic = (size == 0) || not (size % 4 == 0) || nat_lt MAX_BUFFER_SIZE size || (dynamic && nat_lt MAX_DYNAMIC_SIZE size)

-- a constant buffer holds whole registers of 16 bytes, at most 4,096 of them
abbrev pub is_wrong_constant : (bind size : ℕ) → Bool
is_wrong_constant bind size = has bind CONSTANT_BUFFER && (not (size % 16 == 0) || nat_lt MAX_CONSTANT_SIZE size)

abbrev pub bad_stride : ℕ → ℕ → Bool
bad_stride size stride = not (stride % 4 == 0) || nat_lt stride MIN_STRIDE || nat_lt MAX_STRIDE stride || not (size % stride == 0)

-- a structured buffer holds whole structures, and no other buffer has a stride
abbrev pub is_wrong_stride : (misc size stride : ℕ) → Bool
is_wrong_stride misc size stride = if has misc STRUCTURED then bad_stride size stride else not (stride == 0)

-- a constant buffer is nothing else
abbrev pub is_wrong_beside : ℕ → Bool
is_wrong_beside bind = has bind CONSTANT_BUFFER && not (bind == CONSTANT_BUFFER)

-- raw and structured views exclude each other
abbrev pub has_both_forms : ℕ → Bool
has_both_forms misc = has misc RAW_VIEWS && has misc STRUCTURED

-- a buffer for raw or structured views is bound for reads or writes
abbrev pub lacks_views : (bind misc : ℕ) → Bool
lacks_views bind misc = (has misc RAW_VIEWS || has misc STRUCTURED) && not (has bind SHADER_RESOURCE || has bind UNORDERED_ACCESS)

abbrev pub buffer_checks : Objects → ℕ → ℕ → ℕ → ℕ → ℕ → ℕ → List ℕ → List Check
buffer_checks o id size usage bind misc stride bytes =
    (not (is_id id), OutOfRange)
    ∷ (is_live_buffer o id, IdInUse)
    ∷ (is_wrong_usage usage bytes, BadUsage)
    ∷ (is_wrong_length size (usage == DYNAMIC_USAGE), BadSize)
    ∷ (is_wrong_data size bytes, BadSize)
    ∷ (is_wrong_constant bind size, BadSize)
    ∷ (is_wrong_stride misc size stride, BadSize)
    ∷ (nat_lt KNOWN_BITS bind || nat_lt KNOWN_BITS misc, BadBind)
    ∷ (is_wrong_beside bind, BadBind)
    ∷ ((usage == STAGING_USAGE) && not (bind == 0), BadBind)
    ∷ ((usage == DYNAMIC_USAGE) && ((bind == 0) || has bind UNORDERED_ACCESS), BadBind)
    ∷ ((usage == IMMUTABLE_USAGE) && has bind UNORDERED_ACCESS, BadBind)
    ∷ (has_both_forms misc, BadBind)
    ∷ (lacks_views bind misc, BadBind)
    ∷ (nat_lt MAX_LIVE_BYTES (live_bytes o.buffers + size), TooMuchMemory)
    ∷ ((usage == DYNAMIC_USAGE) && nat_le MAX_DYNAMIC_OF_CLASS (live_dynamic o.buffers (class_of size)), TooManyDynamic)
    ∷ []

-- ---- views

abbrev pub stride_of : Option Shape → ℕ
stride_of None = 0
stride_of (Some s) = s.stride

-- the view that a call describes, of a buffer of this stride
abbrev pub described_on : (stride res kind form components first count : ℕ) → ViewShape
described_on stride res kind form components first count =
    record { res = res; writable = kind == WRITE_VIEW; form = form_from form; unit = unit_of (form_from form) stride components; first = first; count = count }

-- the view that a call describes
abbrev pub described : Objects → ℕ → ℕ → ℕ → ℕ → ℕ → ℕ → ViewShape
described o res kind form components first count = described_on (stride_of (buffer_of o res)) res kind form components first count

-- the components don't go with the form
abbrev pub bad_components : ℕ → ℕ → Bool
bad_components form components =
    if form == TYPED_FORM then not ((components == 1) || (components == 2) || (components == 4)) else not (components == 0)

abbrev pub view_checks : Objects → ViewShape → ℕ → ℕ → ℕ → ℕ → List Check
view_checks o v view kind form components =
    (not (is_id view), OutOfRange)
    ∷ (not (is_live_buffer o v.res), UnknownId)
    ∷ (is_live_view o view, IdInUse)
    ∷ (nat_lt WRITE_VIEW kind || buffer_is o v.res (λ s. lacks_bind s v.writable), BadBind)
    ∷ (nat_lt TYPED_FORM form || bad_components form components || buffer_is o v.res (λ s. lacks_form s v.form), BadFormat)
    ∷ (buffer_is o v.res (λ s. is_outside s v), OutOfRange)
    ∷ []

-- ---- what is in use

-- set in a context, as slot or predicate
abbrev pub is_set : Objects → (Bindings → Bool) → Bool
is_set o test = list_any (λ x. test x.bindings) o.contexts

abbrev pub has_view : Objects → ℕ → Bool
has_view o res = list_any (λ (v : ViewShape). v.res == res) (ids.values o.views)

-- a live object that nothing uses
abbrev pub unused_buffer : Objects → ℕ → List Check
unused_buffer o id = (not (is_live_buffer o id), UnknownId) ∷ (is_set o (λ b. holds_buffer b id) || is_listed o BUFFER_CLASS id || has_view o id, IdInUse) ∷ []

abbrev pub unused_view : Objects → ℕ → List Check
unused_view o id = (not (is_live_view o id), UnknownId) ∷ (is_set o (λ b. holds_view b id) || is_listed o VIEW_CLASS id, IdInUse) ∷ []

abbrev pub unused_shader : Objects → ℕ → List Check
unused_shader o id = (not (is_live_shader o id), UnknownId) ∷ (is_set o (λ b. holds_shader b id) || is_listed o SHADER_CLASS id, IdInUse) ∷ []

abbrev pub unused_query : Objects → ℕ → List Check
unused_query o id =
    (not (is_live_query o id), UnknownId) ∷ (is_set o (λ b. holds_query b id) || is_listed o QUERY_CLASS id || query_is o id (λ q. q.begun), IdInUse) ∷ []

-- a list is never in use
abbrev pub known_list : Objects → ℕ → List Check
known_list o id = (not (is_live_list o id), UnknownList) ∷ []

abbrev pub destroy_checks : Objects → ℕ → ℕ → List Check
destroy_checks o class id =
    if class == BUFFER_CLASS then unused_buffer o id
    else if class == VIEW_CLASS then unused_view o id
    else if class == SHADER_CLASS then unused_shader o id
    else if class == QUERY_CLASS then unused_query o id
    else if class == LIST_CLASS then known_list o id
    else (true, BadUsage) ∷ []

-- ---- dispatches

-- a shader that is set is live: it can't be destroyed then
abbrev pub has_shader : Objects → ℕ → Bool
has_shader o x = is_named (bindings_of o x).shader

-- ---- copies

abbrev pub copy_checks : Objects → ℕ → ℕ → List Check
copy_checks o target source =
    (not (is_live_buffer o target), UnknownId)
    ∷ (not (is_live_buffer o source), UnknownId)
    ∷ (buffer_is o target (λ s. is_immutable s.usage || is_dynamic s.usage), BadUsage)
    ∷ (target == source, SameSubresource)
    ∷ []

-- ---- predicates

abbrev pub predicate_checks : Objects → ℕ → ℕ → ℕ → List Check
predicate_checks o kind id offset =
    if kind == QUERY_PREDICATE then
    (not (is_live_query o id), UnknownId)
    ∷ (not (query_is o id (λ q. (q.sort == PREDICATE_QUERY) && has_result q)), QueryState)
    ∷ (not (offset == 0), OutOfRange)
    ∷ []
    else if kind == WORD_PREDICATE then
    (not (is_live_buffer o id), UnknownId)
    ∷ (not (buffer_is o id (λ s. has s.misc INDIRECT_ARGUMENTS)), BadBind)
    ∷ (not (offset % 4 == 0) || passes_end o id offset 4, OutOfRange)
    ∷ []
    else []

-- ---- maps

-- the written bytes meet a bound one
abbrev pub in_use : Past → ℕ → ℕ → List ℕ → Bool
in_use past res offset bytes = is_bound past (record { res = res; from = offset; to = offset + length bytes })

-- D3D11_MAP_WRITE_NO_OVERWRITE: on the immediate context all calls before count; in an open list those of the list alone,
-- and it needs a discard there
abbrev pub no_overwrite_checks : Objects → Past → ℕ → ℕ → ℕ → List ℕ → List Check
no_overwrite_checks o past x res offset bytes =
    if x == 0 then (in_use past res offset bytes, InUse) ∷ []
    else (not (was_discarded (past_of_list o (context_of o x).recorded) res), FirstMapNotDiscard)
    ∷ (in_use (past_of_list o (context_of o x).recorded) res offset bytes, InUse)
    ∷ []

abbrev pub not_mappable : Objects → ℕ → ℕ → Bool
not_mappable o res mode =
    nat_lt MAP_WRITE mode || (nat_lt mode MAP_WRITE && not (buffer_is o res (λ s. is_dynamic s.usage))) || ((mode == MAP_WRITE) && not (buffer_is o res (λ s. is_staging s.usage)))

abbrev pub map_write_checks : Objects → Past → ℕ → ℕ → ℕ → ℕ → List ℕ → List Check
map_write_checks o past x res mode offset bytes =
    (not (is_live_buffer o res), UnknownId)
    ∷ (not_mappable o res mode, NotMappable)
    ∷ ((mode == MAP_WRITE) && not (x == 0), WrongContext)
    ∷ (passes_end o res offset (length bytes), OutOfRange)
    ∷ (if mode == MAP_NO_OVERWRITE then no_overwrite_checks o past x res offset bytes else [])

-- ---- all kinds

-- the checks of a call on a context, after those of the context itself
abbrev pub call_checks : Objects → Past → ℕ → Call → List Check
call_checks o past x (calls.Buffer id size usage bind misc stride bytes) = buffer_checks o id size usage bind misc stride bytes
call_checks o past x (calls.View view res kind form components first count) =
    view_checks o (described o res kind form components first count) view kind form components
call_checks o past x (calls.CreateShader id words) =
    (not (is_id id), OutOfRange)
    ∷ (is_live_shader o id, IdInUse)
    ∷ (not (decodes words), BadShader)
    ∷ []
call_checks o past x (calls.Query id sort) =
    (not (is_id id), OutOfRange)
    ∷ (is_live_query o id, IdInUse)
    ∷ (nat_lt PREDICATE_QUERY sort, BadUsage)
    ∷ []
call_checks o past x (calls.Destroy class id) = destroy_checks o class id
call_checks o past x (calls.SetShader id) = (is_named id && not (is_live_shader o id), UnknownId) ∷ []
call_checks o past x (calls.SetConstant slot res) =
    (nat_le CONSTANT_SLOTS slot, OutOfRange)
    ∷ (is_named res && not (is_live_buffer o res), UnknownId)
    ∷ (is_named res && not (buffer_is o res (λ s. has s.bind CONSTANT_BUFFER)), BadBind)
    ∷ []
call_checks o past x (calls.SetSrv slot view) =
    (nat_le SRV_SLOTS slot, OutOfRange)
    ∷ (is_named view && not (is_live_view o view), UnknownId)
    ∷ (is_named view && is_writable o view, BadBind)
    ∷ []
call_checks o past x (calls.SetUav slot view) =
    (nat_le UAV_SLOTS slot, OutOfRange)
    ∷ (is_named view && not (is_live_view o view), UnknownId)
    ∷ (is_named view && not (is_writable o view), BadBind)
    ∷ []
call_checks o past x calls.ClearState = []
call_checks o past x (calls.Dispatch gx gy gz) =
    (not (has_shader o x), BadShader)
    ∷ (not (is_allowed (gx ∷ gy ∷ gz ∷ []) (group_of (words_set o (bindings_of o x)))), TooManyGroups)
    ∷ []
call_checks o past x (calls.DispatchIndirect res offset) =
    (not (is_live_buffer o res), UnknownId)
    ∷ (not (buffer_is o res (λ s. has s.misc INDIRECT_ARGUMENTS)), BadBind)
    ∷ (not (offset % 4 == 0) || passes_end o res offset COUNT_BYTES, OutOfRange)
    ∷ (not (has_shader o x), BadShader)
    ∷ []
call_checks o past x (calls.CopyRegion target target_offset source source_offset len) =
    copy_checks o target source ++ (passes_end o target target_offset len || passes_end o source source_offset len, OutOfRange) ∷ []
call_checks o past x (calls.Copy target source) =
    copy_checks o target source ++ (not (size_of (buffer_of o target) == size_of (buffer_of o source)), BadSize) ∷ []
call_checks o past x (calls.Update res offset bytes) =
    (not (is_live_buffer o res), UnknownId)
    ∷ (not (buffer_is o res (λ s. is_default s.usage)), BadUsage)
    ∷ (passes_end o res offset (length bytes), OutOfRange)
    ∷ []
call_checks o past x (calls.ClearUav view v0 v1 v2 v3) =
    (not (is_live_view o view), UnknownId)
    ∷ (not (is_writable o view), BadBind)
    ∷ []
call_checks o past x (calls.SetPredication kind id offset value) =
    (nat_lt WORD_PREDICATE kind, BadUsage)
    ∷ (nat_lt 1 value || ((kind == NO_PREDICATE) && not ((id == 0) && (offset == 0) && (value == 0))), OutOfRange)
    ∷ predicate_checks o kind id offset
call_checks o past x (calls.Begin query) =
    (not (is_live_query o query), UnknownId)
    ∷ (query_is o query (λ q. q.sort == EVENT_QUERY) || is_begun_on o x query, QueryState)
    ∷ []
call_checks o past x (calls.EndQuery query) =
    (not (is_live_query o query), UnknownId)
    ∷ (not (query_is o query (λ q. q.sort == EVENT_QUERY)) && not (is_begun_on o x query), QueryState)
    ∷ []
call_checks o past x (calls.MapWrite res mode offset bytes) = map_write_checks o past x res mode offset bytes
call_checks o past x (calls.MapRead res flag offset len) =
    (not (is_live_buffer o res), UnknownId)
    ∷ (not (buffer_is o res (λ s. is_staging s.usage)) || nat_lt DO_NOT_WAIT flag, NotMappable)
    ∷ ((len == 0) || passes_end o res offset len, OutOfRange)
    ∷ []
call_checks o past x (calls.GetData query flag) =
    (not (is_live_query o query), UnknownId)
    ∷ (nat_lt DO_NOT_WAIT flag, BadUsage)
    ∷ (not (query_is o query has_result), QueryState)
    ∷ []
call_checks o past x calls.Flush = []
call_checks o past x (calls.FinishList list) =
    (not (is_id list), OutOfRange)
    ∷ (is_live_list o list, IdInUse)
    ∷ (list_any (λ q. begun_after q false (context_of o x).recorded) (begun_in_list (context_of o x).recorded), QueryState)
    ∷ []
call_checks o past x (calls.ExecuteList list flag) =
    (not (is_live_list o list), UnknownList)
    ∷ (nat_lt RESTORE_STATE flag, BadUsage)
    ∷ (list_any (λ q. query_is o q (λ s. s.begun)) (begun_in_list (calls_of_list o list)), QueryState)
    ∷ []
call_checks o past x (calls.Draw kind body) = []

-- the 65,537th call of an open list; to finish a list is no call of it
abbrev pub is_too_long : Objects → ℕ → Place → Bool
is_too_long o x OnEach = not (x == 0) && nat_le MAX_LIST_CALLS (length (context_of o x).recorded)
is_too_long o x OnDevice = false
is_too_long o x OnImmediate = false
is_too_long o x OnDeferred = false

-- why a call is refused, if it is
abbrev pub verdict : Objects → Past → Issued → Option Refusal
verdict o past i =
    first_failed ((is_wrong_at (place_of i.call) i.context, WrongContext)
    ∷ (call_checks o past i.context i.call ++ (is_too_long o i.context (place_of i.call), TooMuchMemory) ∷ []))
