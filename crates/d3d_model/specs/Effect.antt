-- What an accepted call does to the objects.
use Rattle.std.specs.Prelude.{ℕ, ◌==◌, true, false, List, [], ◌∷◌, ◌++◌, slice_set, Option, None, Some, if◌then◌else◌}
use Rattle.call_log.specs.Call as calls
use Rattle.call_log.specs.Call.{Call}
use Rattle.d3d_model.specs.declared.codes.TheConstants.{BUFFER_CLASS, QUERY_CLASS, RESTORE_STATE, SHADER_CLASS, VIEW_CLASS}
use Rattle.base_lemmas.specs.IdMap as ids
use Rattle.base_lemmas.specs.IdMap.{IdMap}
use Rattle.d3d_model.specs.Resource.{usage_from}
use Rattle.d3d_model.specs.Binding.{default_bindings}
use Rattle.d3d_model.specs.D3dState.{Objects, Query, Numbered, Context, default_context, context_of, bindings_of, with_bindings, calls_of_list}
use Rattle.d3d_model.specs.Past.{Deed}
use Rattle.d3d_model.specs.Stream.{set_by, deeds, makings, deeds_of_list}
use Rattle.d3d_model.specs.Verdict.{Place, OnDevice, OnImmediate, OnEach, OnDeferred, place_of, described}

-- ---- calls of the device

abbrev pub destroyed : Objects → ℕ → ℕ → Objects
destroyed o class id =
    if class == BUFFER_CLASS then record o { buffers = ids.remove o.buffers id }
    else if class == VIEW_CLASS then record o { views = ids.remove o.views id }
    else if class == SHADER_CLASS then record o { shaders = ids.remove o.shaders id }
    else if class == QUERY_CLASS then record o { queries = ids.remove o.queries id }
    else record o { lists = ids.remove o.lists id }

abbrev pub made_by : ℕ → Objects → Call → Objects
made_by n o (calls.Buffer id size usage bind misc stride bytes) =
    record o { buffers = ids.insert o.buffers id (record { size = size; usage = usage_from usage; bind = bind; misc = misc; stride = stride }) }
made_by n o (calls.View view res kind form components first count) =
    record o { views = ids.insert o.views view (described o res kind form components first count) }
made_by n o (calls.CreateShader id words) = record o { shaders = ids.insert o.shaders id (record { call = n; words = words }) }
made_by n o (calls.Query id sort) = record o { queries = ids.insert o.queries id (record { sort = sort; begun = false; ended = None }) }
made_by n o (calls.Destroy class id) = destroyed o class id
made_by n o _ = o

-- ---- calls that are played on the immediate context, by themselves or in a list

abbrev pub begun_query : Option Query → IdMap Query → ℕ → IdMap Query
begun_query None queries id = queries
begun_query (Some q) queries id = ids.insert queries id (record q { begun = true })

abbrev pub ended_query : ℕ → Option Query → IdMap Query → ℕ → IdMap Query
ended_query n None queries id = queries
ended_query n (Some q) queries id = ids.insert queries id (record q { begun = false; ended = Some n })

abbrev pub queries_after : ℕ → IdMap Query → Call → IdMap Query
queries_after n queries (calls.Begin id) = begun_query (ids.get queries id) queries id
queries_after n queries (calls.EndQuery id) = ended_query n (ids.get queries id) queries id
queries_after n queries _ = queries

-- a call that may stand in a list, played as call n
abbrev pub played : ℕ → Objects → Call → Objects
played n o c =
    with_bindings (record o { queries = queries_after n o.queries c }) 0 (set_by o (bindings_of o 0) c)

abbrev pub played_all : ℕ → Objects → List Numbered → Objects
played_all n o [] = o
played_all n o (c ∷ cs) = played_all n (played n o c.call) cs

-- before the first call of a list: the immediate context is in the default state
abbrev pub list_start : Objects → Objects
list_start o = with_bindings o 0 default_bindings

-- a list's calls from the default state, and then what was set is set again, or the default state
abbrev pub executed : ℕ → Objects → ℕ → ℕ → Objects
executed n o list flag =
    with_bindings (played_all n (list_start o) (calls_of_list o list)) 0 (if flag == RESTORE_STATE then bindings_of o 0 else default_bindings)

-- ---- calls on a deferred context

abbrev pub with_context : Objects → ℕ → Context → Objects
with_context o x c = record o { contexts = slice_set o.contexts x c }

-- the call is set and recorded, and nothing else comes of it
abbrev pub recorded_on : ℕ → Objects → ℕ → Call → Objects
recorded_on n o x c =
    with_context o x (record { bindings = set_by o (bindings_of o x) c; recorded = (context_of o x).recorded ++ record { number = n; call = c } ∷ [] })

-- the open list becomes a live one, and the context begins anew
abbrev pub finished : Objects → ℕ → ℕ → Objects
finished o x list =
    with_context (record o { lists = ids.insert o.lists list (context_of o x).recorded }) x default_context

-- ---- all kinds

abbrev pub list_of : Call → ℕ
list_of (calls.FinishList list) = list
list_of _ = 0

abbrev pub immediate_effect : ℕ → Objects → Call → Objects
immediate_effect n o (calls.ExecuteList list flag) = executed n o list flag
immediate_effect n o _ = o

abbrev pub effect_at : Place → ℕ → Objects → ℕ → Call → Objects
effect_at OnDevice n o x c = made_by n o c
effect_at OnImmediate n o x c = immediate_effect n o c
effect_at OnEach n o x c = if x == 0 then played n o c else recorded_on n o x c
effect_at OnDeferred n o x c = finished o x (list_of c)

-- the objects after call n, accepted on a context
abbrev pub objects_after : ℕ → Objects → ℕ → Call → Objects
objects_after n o x c = effect_at (place_of c) n o x c

-- ---- the deeds of a call

abbrev pub immediate_deeds : Objects → Call → List Deed
immediate_deeds o (calls.ExecuteList list flag) = deeds_of_list o (calls_of_list o list)
immediate_deeds o _ = []

abbrev pub deeds_at : Place → Objects → ℕ → Call → List Deed
deeds_at OnDevice o x c = makings c
deeds_at OnImmediate o x c = immediate_deeds o c
deeds_at OnEach o x c = if x == 0 then deeds o (bindings_of o 0) c else []
deeds_at OnDeferred o x c = []

-- what an accepted call does that later calls ask of: on a deferred context nothing, until its list is executed
abbrev pub deeds_by : Objects → ℕ → Call → List Deed
deeds_by o x c = deeds_at (place_of c) o x c
