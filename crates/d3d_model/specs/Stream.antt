-- What each call sets, binds and names, by itself and in a list.
use Rattle.std.specs.Prelude.{ℕ, ◌+◌, ◌==◌, min, Bool, false, ◌&&◌, ◌||◌, List, [], ◌∷◌, ◌++◌, map, length, if◌then◌else◌}
use Rattle.std.specs.List.{list_any, flat_map}
use Rattle.dx_types.specs.declared.range.ResRange.{ResRange}
use Rattle.d3d_model.specs.declared.codes.TheConstants.{BUFFER_CLASS, COUNT_BYTES, MAP_DISCARD, MAP_WRITE, NO_PREDICATE, QUERY_CLASS, QUERY_PREDICATE, SHADER_CLASS, VIEW_CLASS}
use Rattle.call_log.specs.Call as calls
use Rattle.call_log.specs.Call.{Call}
use Rattle.base_lemmas.specs.IdMap as ids
use Rattle.d3d_model.specs.Resource.{size_of}
use Rattle.d3d_model.specs.Binding as binding
use Rattle.d3d_model.specs.Binding.{Bindings, Predicate, default_bindings, set_shader, set_constant, set_srv, set_uav, set_predicate, predicate_range, constant_ranges, view_ranges, bound_range}
use Rattle.d3d_model.specs.D3dState.{Objects, Numbered, buffer_of, bound_view}
use Rattle.d3d_model.specs.Past as past
use Rattle.d3d_model.specs.Past.{Deed, Past, then_done}
use Rattle.std.specs.Option.{option_to_list}

-- ---- what a call sets

abbrev pub predicate_from : ℕ → ℕ → ℕ → ℕ → Predicate
predicate_from kind id offset value =
    if kind == NO_PREDICATE then binding.Never else if kind == QUERY_PREDICATE then binding.Query id value else binding.Word id offset value

-- the bindings of a context after a call on it
abbrev pub set_by : Objects → Bindings → Call → Bindings
set_by o b (calls.SetShader id) = set_shader b id
set_by o b (calls.SetConstant slot res) = set_constant b slot res
set_by o b (calls.SetSrv slot view) = set_srv b slot (bound_view o view)
set_by o b (calls.SetUav slot view) = set_uav b slot (bound_view o view)
set_by o b calls.ClearState = default_bindings
set_by o b (calls.SetPredication kind id offset value) = set_predicate b (predicate_from kind id offset value)
set_by o b _ = b

-- ---- what a call binds

-- a range that has a byte
abbrev pub range_of : ℕ → ℕ → ℕ → List ResRange
range_of res from len = if len == 0 then [] else record { res = res; from = from; to = from + len } ∷ []

-- no more than the buffer has
abbrev pub cut : Objects → ResRange → ResRange
cut o r = record r { to = min r.to (size_of (buffer_of o r.res)) }

-- a call that binds nothing doesn't bind its predicate's word either
abbrev pub predicated : Bindings → List ResRange → List ResRange
predicated b [] = []
predicated b (r ∷ rs) = (r ∷ rs) ++ predicate_range b.predicate

abbrev pub whole_of : Objects → ℕ → List ResRange
whole_of o res = range_of res 0 (size_of (buffer_of o res))

-- a dispatch's ranges: a constant's is no more than its buffer
abbrev pub dispatch_ranges : Objects → Bindings → List ResRange
dispatch_ranges o b = map (cut o) (constant_ranges b) ++ view_ranges b

-- the ranges that an accepted call binds, where these bindings are set
abbrev pub binds : Objects → Bindings → Call → List ResRange
binds o b (calls.Dispatch x y z) = dispatch_ranges o b
binds o b (calls.DispatchIndirect res offset) = range_of res offset COUNT_BYTES ++ dispatch_ranges o b
binds o b (calls.CopyRegion target target_offset source source_offset len) = predicated b (range_of source source_offset len ++ range_of target target_offset len)
binds o b (calls.Copy target source) = predicated b (whole_of o source ++ whole_of o target)
binds o b (calls.Update res offset bytes) = predicated b (range_of res offset (length bytes))
binds o b (calls.ClearUav view v0 v1 v2 v3) = predicated b (option_to_list (bound_range (bound_view o view)))
binds o b (calls.MapWrite res mode offset bytes) = if mode == MAP_WRITE then range_of res offset (length bytes) else []
binds o b _ = []

-- what the buffer holds is discarded
abbrev pub discarded_by : Call → List Deed
discarded_by (calls.MapWrite res mode offset bytes) = if mode == MAP_DISCARD then past.Discards res ∷ [] else []
discarded_by _ = []

-- the deeds of a call that may stand in a list
abbrev pub deeds : Objects → Bindings → Call → List Deed
deeds o b c = discarded_by c ++ map past.Binds (binds o b c)

-- the deeds of a call of the device: a creation makes a buffer
abbrev pub makings : Call → List Deed
makings (calls.Buffer id size usage bind misc stride bytes) = past.Makes id ∷ []
makings _ = []

-- ---- what the calls of a list do, from the default state on

abbrev pub deeds_from : Objects → Bindings → List Numbered → List Deed
deeds_from o b [] = []
deeds_from o b (c ∷ cs) = deeds o b c.call ++ deeds_from o (set_by o b c.call) cs

abbrev pub deeds_of_list : Objects → List Numbered → List Deed
deeds_of_list o cs = deeds_from o default_bindings cs

-- the past of an open list, by itself
abbrev pub past_of_list : Objects → List Numbered → Past
past_of_list o cs = then_done 0 [] (deeds_of_list o cs)

-- the query is begun after these calls, where `before` says whether it was before
abbrev pub begun_after : ℕ → Bool → List Numbered → Bool
begun_after query before [] = before
begun_after query before (c ∷ cs) = begun_after query (begun_by query before c.call) cs
  where
    begun_by : ℕ → Bool → Call → Bool
    begun_by query before (calls.Begin q) = before || (q == query)
    begun_by query before (calls.EndQuery q) = if q == query then false else before
    begun_by query before _ = before

abbrev pub begins : Call → List ℕ
begins (calls.Begin q) = q ∷ []
begins _ = []

-- the queries that a list begins
abbrev pub begun_in_list : List Numbered → List ℕ
begun_in_list cs = flat_map (λ c. begins c.call) cs

-- ---- what a call names

-- An object, by its class as a destruction has it. No object has id 0, so a slot that is emptied by it names none.
pub record Name : Type 0 where
  pub class : ℕ
  pub id : ℕ

abbrev pub name : ℕ → ℕ → List Name
name class id = record { class = class; id = id } ∷ []

-- the objects that a call on a deferred context names
abbrev pub names : Call → List Name
names (calls.SetShader id) = name SHADER_CLASS id
names (calls.SetConstant slot res) = name BUFFER_CLASS res
names (calls.SetSrv slot view) = name VIEW_CLASS view
names (calls.SetUav slot view) = name VIEW_CLASS view
names (calls.DispatchIndirect res offset) = name BUFFER_CLASS res
names (calls.CopyRegion target target_offset source source_offset len) = name BUFFER_CLASS target ++ name BUFFER_CLASS source
names (calls.Copy target source) = name BUFFER_CLASS target ++ name BUFFER_CLASS source
names (calls.Update res offset bytes) = name BUFFER_CLASS res
names (calls.ClearUav view v0 v1 v2 v3) = name VIEW_CLASS view
names (calls.SetPredication kind id offset value) = if kind == QUERY_PREDICATE then name QUERY_CLASS id else name BUFFER_CLASS id
names (calls.Begin query) = name QUERY_CLASS query
names (calls.EndQuery query) = name QUERY_CLASS query
names (calls.MapWrite res mode offset bytes) = name BUFFER_CLASS res
names _ = []

abbrev pub is_name : ℕ → ℕ → Name → Bool
is_name class id n = (n.class == class) && (n.id == id)

abbrev pub list_names : ℕ → ℕ → List Numbered → Bool
list_names class id cs = list_any (λ c. list_any (is_name class id) (names c.call)) cs

-- a call of an open or a live list names the object
abbrev pub is_listed : Objects → ℕ → ℕ → Bool
is_listed o class id = list_any (λ x. list_names class id x.recorded) o.contexts || list_any (list_names class id) (ids.values o.lists)
