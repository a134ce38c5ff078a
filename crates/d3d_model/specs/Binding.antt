-- What is set on a context: D3D11's compute shader stage, and its predication.
use Rattle.std.specs.Prelude.{ℕ, ◌+◌, ◌==◌, Bool, false, ◌||◌, List, [], ◌∷◌, ◌++◌, map, replicate, slice_set, Option, None, Some, if◌then◌else◌}
use Rattle.std.specs.List.{list_any, filter_map}
use Rattle.std.specs.Option.{option_map}
use Rattle.dx_types.specs.declared.shape.ViewShape.{ViewShape}
use Rattle.dx_types.specs.declared.range.ResRange.{ResRange}
use Rattle.dx_types.specs.declared.limits.TheConstants.{CONSTANT_SLOTS, MAX_CONSTANT_SIZE, SRV_SLOTS, UAV_SLOTS}
use Rattle.d3d_model.specs.View.{view_range}

-- a view with its shape: while it is set it can't be destroyed
pub record BoundView : Type 0 where
  pub view : ℕ
  pub shape : ViewShape

-- A predicated call is skipped where the predicate's result equals the value. A query's result is 0. A word's
-- result is 0 or 1, by whether the word is 0.
pub data Predicate : Type 0 where
  Never : Predicate
  Query : (id value : ℕ) → Predicate
  Word : (res offset value : ℕ) → Predicate

-- the shader by id, 0 for none; 14 constant slots, 16 shader resource slots, 8 unordered access slots
pub record Bindings : Type 0 where
  pub shader : ℕ
  pub constants : List (Option ResRange)
  pub srvs : List (Option BoundView)
  pub uavs : List (Option BoundView)
  pub predicate : Predicate

abbrev pub default_bindings : Bindings
default_bindings = record { shader = 0; constants = replicate CONSTANT_SLOTS None; srvs = replicate SRV_SLOTS None; uavs = replicate UAV_SLOTS None; predicate = Never }

-- ---- what is set

-- the most that a constant slot shows of a buffer
abbrev pub constant_range : ℕ → Option ResRange
constant_range res = if res == 0 then None else Some (record { res = res; from = 0; to = MAX_CONSTANT_SIZE })

-- a slot with a view of this buffer
abbrev pub is_view_of : ℕ → Option BoundView → Bool
is_view_of res None = false
is_view_of res (Some v) = v.shape.res == res

-- a slot with a view of the same buffer as this one
abbrev pub is_beside : Option BoundView → Option BoundView → Bool
is_beside None slot = false
is_beside (Some v) slot = is_view_of v.shape.res slot

-- slots without the views of the buffer of this one
abbrev pub without : Option BoundView → List (Option BoundView) → List (Option BoundView)
without v slots = map (λ s. if is_beside v s then None else s) slots

abbrev pub set_shader : Bindings → ℕ → Bindings
set_shader b id = record b { shader = id }

abbrev pub set_constant : Bindings → ℕ → ℕ → Bindings
set_constant b slot res = record b { constants = slice_set b.constants slot (constant_range res) }

-- a buffer that is set for writes can't be set for reads: the slot is left empty
abbrev pub set_srv : Bindings → ℕ → Option BoundView → Bindings
set_srv b slot v = record b { srvs = slice_set b.srvs slot (if list_any (is_beside v) b.uavs then None else v) }

-- a buffer that is set for writes leaves each other slot
abbrev pub set_uav : Bindings → ℕ → Option BoundView → Bindings
set_uav b slot v = record b { srvs = without v b.srvs; uavs = slice_set (without v b.uavs) slot v }

abbrev pub set_predicate : Bindings → Predicate → Bindings
set_predicate b p = record b { predicate = p }

-- ---- which bytes are set

abbrev pub predicate_range : Predicate → List ResRange
predicate_range Never = []
predicate_range (Query id value) = []
predicate_range (Word res offset value) = record { res = res; from = offset; to = offset + 4 } ∷ []

abbrev pub bound_range : Option BoundView → Option ResRange
bound_range slot = option_map (λ v. view_range v.shape) slot

-- what the constant slots show, by rising slot; not yet cut to their buffers
unfoldable pub constant_ranges : Bindings → List ResRange
constant_ranges b = filter_map (λ slot. slot) b.constants

-- the ranges of the shader resources, then of the unordered access views, by rising slot, then the predicate's word
unfoldable pub view_ranges : Bindings → List ResRange
view_ranges b = filter_map bound_range b.srvs ++ (filter_map bound_range b.uavs ++ predicate_range b.predicate)

-- the ranges that a dispatch binds
abbrev pub footprint : Bindings → List ResRange
footprint b = constant_ranges b ++ view_ranges b

-- ---- which objects are set

abbrev pub is_constant_of : ℕ → Option ResRange → Bool
is_constant_of res None = false
is_constant_of res (Some r) = r.res == res

abbrev pub reads_word_of : ℕ → Predicate → Bool
reads_word_of res Never = false
reads_word_of res (Query id value) = false
reads_word_of res (Word word_of offset value) = word_of == res

abbrev pub asks_query : ℕ → Predicate → Bool
asks_query query Never = false
asks_query query (Query id value) = id == query
asks_query query (Word res offset value) = false

abbrev pub is_view : ℕ → Option BoundView → Bool
is_view view None = false
is_view view (Some v) = v.view == view

abbrev pub holds_buffer : Bindings → ℕ → Bool
holds_buffer b res =
    list_any (is_constant_of res) b.constants || list_any (is_view_of res) b.srvs || list_any (is_view_of res) b.uavs || reads_word_of res b.predicate

abbrev pub holds_view : Bindings → ℕ → Bool
holds_view b view = list_any (is_view view) b.srvs || list_any (is_view view) b.uavs

abbrev pub holds_shader : Bindings → ℕ → Bool
holds_shader b id = b.shader == id

abbrev pub holds_query : Bindings → ℕ → Bool
holds_query b query = asks_query query b.predicate
