-- A dispatch touches what it binds: the slots that are declared are among all slots.
use Rattle.std.proofs.Common.{ℕ, suc, true, false, List, [], ◌∷◌, ◌++◌, map, Option, Some, None, sym, subst}
use Rattle.std.specs.Prelude.{if◌then◌else◌}
use Rattle.std.specs.List.{filter_map, cons_option, find}
use Rattle.std.proofs.lemmas.List.{map-append}
use Rattle.dx_types.specs.declared.range.Range.{Range}
use Rattle.dx_types.specs.declared.range.ResRange.{ResRange}
use Rattle.shader_model.specs.declared.tree.Declared.{Declared}
use Rattle.vk_types.specs.declared.touch.Touch.{Touch}
use Rattle.vk_types.specs.declared.command.SlotName.{SlotName}
use Rattle.vk_types.specs.declared.command.SlotName.TheVariants as slot
use Rattle.vk_types.specs.declared.command.SlotRange.{SlotRange}
use Rattle.vk_types.specs.Hazards.{slot_touch}
use Rattle.d3d_model.specs.Binding.{Bindings, BoundView, bound_range, constant_ranges, view_ranges, predicate_range}
use Rattle.d3d_model.specs.View.{view_range}
use Rattle.d3d_model.specs.Shader.{declared_by, fits_slot}
use Rattle.d3d_model.specs.D3dState.{Objects, words_set}
use Rattle.d3d_model.specs.Memory.{is_declared, constant_shown, view_shown, shown_from, constants_shown, srvs_shown}
use Rattle.d3d_model.specs.Memory.{uavs_shown}
use Rattle.d3d_model.specs.Past.{Past}
use Rattle.d3d_model.specs.Stream.{cut, dispatch_ranges}
use Rattle.log_script.specs.Makers.{of_maker, of_makers}
use Rattle.log_script.specs.Plays.{slots_from, slots_listed}
use Rattle.log_script.proofs.Owed.Within.{Within, within_more, within_over, within_both, within_front, within_back}

abbrev Slots : Past → (ℕ → SlotName) → ℕ → List (Option ResRange) → List Touch
Slots past name k shown = map slot_touch (slots_from past name k shown)

-- ---- constants

constant_more : (past : Past) (o : Objects) (name : ℕ → SlotName) (k : ℕ) (d : Option Declared)
    (s : Option ResRange) (shown : List (Option ResRange)) (rs : List ResRange)
    → Within (Slots past name (suc k) shown) (of_makers past (map (cut o) rs))
    → Within (Slots past name k (constant_shown o d s ∷ shown)) (of_makers past (map (cut o) (cons_option s rs)))
constant_more past o name k None None shown rs h = h
constant_more past o name k None (Some r) shown rs h = within_over (Slots past name (suc k) shown)
    (of_maker past (cut o r)) (of_makers past (map (cut o) rs)) h
constant_more past o name k (Some d) None shown rs h = h
constant_more past o name k (Some d) (Some r) shown rs h =
    within_more (slot_touch (record { slot = name k; range = of_maker past (cut o r) }))
    (Slots past name (suc k) shown) (of_makers past (map (cut o) rs)) h

constants_within : (past : Past) (o : Objects) (ds : List Declared) (k : ℕ) (slots : List (Option ResRange))
    → Within (Slots past slot.Constant k (shown_from (constant_shown o) ds 3 k slots))
    (of_makers past (map (cut o) (filter_map (λ s. s) slots)))
constants_within past o ds k [] = λ b i e. e
constants_within past o ds k (s ∷ slots) =
    constant_more past o slot.Constant k (find (is_declared 3 k) ds) s
    (shown_from (constant_shown o) ds 3 (suc k) slots) (filter_map (λ s. s) slots)
    (constants_within past o ds (suc k) slots)

-- ---- views

view_more : (past : Past) (name : ℕ → SlotName) (k : ℕ) (d : Option Declared) (s : Option BoundView)
    (shown : List (Option ResRange)) (rs : List ResRange)
    → Within (Slots past name (suc k) shown) (of_makers past rs)
    → Within (Slots past name k (view_shown d s ∷ shown)) (of_makers past (cons_option (bound_range s) rs))
view_more past name k None None shown rs h = h
view_more past name k None (Some v) shown rs h = within_over (Slots past name (suc k) shown)
    (of_maker past (view_range v.shape)) (of_makers past rs) h
view_more past name k (Some d) None shown rs h = h
view_more past name k (Some d) (Some v) shown rs h =
    elim (fits_slot d v.shape) as
    (λ t. Within (Slots past name k ((if t then Some (view_range v.shape) else None) ∷ shown))
    (of_makers past (view_range v.shape ∷ rs))) [
      | true ↦ within_more (slot_touch (record { slot = name k; range = of_maker past (view_range v.shape) }))
          (Slots past name (suc k) shown) (of_makers past rs) h
      | false ↦ within_over (Slots past name (suc k) shown) (of_maker past (view_range v.shape)) (of_makers past rs) h
    ]

views_within : (past : Past) (name : ℕ → SlotName) (ds : List Declared) (opcode k : ℕ) (slots : List (Option BoundView))
    → Within (Slots past name k (shown_from view_shown ds opcode k slots))
    (of_makers past (filter_map bound_range slots))
views_within past name ds opcode k [] = λ b i e. e
views_within past name ds opcode k (s ∷ slots) =
    view_more past name k (find (is_declared opcode k) ds) s (shown_from view_shown ds opcode (suc k) slots)
    (filter_map bound_range slots)
    (views_within past name ds opcode (suc k) slots)

-- ---- all slots

two_lists : (xs ys : List SlotRange) (rs : List Range) → Within (map slot_touch xs) rs
    → Within (map slot_touch ys) rs → Within (map slot_touch (xs ++ ys)) rs
two_lists xs ys rs h k = subst (λ ts. Within ts rs) (sym (map-append slot_touch xs ys))
    (within_both (map slot_touch xs) (map slot_touch ys) rs h k)

pub slots_within : (past : Past) (o : Objects) (b : Bindings)
    → Within (map slot_touch (slots_listed past o b)) (of_makers past (dispatch_ranges o b))
unfolding constant_ranges view_ranges
slots_within past o b =
    let ds = declared_by (words_set o b) in
    let constants : List ResRange = map (cut o) (filter_map (λ s. s) b.constants) in
    let reads : List ResRange = filter_map bound_range b.srvs in
    let writes : List ResRange = filter_map bound_range b.uavs in
    let rest : List ResRange = writes ++ predicate_range b.predicate in
    let all : List Range = of_makers past (constants ++ (reads ++ rest)) in
    let s = slots_from past slot.Srv 0 (srvs_shown b ds) in
    let u = slots_from past slot.Uav 0 (uavs_shown b ds) in
    two_lists (slots_from past slot.Constant 0 (constants_shown o b ds)) (s ++ u) all
    (within_front past (map slot_touch (slots_from past slot.Constant 0 (constants_shown o b ds))) constants
    (reads ++ rest) (constants_within past o ds 0 b.constants))
    (two_lists s u all
    (within_back past (map slot_touch s) constants (reads ++ rest)
    (within_front past (map slot_touch s) reads rest (views_within past slot.Srv ds 4 0 b.srvs)))
    (within_back past (map slot_touch u) constants (reads ++ rest)
    (within_back past (map slot_touch u) reads rest (within_front past (map slot_touch u) writes
    (predicate_range b.predicate) (views_within past slot.Uav ds 5 0 b.uavs)))))

-- the predicate's word is bound with the rest
pub word_within : (past : Past) (o : Objects) (b : Bindings) (ts : List Touch)
    → Within ts (of_makers past (predicate_range b.predicate)) → Within ts (of_makers past (dispatch_ranges o b))
unfolding constant_ranges view_ranges
word_within past o b ts h =
    let constants : List ResRange = map (cut o) (filter_map (λ s. s) b.constants) in
    let reads : List ResRange = filter_map bound_range b.srvs in
    let writes : List ResRange = filter_map bound_range b.uavs in
    within_back past ts constants (reads ++ (writes ++ predicate_range b.predicate))
    (within_back past ts reads (writes ++ predicate_range b.predicate)
    (within_back past ts writes (predicate_range b.predicate) h))
