-- An accepted call names ranges that fit, and binds and sets what fits, wherever what is set does.
use Rattle.std.proofs.Common.{◌≡◌, ℕ, zero, suc, ◌+◌, ◌<◌, ◌≤◌, Bool, true, false, not, ◌&&◌, ◌||◌, List, [], ◌∷◌}
use Rattle.std.proofs.Common.{◌++◌, length, map, Option, Some, None, refl, sym, ap, ◌∙◌, subst, arith, eq-eqb}
use Rattle.std.proofs.Common.{ltb-false, ltb-true, lt-ltb}
use Rattle.std.specs.Prelude.{◌==◌, ◌%◌, is_some, nat_lt, if◌then◌else◌}
use Rattle.std.specs.List.{list_any, filter_map, AllByRecursion}
use Rattle.std.specs.Option.{option_to_list}
use Rattle.dx_types.specs.declared.shape.Shape.{Shape}
use Rattle.dx_types.specs.declared.shape.ViewShape.{ViewShape}
use Rattle.dx_types.specs.declared.range.ResRange.{ResRange}
use Rattle.call_log.specs.Call as calls
use Rattle.call_log.specs.Call.{Call}
use Rattle.base_lemmas.specs.IdMap.{get}
use Rattle.d3d_model.specs.Check.{has, is_named}
use Rattle.d3d_model.specs.Resource.{is_dynamic, is_staging, size_of, is_one}
use Rattle.d3d_model.specs.View.{view_range}
use Rattle.d3d_model.specs.Binding as binding
use Rattle.d3d_model.specs.Binding.{Bindings, BoundView, Predicate, default_bindings, constant_range, constant_ranges}
use Rattle.d3d_model.specs.Binding.{view_ranges, bound_range, predicate_range, is_beside, without}
use Rattle.d3d_model.specs.D3dState.{Objects, buffer_of, bound_if, bound_view}
use Rattle.d3d_model.specs.Past.{Past}
use Rattle.d3d_model.specs.Verdict.{is_live_buffer, buffer_is, passes_end, not_mappable, call_checks}
use Rattle.d3d_model.specs.Stream.{set_by, binds, range_of, cut, predicated, whole_of, dispatch_ranges}
use Rattle.d3d_model.proofs.Checked.{Passed}
use Rattle.d3d_model.proofs.Named.{none_of, names_live}
use Rattle.d3d_model.proofs.Listed.{left_of, differ}
use Rattle.log_script.specs.Fitting.{LivesAndFits, ConstantLives, ConstantFits, ViewFits, WordFits, SetFits}
use Rattle.log_script.proofs.Owed.StayingFit.{Stays, range_stays, unequal, all_append, all_set, all_replicate}
use Rattle.log_script.proofs.Owed.StayingFit.{RangesFit, MapFits, BufferLives, OwnFits}

-- a live buffer has a byte, whole words, and no more than 16,777,216 bytes. Where it is made of structures, each has
-- a byte; where it is one of constants, no view shows it
pub record HasBytes (s : Shape) : Type 0 where
  pub byte : 0 < s.size
  pub words : s.size % 4 ≡ 0
  pub constants : has s.bind 1 ≡ true → (has s.bind 2 || has s.bind 4) ≡ false
  pub few : s.size ≤ 16777216
  pub structure : has s.misc 2 ≡ true → 0 < s.stride

abbrev pub BuffersFit : Objects → Type 0
BuffersFit o = (id : ℕ) (s : Shape) → get o.buffers id ≡ Some s → HasBytes s

-- a view is of bytes of a live buffer that views may show
pub record ViewRests (o : Objects) (v : ViewShape) : Type 0 where
  pub fits : LivesAndFits o (view_range v)
  pub shape : Shape
  pub lives : buffer_of o v.res ≡ Some shape
  pub shows : (has shape.bind 2 || has shape.bind 4) ≡ true

pub rests_stay : (o o' : Objects) (class id : ℕ) → Stays o o' class id → (v : ViewShape)
    → (class ≡ 1 → v.res ≡ id → ⊥) → ViewRests o v → ViewRests o' v
rests_stay o o' class id still v apart h =
    record {
      fits = range_stays o o' class id still (view_range v) apart h.fits;
      shape = h.shape;
      lives =
          still.buffers v.res h.shape apart h.lives;
      shows = h.shows;
    }

abbrev pub ViewsFit : Objects → Type 0
ViewsFit o = (id : ℕ) (v : ViewShape) → get o.views id ≡ Some v → ViewRests o v

-- ---- ranges

pub positive : (n : ℕ) → (n == 0) ≡ false → 0 < n
positive zero e = absurd cc
positive (suc n) e = omega arith

pub fits_by : (o : Objects) (r : ResRange) (g : Option Shape) → buffer_of o r.res ≡ g → r.from < r.to
    → r.to ≤ size_of g → LivesAndFits o r
fits_by o r None e a b = absurd (omega (arith, a, b))
fits_by o r (Some s) e a b = record { has_byte = a; shape = s; lives = e; fits = b }

-- what doesn't pass its buffer's end fits
pub range_fits : (o : Objects) (res from len : ℕ) → passes_end o res from len ≡ false
    → RangesFit o (range_of res from len)
range_fits o res from len e =
    let r : ResRange = record { res = res; from = from; to = from + len } in
    let inside : from + len ≤ size_of (buffer_of o res) = ltb-false (size_of (buffer_of o res)) (from + len) e in
    elim (len == 0) as (λ b. (len == 0) ≡ b → RangesFit o (if b then [] else r ∷ [])) [
      | true ↦ λ f. tt
      | false ↦ λ f. (fits_by o r (buffer_of o res) refl (omega (arith, positive len f)) inside, tt)
    ] refl

not_less : (a b : ℕ) → b ≤ a → nat_lt a b ≡ false
not_less a b h = elim (nat_lt a b) as (λ t. nat_lt a b ≡ t → t ≡ false) [
  | true ↦ λ e. absurd (omega (arith, ltb-true a b e, h))
  | false ↦ λ e. refl
] refl

whole_fits : (o : Objects) (res : ℕ) → RangesFit o (whole_of o res)
whole_fits o res = range_fits o res 0 (size_of (buffer_of o res))
    (not_less (size_of (buffer_of o res)) (0 + size_of (buffer_of o res)) (omega arith))

-- ---- what an accepted call names

pub not_false : (b : Bool) → not b ≡ false → b ≡ true
not_false true e = refl
not_false false e = absurd cc

pub some_one : {X : Type 0} (o : Option X) → is_some o ≡ true → (x : X) × (o ≡ Some x)
some_one None e = absurd cc
some_one (Some x) e = (x, refl)

self_named : (id : ℕ) → ((1 == 1) && (id == id)) || false ≡ true
self_named id = ap (λ b. b || false) (eq-eqb id id refl)

not_zero : (res : ℕ) → (res == 0) ≡ false → is_named res ≡ true
not_zero res e = lt-ltb 0 res (positive res e)

constant_fits : (o : Objects) (res : ℕ) → BuffersFit o → (res == 0) || is_live_buffer o res ≡ true
    → is_named res && not (buffer_is o res (λ s. has s.bind 1)) ≡ false
    → ConstantFits o (constant_range res)
constant_fits o res live h bind = elim (res == 0) as (λ b. (res == 0) ≡ b → b || is_live_buffer o res ≡ true
    → ConstantFits o (if b then None else Some (record { res = res; from = 0; to = 65536 }))) [
      | true ↦ λ z e. tt
      | false ↦ λ z e.
          let found = some_one (buffer_of o res) e in
          let constants : buffer_is o res (λ s. has s.bind 1) ≡ true =
          not_false (buffer_is o res (λ s. has s.bind 1)) (sym
          (ap (λ c. c && not (buffer_is o res (λ s. has s.bind 1))) (not_zero res z)) ∙ bind) in
          record {
            starts = refl;
            ends = refl;
            shape = found.0;
            lives = found.1;
            has_byte = (live res found.0 found.1).byte;
            constants = subst (λ (g : Option Shape). is_one g (λ s. has s.bind 1) ≡ true) found.1 constants;
          }
    ] refl h

dynamic_by : (many low dynamic staging same : Bool) → many || (low && not dynamic) || (same && not staging) ≡ false
    → same ≡ false → (many ≡ false → same ≡ false → low ≡ true) → dynamic ≡ true
dynamic_by true low dynamic staging same e f g = absurd cc
dynamic_by false true true staging same e f g = refl
dynamic_by false true false staging same e f g = absurd cc
dynamic_by false false dynamic staging same e f g = absurd (differ false refl (g refl f))

low_mode : (mode : ℕ) → nat_lt 2 mode ≡ false → (mode == 2) ≡ false → nat_lt mode 2 ≡ true
low_mode mode e f = lt-ltb mode 2 (omega (arith, ltb-false 2 mode e, unequal mode 2 f))

map_fits : (o : Objects) (res mode offset len : ℕ) → not (is_live_buffer o res) ≡ false
    → not_mappable o res mode ≡ false → passes_end o res offset len ≡ false → MapFits o res mode offset len
map_fits o res mode offset len live mappable inside =
    let found = some_one (buffer_of o res) (not_false (is_live_buffer o res) live) in
    record {
      shape = found.0;
      lives = found.1;
      fits = subst (λ (g : Option Shape). offset + len ≤ size_of g) found.1
          (ltb-false (size_of (buffer_of o res)) (offset + len) inside);
      dynamic = λ other. subst (λ (g : Option Shape). is_one g (λ s. is_dynamic s.usage) ≡ true) found.1
          (dynamic_by (nat_lt 2 mode) (nat_lt mode 2) (buffer_is o res (λ s. is_dynamic s.usage))
          (buffer_is o res (λ s. is_staging s.usage)) (mode == 2) mappable other (low_mode mode));
    }

pub live_buffer : (o : Objects) (res : ℕ) → not (is_live_buffer o res) ≡ false → BufferLives o res
live_buffer o res e = let found = some_one (buffer_of o res) (not_false (is_live_buffer o res) e) in
    record { shape = found.0; lives = found.1 }

pub own_fits : (o : Objects) (past : Past) (x : ℕ) (c : Call) → BuffersFit o → Passed (call_checks o past x c)
    → OwnFits o c
own_fits o past x (calls.SetShader id) live p = names_live o past x (calls.SetShader id) p 3 id (self_named id)
own_fits o past x (calls.SetConstant slot res) live p = constant_fits o res live
    (names_live o past x (calls.SetConstant slot res) p 1 res (self_named res)) p.1.1.0
own_fits o past x (calls.SetPredication zero id offset value) live p = tt
own_fits o past x (calls.SetPredication (suc zero) id offset value) live p = tt
own_fits o past x (calls.SetPredication (suc (suc zero)) id offset value) live p =
    (range_fits o id offset 4 (none_of (not (offset % 4 == 0)) (passes_end o id offset 4) p.1.1.1.1.0)).0
own_fits o past x (calls.SetPredication (suc (suc (suc k))) id offset value) live p =
    absurd (omega (arith, ltb-false 2 (suc (suc (suc k))) p.0))
own_fits o past x (calls.DispatchIndirect res offset) live p =
    range_fits o res offset 12 (none_of (not (offset % 4 == 0)) (passes_end o res offset 12) p.1.1.0)
own_fits o past x (calls.CopyRegion target target_offset source source_offset len) live p = (
  range_fits o source source_offset len (none_of (passes_end o target target_offset len)
      (passes_end o source source_offset len) p.1.1.1.1.0),
  range_fits o target target_offset len (left_of (passes_end o target target_offset len)
      (passes_end o source source_offset len) p.1.1.1.1.0),
)
own_fits o past x (calls.Copy target source) live p = (live_buffer o source p.1.0, live_buffer o target p.0)
own_fits o past x (calls.Update res offset bytes) live p = range_fits o res offset (length bytes) p.1.1.0
own_fits o past x (calls.MapWrite res mode offset bytes) live p =
    map_fits o res mode offset (length bytes) p.0 p.1.0 p.1.1.1.0
own_fits o past x _ live p = tt

-- ---- what a call sets

pub bound_fits : (o : Objects) (view : ℕ) → ViewsFit o → ViewFits o (bound_view o view)
bound_fits o view views = elim (view == 0) as (λ b. ViewFits o (if b then None else bound_if view (get o.views view))) [
  | true ↦ tt
  | false ↦ by_view (get o.views view) refl
]
  where
    by_view : (v : Option ViewShape) → get o.views view ≡ v → ViewFits o (bound_if view v)
    by_view None e = tt
    by_view (Some v) e = record { lives = e; fits = (views view v e).fits }

unless_fits : (o : Objects) (b : Bool) (slot : Option BoundView) → ViewFits o slot
    → ViewFits o (if b then None else slot)
unless_fits o true slot h = tt
unless_fits o false slot h = h

without_fits : (o : Objects) (v : Option BoundView) (slots : List (Option BoundView))
    → AllByRecursion (ViewFits o) slots → AllByRecursion (ViewFits o) (without v slots)
without_fits o v [] h = tt
without_fits o v (s ∷ slots) h = (unless_fits o (is_beside v s) s h.0, without_fits o v slots h.1)

pub default_fits : (o : Objects) → SetFits o default_bindings
default_fits o = record {
  shader = refl;
  constants = all_replicate (ConstantFits o) 14 None tt;
  srvs =
      all_replicate (ViewFits o) 16 None tt;
  uavs = all_replicate (ViewFits o) 8 None tt;
  predicate = tt;
}

pub set_by_fits : (o : Objects) (b : Bindings) (c : Call) → ViewsFit o → OwnFits o c → SetFits o b
    → SetFits o (set_by o b c)
set_by_fits o b (calls.SetShader id) views own h = record {
  shader = own;
  constants = h.constants;
  srvs =
      h.srvs;
  uavs = h.uavs;
  predicate = h.predicate;
}
set_by_fits o b (calls.SetConstant slot res) views own h =
    record {
      shader = h.shader;
      constants = all_set (ConstantFits o) b.constants slot (constant_range res) own
          h.constants;
      srvs = h.srvs;
      uavs = h.uavs;
      predicate = h.predicate;
    }
set_by_fits o b (calls.SetSrv slot view) views own h =
    let v : Option BoundView = bound_view o view in
    let given : Option BoundView = if list_any (is_beside v) b.uavs then None else v in
    record {
      shader = h.shader;
      constants = h.constants;
      srvs = all_set (ViewFits o) b.srvs slot given (unless_fits o (list_any (is_beside v) b.uavs) v
          (bound_fits o view views)) h.srvs;
      uavs = h.uavs;
      predicate = h.predicate;
    }
set_by_fits o b (calls.SetUav slot view) views own h =
    let v : Option BoundView = bound_view o view in
    record {
      shader = h.shader;
      constants = h.constants;
      srvs = without_fits o v b.srvs h.srvs;
      uavs = all_set (ViewFits o) (without v b.uavs) slot v (bound_fits o view views) (without_fits o v b.uavs h.uavs);
      predicate = h.predicate;
    }
set_by_fits o b calls.ClearState views own h = default_fits o
set_by_fits o b (calls.SetPredication kind id offset value) views own h =
    record { shader = h.shader; constants = h.constants; srvs = h.srvs; uavs = h.uavs; predicate = own }
set_by_fits o b _ views own h = h

-- ---- what a call binds

pub cut_fits : (o : Objects) (r : ResRange) → ConstantLives o r → LivesAndFits o (cut o r)
cut_fits o r h =
    let size : size_of (buffer_of o r.res) ≡ h.shape.size = ap size_of h.lives in
    record {
      has_byte = omega (arith, h.starts, h.ends, h.has_byte, size);
      shape = h.shape;
      lives = h.lives;
      fits =
          omega (arith, size);
    }

cuts_fit : (o : Objects) (slots : List (Option ResRange)) → AllByRecursion (ConstantFits o) slots
    → RangesFit o (map (cut o) (filter_map (λ slot. slot) slots))
cuts_fit o [] h = tt
cuts_fit o (None ∷ slots) h = cuts_fit o slots h.1
cuts_fit o (Some r ∷ slots) h = (cut_fits o r h.0, cuts_fit o slots h.1)

slots_fit : (o : Objects) (slots : List (Option BoundView)) → AllByRecursion (ViewFits o) slots
    → RangesFit o (filter_map bound_range slots)
slots_fit o [] h = tt
slots_fit o (None ∷ slots) h = slots_fit o slots h.1
slots_fit o (Some v ∷ slots) h = (h.0.fits, slots_fit o slots h.1)

word_fits : (o : Objects) (p : Predicate) → WordFits o p → RangesFit o (predicate_range p)
word_fits o binding.Never h = tt
word_fits o (binding.Query id value) h = tt
word_fits o (binding.Word res offset value) h = (h, tt)

dispatch_fits : (o : Objects) (b : Bindings) → SetFits o b → RangesFit o (dispatch_ranges o b)
unfolding constant_ranges view_ranges
dispatch_fits o b h =
    all_append (LivesAndFits o) (map (cut o) (constant_ranges b)) (view_ranges b) (cuts_fit o b.constants h.constants)
    (all_append (LivesAndFits o) (filter_map bound_range b.srvs)
    (filter_map bound_range b.uavs ++ predicate_range b.predicate) (slots_fit o b.srvs h.srvs)
    (all_append (LivesAndFits o) (filter_map bound_range b.uavs) (predicate_range b.predicate)
    (slots_fit o b.uavs h.uavs) (word_fits o b.predicate h.predicate)))

predicated_fits : (o : Objects) (b : Bindings) (rs : List ResRange) → SetFits o b → RangesFit o rs
    → RangesFit o (predicated b rs)
predicated_fits o b [] h g = tt
predicated_fits o b (r ∷ rs) h g = all_append (LivesAndFits o) (r ∷ rs) (predicate_range b.predicate) g
    (word_fits o b.predicate h.predicate)

one_fits : (o : Objects) (slot : Option BoundView) → ViewFits o slot → RangesFit o (option_to_list (bound_range slot))
one_fits o None h = tt
one_fits o (Some v) h = (h.fits, tt)

if_fits : (o : Objects) (b : Bool) (rs : List ResRange) → RangesFit o rs → RangesFit o (if b then rs else [])
if_fits o true rs h = h
if_fits o false rs h = tt

mapped_fits : (o : Objects) (res mode offset len : ℕ) → MapFits o res mode offset len
    → RangesFit o (range_of res offset len)
mapped_fits o res mode offset len h =
    range_fits o res offset len (subst (λ (g : Option Shape). nat_lt (size_of g) (offset + len) ≡ false)
    (sym h.lives) (not_less h.shape.size (offset + len) h.fits))

pub binds_fit : (o : Objects) (b : Bindings) (c : Call) → ViewsFit o → OwnFits o c → SetFits o b
    → RangesFit o (binds o b c)
binds_fit o b (calls.Dispatch x y z) views own h = dispatch_fits o b h
binds_fit o b (calls.DispatchIndirect res offset) views own h =
    all_append (LivesAndFits o) (range_of res offset 12) (dispatch_ranges o b) own (dispatch_fits o b h)
binds_fit o b (calls.CopyRegion target target_offset source source_offset len) views own h =
    predicated_fits o b (range_of source source_offset len ++ range_of target target_offset len) h
    (all_append (LivesAndFits o) (range_of source source_offset len) (range_of target target_offset len) own.0 own.1)
binds_fit o b (calls.Copy target source) views own h =
    predicated_fits o b (whole_of o source ++ whole_of o target) h
    (all_append (LivesAndFits o) (whole_of o source) (whole_of o target) (whole_fits o source)
    (whole_fits o target))
binds_fit o b (calls.Update res offset bytes) views own h = predicated_fits o b (range_of res offset (length bytes))
    h own
binds_fit o b (calls.ClearUav view v0 v1 v2 v3) views own h =
    predicated_fits o b (option_to_list (bound_range (bound_view o view))) h
    (one_fits o (bound_view o view) (bound_fits o view views))
binds_fit o b (calls.MapWrite res mode offset bytes) views own h =
    if_fits o (mode == 2) (range_of res offset (length bytes)) (mapped_fits o res mode offset (length bytes) own)
binds_fit o b _ views own h = tt
