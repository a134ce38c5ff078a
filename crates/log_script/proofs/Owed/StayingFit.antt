-- What fits in one state still fits in another where the objects that it names still live.
use Rattle.std.proofs.Common.{◌≡◌, ℕ, zero, suc, ◌+◌, ◌≤◌, Bool, true, false, ◌||◌, List, [], ◌∷◌, ◌++◌, length}
use Rattle.std.proofs.Common.{replicate, Option, Some, None, refl, eq-eqb}
use Rattle.std.specs.Prelude.{◌==◌, ⊤, slice_set, slice_index_or, if◌then◌else◌}
use Rattle.std.specs.List.{list_any, AllByRecursion}
use Rattle.dx_types.specs.declared.shape.Shape.{Shape}
use Rattle.dx_types.specs.declared.shape.ViewShape.{ViewShape}
use Rattle.dx_types.specs.declared.range.ResRange.{ResRange}
use Rattle.call_log.specs.Call as calls
use Rattle.call_log.specs.Call.{Call}
use Rattle.base_lemmas.specs.IdMap.{get}
use Rattle.d3d_model.specs.Resource.{is_dynamic}
use Rattle.d3d_model.specs.View.{view_range}
use Rattle.d3d_model.specs.Binding as binding
use Rattle.d3d_model.specs.Binding.{Bindings, BoundView, Predicate, constant_range, is_constant_of, is_view_of}
use Rattle.d3d_model.specs.Binding.{is_view, reads_word_of, holds_buffer, holds_view, holds_shader}
use Rattle.d3d_model.specs.D3dState.{Objects, Numbered, buffer_of}
use Rattle.d3d_model.specs.Verdict.{is_live_shader}
use Rattle.d3d_model.specs.Stream.{predicate_from, range_of, name, names, is_name, list_names}
use Rattle.d3d_model.proofs.Named.{none_of}
use Rattle.d3d_model.proofs.Listed.{differ, left_of}
use Rattle.log_script.specs.Fitting.{LivesAndFits, ShaderLives, ConstantFits, ViewFits, WordFits, SetFits}

-- ---- lists

pub unequal : (a b : ℕ) → (a == b) ≡ false → a ≡ b → ⊥
unequal a b e f = differ (a == b) e (eq-eqb a b f)

pub none_if : {X : Type 0} (Q : Type 0) (test : X → Bool) (xs : List X) → (Q → list_any test xs ≡ false)
    → AllByRecursion (λ x. Q → test x ≡ false) xs
none_if Q test [] f = tt
none_if Q test (x ∷ xs) f = (
  (λ q. left_of (test x) (list_any test xs) (f q)),
  none_if Q test xs (λ q. none_of (test x) (list_any test xs) (f q)),
)

pub all_by : {X : Type 0} (P R : X → Type 0) → ((x : X) → P x → R x) → (xs : List X) → AllByRecursion P xs
    → AllByRecursion R xs
all_by P R f [] h = tt
all_by P R f (x ∷ xs) h = (f x h.0, all_by P R f xs h.1)

pub all_both : {X : Type 0} (P Q R : X → Type 0) → ((x : X) → P x → Q x → R x) → (xs : List X) → AllByRecursion P xs
    → AllByRecursion Q xs → AllByRecursion R xs
all_both P Q R f [] h g = tt
all_both P Q R f (x ∷ xs) h g = (f x h.0 g.0, all_both P Q R f xs h.1 g.1)

pub all_of : {X : Type 0} (P : X → Type 0) → ((x : X) → P x) → (xs : List X) → AllByRecursion P xs
all_of P f [] = tt
all_of P f (x ∷ xs) = (f x, all_of P f xs)

pub all_append : {X : Type 0} (P : X → Type 0) (xs ys : List X) → AllByRecursion P xs → AllByRecursion P ys
    → AllByRecursion P (xs ++ ys)
all_append P [] ys h g = g
all_append P (x ∷ xs) ys h g = (h.0, all_append P xs ys h.1 g)

pub all_set : {X : Type 0} (P : X → Type 0) (xs : List X) (i : ℕ) (v : X) → P v → AllByRecursion P xs
    → AllByRecursion P (slice_set xs i v)
all_set P [] i v p h = tt
all_set P (x ∷ xs) zero v p h = (p, h.1)
all_set P (x ∷ xs) (suc i) v p h = (h.0, all_set P xs i v p h.1)

pub all_at : {X : Type 0} (P : X → Type 0) (xs : List X) (i : ℕ) (d : X) → P d → AllByRecursion P xs
    → P (slice_index_or xs i d)
all_at P [] i d p h = p
all_at P (x ∷ xs) zero d p h = h.0
all_at P (x ∷ xs) (suc i) d p h = all_at P xs i d p h.1

pub all_replicate : {X : Type 0} (P : X → Type 0) (n : ℕ) (v : X) → P v → AllByRecursion P (replicate n v)
all_replicate P zero v p = tt
all_replicate P (suc n) v p = (p, all_replicate P n v p)

-- ---- objects that still live

-- the live buffers, views and shaders live on as they are, but for the one that has this class and id
pub record Stays (o o' : Objects) (class id : ℕ) : Type 0 where
  pub buffers : (q : ℕ) (s : Shape) → (class ≡ 1 → q ≡ id → ⊥) → get o.buffers q ≡ Some s → get o'.buffers q ≡ Some s
  pub views : (q : ℕ) (v : ViewShape) → (class ≡ 2 → q ≡ id → ⊥) → get o.views q ≡ Some v → get o'.views q ≡ Some v
  pub shaders : (q : ℕ) → (class ≡ 3 → q ≡ id → ⊥) → is_live_shader o q ≡ true → is_live_shader o' q ≡ true

-- the bindings hold no such object
pub record Unset (class id : ℕ) (b : Bindings) : Type 0 where
  pub buffers : class ≡ 1 → holds_buffer b id ≡ false
  pub views : class ≡ 2 → holds_view b id ≡ false
  pub shaders : class ≡ 3 → holds_shader b id ≡ false

-- a call, and each call of a list, names no such buffer and no such shader
pub record Unnamed (class id : ℕ) (c : Call) : Type 0 where
  pub buffers : class ≡ 1 → list_any (is_name 1 id) (names c) ≡ false
  pub shaders : class ≡ 3 → list_any (is_name 3 id) (names c) ≡ false

abbrev pub Unlisted : ℕ → ℕ → List Numbered → Type 0
Unlisted class id cs = AllByRecursion (λ c. Unnamed class id c.call) cs

pub unlisted : (class id : ℕ) (cs : List Numbered) → (class ≡ 1 → list_names 1 id cs ≡ false)
    → (class ≡ 3 → list_names 3 id cs ≡ false) → Unlisted class id cs
unlisted class id cs f g =
    all_both (λ c. class ≡ 1 → list_any (is_name 1 id) (names c.call) ≡ false) (λ c. class ≡ 3
    → list_any (is_name 3 id) (names c.call) ≡ false) (λ c. Unnamed class id c.call)
    (λ c a b. record { buffers = a; shaders = b })
    cs (none_if (class ≡ 1) (λ c. list_any (is_name 1 id) (names c.call)) cs f)
    (none_if (class ≡ 3) (λ c. list_any (is_name 3 id) (names c.call)) cs g)

-- ---- what a call on a list gives by itself: its own ranges and objects, whatever is set

abbrev pub RangesFit : Objects → List ResRange → Type 0
RangesFit o rs = AllByRecursion (LivesAndFits o) rs

-- the bytes of a map for writing pass no end of a live buffer, which is dynamic where the mode is not that of staging
-- buffers
pub record MapFits (o : Objects) (res mode offset len : ℕ) : Type 0 where
  pub shape : Shape
  pub lives : buffer_of o res ≡ Some shape
  pub fits : offset + len ≤ shape.size
  pub dynamic : (mode == 2) ≡ false → is_dynamic shape.usage ≡ true

pub record BufferLives (o : Objects) (res : ℕ) : Type 0 where
  pub shape : Shape
  pub lives : buffer_of o res ≡ Some shape

abbrev pub OwnFits : Objects → Call → Type 0
OwnFits o (calls.SetShader id) = ShaderLives o id
OwnFits o (calls.SetConstant slot res) = ConstantFits o (constant_range res)
OwnFits o (calls.SetPredication kind id offset value) = WordFits o (predicate_from kind id offset value)
OwnFits o (calls.DispatchIndirect res offset) = RangesFit o (range_of res offset 12)
OwnFits o (calls.CopyRegion target target_offset source source_offset len) =
    RangesFit o (range_of source source_offset len) × RangesFit o (range_of target target_offset len)
OwnFits o (calls.Copy target source) = BufferLives o source × BufferLives o target
OwnFits o (calls.Update res offset bytes) = RangesFit o (range_of res offset (length bytes))
OwnFits o (calls.MapWrite res mode offset bytes) = MapFits o res mode offset (length bytes)
OwnFits o _ = ⊤

abbrev pub OwnsFit : Objects → List Numbered → Type 0
OwnsFit o cs = AllByRecursion (λ c. OwnFits o c.call) cs

module _ (o o' : Objects) (class id : ℕ) (still : Stays o o' class id) where
  pub range_stays : (r : ResRange) → (class ≡ 1 → r.res ≡ id → ⊥) → LivesAndFits o r → LivesAndFits o' r
  range_stays r apart h = record {
    has_byte = h.has_byte;
    shape = h.shape;
    lives =
        still.buffers r.res h.shape apart h.lives;
    fits = h.fits;
  }

  shader_stays : (q : ℕ) → (class ≡ 3 → (q == id) ≡ false) → ShaderLives o q → ShaderLives o' q
  shader_stays q apart h = elim (q == 0) as (λ b. b || is_live_shader o q ≡ true → b || is_live_shader o' q ≡ true) [
    | true ↦ λ e. refl
    | false ↦ λ e. still.shaders q (λ c. unequal q id (apart c)) e
  ] h

  constant_stays : (slot : Option ResRange) → (class ≡ 1 → is_constant_of id slot ≡ false) → ConstantFits o slot
      → ConstantFits o' slot
  constant_stays None apart h = tt
  constant_stays (Some r) apart h =
      record {
        starts = h.starts;
        ends = h.ends;
        shape = h.shape;
        lives =
            still.buffers r.res h.shape (λ c. unequal r.res id (apart c)) h.lives;
        has_byte = h.has_byte;
        constants =
            h.constants;
      }

  view_stays : (slot : Option BoundView) → (class ≡ 1 → is_view_of id slot ≡ false)
      → (class ≡ 2 → is_view id slot ≡ false) → ViewFits o slot → ViewFits o' slot
  view_stays None apart other h = tt
  view_stays (Some v) apart other h = record {
    lives = still.views v.view v.shape (λ c. unequal v.view id (other c)) h.lives;
    fits = range_stays (view_range v.shape) (λ c. unequal v.shape.res id (apart c)) h.fits;
  }

  word_stays : (p : Predicate) → (class ≡ 1 → reads_word_of id p ≡ false) → WordFits o p → WordFits o' p
  word_stays binding.Never apart h = tt
  word_stays (binding.Query q value) apart h = tt
  word_stays (binding.Word res offset value) apart h = range_stays
      (record { res = res; from = offset; to = offset + 4 }) (λ c. unequal res id (apart c)) h

  views_stay : (slots : List (Option BoundView)) → (class ≡ 1 → list_any (is_view_of id) slots ≡ false)
      → (class ≡ 2 → list_any (is_view id) slots ≡ false)
      → AllByRecursion (ViewFits o) slots → AllByRecursion (ViewFits o') slots
  views_stay slots f g h =
      all_both (λ v. class ≡ 1 → is_view_of id v ≡ false) (λ v. (class ≡ 2 → is_view id v ≡ false)
      × ViewFits o v) (ViewFits o')
      (λ v a p. view_stays v a p.0 p.1)
      slots (none_if (class ≡ 1) (is_view_of id) slots f)
      (all_both (λ v. class ≡ 2 → is_view id v ≡ false) (ViewFits o) (λ v. (class ≡ 2 → is_view id v ≡ false)
      × ViewFits o v) (λ v a p. (a, p)) slots (none_if (class ≡ 2) (is_view id) slots g) h)

  pub set_stays : (b : Bindings) → Unset class id b → SetFits o b → SetFits o' b
  set_stays b u h =
      let constants : Bool = list_any (is_constant_of id) b.constants in
      let srvs : Bool = list_any (is_view_of id) b.srvs in
      let uavs : Bool = list_any (is_view_of id) b.uavs in
      let word : Bool = reads_word_of id b.predicate in
      record {
        shader = shader_stays b.shader u.shaders h.shader;
        constants = all_both (λ slot. class ≡ 1 → is_constant_of id slot ≡ false) (ConstantFits o) (ConstantFits o')
            constant_stays b.constants
            (none_if (class ≡ 1) (is_constant_of id) b.constants
            (λ c. left_of constants srvs (left_of (constants || srvs) uavs
            (left_of (constants || srvs || uavs) word (u.buffers c))))) h.constants;
        srvs = views_stay b.srvs (λ c. none_of constants srvs
            (left_of (constants || srvs) uavs (left_of (constants || srvs || uavs) word (u.buffers c))))
            (λ c. left_of (list_any (is_view id) b.srvs) (list_any (is_view id) b.uavs) (u.views c)) h.srvs;
        uavs = views_stay b.uavs (λ c. none_of (constants || srvs) uavs
            (left_of (constants || srvs || uavs) word (u.buffers c)))
            (λ c. none_of (list_any (is_view id) b.srvs) (list_any (is_view id) b.uavs) (u.views c)) h.uavs;
        predicate = word_stays b.predicate (λ c. none_of (constants || srvs || uavs) word (u.buffers c)) h.predicate;
      }

  ranges_stay : (res from len : ℕ) → (class ≡ 1 → (res == id) ≡ false) → RangesFit o (range_of res from len)
      → RangesFit o' (range_of res from len)
  ranges_stay res from len apart h =
      let r : ResRange = record { res = res; from = from; to = from + len } in
      elim (len == 0) as (λ b. RangesFit o (if b then [] else r ∷ []) → RangesFit o' (if b then [] else r ∷ [])) [
        | true ↦ λ g. tt
        | false ↦ λ g. (range_stays r (λ c. unequal res id (apart c)) g.0, tt)
      ] h

  buffer_stays : (res : ℕ) → (class ≡ 1 → (res == id) ≡ false) → BufferLives o res → BufferLives o' res
  buffer_stays res apart h = record {
    shape = h.shape;
    lives =
        still.buffers res h.shape (λ c. unequal res id (apart c)) h.lives;
  }

  constant_apart : (res : ℕ) → (res == id) ≡ false → is_constant_of id (constant_range res) ≡ false
  constant_apart res e =
      elim (res == 0) as
      (λ b. is_constant_of id (if b then None else Some (record { res = res; from = 0; to = 65536 })) ≡ false)
      [ true ↦ refl | false ↦ e ]

  word_apart : (never query : Bool) (q offset value : ℕ) → list_any (is_name 1 id)
      (if query then name 4 q else name 1 q) ≡ false
      → reads_word_of id (if never then binding.Never else if query then binding.Query q value else binding.Word q
      offset value) ≡ false
  word_apart true query q offset value e = refl
  word_apart false true q offset value e = refl
  word_apart false false q offset value e = left_of (q == id) false e

  pub own_stays : (c : Call) → Unnamed class id c → OwnFits o c → OwnFits o' c
  own_stays (calls.SetShader q) u h = shader_stays q (λ c. left_of (q == id) false (u.shaders c)) h
  own_stays (calls.SetConstant slot res) u h = constant_stays (constant_range res)
      (λ c. constant_apart res (left_of (res == id) false (u.buffers c))) h
  own_stays (calls.SetPredication kind q offset value) u h =
      word_stays (predicate_from kind q offset value) (λ c. word_apart (kind == 0) (kind == 1) q offset value
      (u.buffers c)) h
  own_stays (calls.DispatchIndirect res offset) u h = ranges_stay res offset 12
      (λ c. left_of (res == id) false (u.buffers c)) h
  own_stays (calls.CopyRegion target target_offset source source_offset len) u h = (
    ranges_stay source source_offset len (λ c. left_of (source == id) false
        (none_of (target == id) ((source == id) || false) (u.buffers c))) h.0,
    ranges_stay target target_offset len (λ c. left_of (target == id) ((source == id) || false) (u.buffers c)) h.1,
  )
  own_stays (calls.Copy target source) u h = (
    buffer_stays source
        (λ c. left_of (source == id) false (none_of (target == id) ((source == id) || false) (u.buffers c))) h.0,
    buffer_stays target (λ c. left_of (target == id) ((source == id) || false) (u.buffers c)) h.1,
  )
  own_stays (calls.Update res offset bytes) u h = ranges_stay res offset (length bytes)
      (λ c. left_of (res == id) false (u.buffers c)) h
  own_stays (calls.MapWrite res mode offset bytes) u h = record {
    shape = h.shape;
    lives = still.buffers res h.shape (λ c. unequal res id (left_of (res == id) false (u.buffers c))) h.lives;
    fits = h.fits;
    dynamic = h.dynamic;
  }
  own_stays _ u h = tt

  pub owns_stay : (cs : List Numbered) → Unlisted class id cs → OwnsFit o cs → OwnsFit o' cs
  owns_stay cs u h = all_both (λ c. Unnamed class id c.call) (λ c. OwnFits o c.call) (λ c. OwnFits o' c.call)
      (λ c a p. own_stays c.call a p) cs u h
