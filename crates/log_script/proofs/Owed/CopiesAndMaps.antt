-- Each call that is played fits: a copy's buffers have bytes, and a map's mode is one of three.
use Rattle.std.proofs.Common.{◌≡◌, ℕ, ◌<◌, ◌≤◌, Bool, true, false, ◌&&◌, ◌||◌, List, [], ◌∷◌, Option, Some, None}
use Rattle.std.proofs.Common.{refl, ap, arith, inl, inr}
use Rattle.std.specs.Prelude.{◌==◌, nat_lt, is_some}
use Rattle.std.specs.List.{list_any}
use Rattle.std.proofs.lemmas.Bool.{or_left, or_right, or_cases, and_from, eqb-true, eq-eqb, ltb-false}
use Rattle.call_log.specs.Call as calls
use Rattle.call_log.specs.Call.{Call, Issued}
use Rattle.base_lemmas.specs.IdMap.{get}
use Rattle.d3d_model.specs.Resource.{Buffers, size_of}
use Rattle.d3d_model.specs.D3dState.{Objects, Numbered, calls_if, calls_of_list}
use Rattle.d3d_model.specs.Past.{Past}
use Rattle.d3d_model.specs.Stream.{names, is_name, list_names}
use Rattle.d3d_model.specs.Verdict.{is_live_buffer, call_checks}
use Rattle.d3d_model.specs.InOrder.{after_calls}
use Rattle.d3d_model.proofs.Checked.{Passed}
use Rattle.d3d_model.proofs.Named.{is_live}
use Rattle.d3d_model.proofs.Listed.{ListLive, lists_live, own_checks, left_of}
use Rattle.log_script.proofs.Owed.PlaysBound.{Fit}
use Rattle.log_script.proofs.Owed.MadeBuffers.{AllLive, Made, live_made, one_live, not_false}
use Rattle.log_script.proofs.Owed.RecordedCalls.{All, Accepts, recorded, of_list}

-- what holds of a call whenever it is played
abbrev Named : Call → Type 0
Named (calls.Copy target source) = (0 < target) × (0 < source)
Named (calls.MapWrite res mode offset bytes) = mode ≤ 2
Named _ = Unit {0}

pub has_size : (b : Buffers) (id : ℕ) → AllLive Made b → is_some (get b id) ≡ true → 0 < size_of (get b id)
has_size b id h live = let one = one_live Made b id h live in omega (arith, ap size_of one.1, one.2.bytes)

has_id : (b : Buffers) (id : ℕ) → AllLive Made b → is_some (get b id) ≡ true → 0 < id
has_id b id h live = (one_live Made b id h live).2.named

mode_in : (mode : ℕ) (a b : Bool) → nat_lt 2 mode || a || b ≡ false → mode ≤ 2
mode_in mode a b e = omega (arith, ltb-false 2 mode (left_of (nat_lt 2 mode) a (left_of (nat_lt 2 mode || a) b e)))

named_if : (o : Objects) (past : Past) (x : ℕ) (c : Call) → Passed (call_checks o past x c) → AllLive Made o.buffers
    → Named c
named_if o past x (calls.Copy target source) p h = (
  has_id o.buffers target h (not_false _ p.0),
  has_id o.buffers source h (not_false _ p.1.0),
)
named_if o past x (calls.MapWrite res mode offset bytes) p h = mode_in mode _ _ p.1.0
named_if o past x _ p h = tt

-- a call that is accepted
pub fit_if : (o : Objects) (past : Past) (x : ℕ) (c : Call) → Passed (call_checks o past x c)
    → AllLive Made o.buffers → Fit o.buffers c
fit_if o past x (calls.Copy target source) p h = (
  has_size o.buffers target h (not_false _ p.0),
  has_size o.buffers source h (not_false _ p.1.0),
)
fit_if o past x (calls.MapWrite res mode offset bytes) p h = mode_in mode _ _ p.1.0
fit_if o past x _ p h = tt

-- ---- the calls of a list

surely : (id : ℕ) (live : Bool) → 0 < id → (id == 0) || live ≡ true → live ≡ true
surely id live some e = elim (or_cases (id == 0) live e) [
  | inl z ↦ absurd (omega (arith, some, eqb-true id 0 z))
  | inr f ↦ f
]

pub first_named : (k id : ℕ) (rest : Bool) → ((k == k) && (id == id)) || rest ≡ true
first_named k id rest = or_left _ rest (and_from (k == k) (id == id) (eq-eqb k k refl) (eq-eqb id id refl))

fit_named : (o : Objects) (c : Call) → Named c → ((class id : ℕ) → list_any (is_name class id) (names c) ≡ true
    → is_live o class id ≡ true) → AllLive Made o.buffers → Fit o.buffers c
fit_named o (calls.Copy target source) named live h = (
  has_size o.buffers target h (surely target (is_live_buffer o target) named.0
      (live 1 target (first_named 1 target _))),
  has_size o.buffers source h (surely source (is_live_buffer o source) named.1
      (live 1 source (or_right _ _ (first_named 1 source false)))),
)
fit_named o (calls.MapWrite res mode offset bytes) named live h = named
fit_named o _ named live h = tt

list_fits : (o : Objects) (cs : List Numbered) → All Named cs → ListLive o cs → AllLive Made o.buffers
    → All (Fit o.buffers) cs
list_fits o [] named live h = tt
list_fits o (c ∷ cs) named live h = (
  fit_named o c.call named.0
      (λ class id e. live class id (or_left (list_any (is_name class id) (names c.call)) (list_names class id cs)
      e)) h,
  list_fits o cs named.1
      (λ class id e. live class id (or_right (list_any (is_name class id) (names c.call)) (list_names class id cs)
      e)) h,
)

accepts_named : (log : List Issued) → Accepts Named log
accepts_named log n i there e =
    let s = after_calls log n in
    named_if s.objects s.past i.context i.call (own_checks s.objects s.past i.context i.call e) (live_made log n)

pub list_live : (o : Objects) (list : ℕ) → ((l : ℕ) (cs : List Numbered) → get o.lists l ≡ Some cs → ListLive o cs)
    → ListLive o (calls_of_list o list)
list_live o list h = by_value (get o.lists list) refl
  where
    by_value : (v : Option (List Numbered)) → get o.lists list ≡ v → ListLive o (calls_if v)
    by_value None e = λ class id f. absurd cc
    by_value (Some cs) e = h list cs e

-- after each call, those of a live list fit
pub listed_fit : (log : List Issued) (n list : ℕ) → All (Fit (after_calls log n).objects.buffers)
    (calls_of_list (after_calls log n).objects list)
listed_fit log n list =
    let o = (after_calls log n).objects in
    list_fits o (calls_of_list o list) (of_list Named o list (recorded Named log (accepts_named log) n))
    (list_live o list (lists_live log n).listed) (live_made log n)
