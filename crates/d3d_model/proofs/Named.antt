-- What an accepted call names is live.
use Rattle.std.proofs.Common.{◌≡◌, ℕ, zero, suc, Bool, true, false, not, ◌&&◌, ◌||◌, refl, subst, arith, inl, inr, ◌⊎◌}
use Rattle.std.specs.Prelude.{◌==◌, nat_lt, if◌then◌else◌}
use Rattle.std.specs.List.{list_any}
use Rattle.std.proofs.lemmas.Bool.{eqb-true, eq-eqb, ltb-false}
use Rattle.call_log.specs.Call as calls
use Rattle.call_log.specs.Call.{Call}
use Rattle.d3d_model.specs.Check.{is_named}
use Rattle.d3d_model.specs.D3dState.{Objects}
use Rattle.d3d_model.specs.Past.{Past}
use Rattle.d3d_model.specs.Stream.{names, is_name}
use Rattle.d3d_model.specs.Verdict.{is_live_buffer, is_live_view, is_live_shader, is_live_query, call_checks}
use Rattle.d3d_model.proofs.Checked.{Passed}

-- the object of a class is live, or it is no object: id 0, or another class
abbrev pub is_live : Objects → ℕ → ℕ → Bool
is_live o class id =
    (id == 0) || (if class == 1 then is_live_buffer o id else if class == 2 then is_live_view o id else if class == 3 then is_live_shader o id else if class == 4 then is_live_query o id else true)

-- each object that the call names is live
abbrev pub NamesLive : Objects → Call → Type 0
NamesLive o c = (class id : ℕ) → list_any (is_name class id) (names c) ≡ true → is_live o class id ≡ true

pub or_right : (a b : Bool) → b ≡ true → a || b ≡ true
or_right true b e = refl
or_right false b e = e

or_left : (a b : Bool) → a ≡ true → a || b ≡ true
or_left true b e = refl
or_left false b e = absurd cc

pub one_of : (a b : Bool) → a || b ≡ true → (a ≡ true) ⊎ (b ≡ true)
one_of true b e = inl refl
one_of false b e = inr e

both_of : (a b : Bool) → a && b ≡ true → (a ≡ true) × (b ≡ true)
both_of true b e = (refl, e)
both_of false b e = absurd cc

pub none_of : (a b : Bool) → a || b ≡ false → b ≡ false
none_of true b e = absurd cc
none_of false b e = e

not_false : (b : Bool) → not b ≡ false → b ≡ true
not_false true e = refl
not_false false e = absurd cc

other_false : (a b : Bool) → a ≡ true → a && b ≡ false → b ≡ false
other_false true b e f = f
other_false false b e f = absurd cc

first_of_three : (a b c : Bool) → a && b && c ≡ true → a ≡ true
first_of_three true b c e = refl
first_of_three false b c e = absurd cc

-- an id that is 0 or live
zero_or_live : (id : ℕ) (live : Bool) → is_named id && not live ≡ false → (id == 0) || live ≡ true
zero_or_live id live = elim (nat_lt 0 id) as (λ b. nat_lt 0 id ≡ b → b && not live ≡ false → (id == 0) || live ≡ true) [
  | true ↦ λ e h. or_right (id == 0) live (not_false live h)
  | false ↦ λ e h. or_left (id == 0) live (eq-eqb id 0 (omega (arith, ltb-false 0 id e)))
] refl

surely_live : (id : ℕ) (live : Bool) → not live ≡ false → (id == 0) || live ≡ true
surely_live id live h = or_right (id == 0) live (not_false live h)

this_one : (o : Objects) (k j class id : ℕ) → is_live o k j ≡ true → (k == class) && (j == id) ≡ true → is_live o class id ≡ true
this_one o k j class id live e =
    let h = both_of (k == class) (j == id) e in
    subst (λ (c : ℕ). is_live o c id ≡ true) (eqb-true k class h.0) (subst (λ (i : ℕ). is_live o k i ≡ true) (eqb-true j id h.1) live)

one_name : (o : Objects) (k j : ℕ) → is_live o k j ≡ true → (class id : ℕ) → ((k == class) && (j == id)) || false ≡ true → is_live o class id ≡ true
one_name o k j live class id e = elim (one_of ((k == class) && (j == id)) false e) [
  | inl h ↦ this_one o k j class id live h
  | inr h ↦ absurd cc
]

two_names : (o : Objects) (k i j : ℕ) → is_live o k i ≡ true → is_live o k j ≡ true → (class id : ℕ)
    → ((k == class) && (i == id)) || (((k == class) && (j == id)) || false) ≡ true → is_live o class id ≡ true
two_names o k i j live live' class id e = elim (one_of ((k == class) && (i == id)) _ e) [
  | inl h ↦ this_one o k i class id live h
  | inr h ↦ one_name o k j live' class id h
]

nothing_named : (o : Objects) (class id : ℕ) → false ≡ true → is_live o class id ≡ true
nothing_named o class id e = absurd cc

pub names_live : (o : Objects) (past : Past) (x : ℕ) (c : Call) → Passed (call_checks o past x c) → NamesLive o c
names_live o past x (calls.SetShader id) h = one_name o 3 id (zero_or_live id _ h.0)
names_live o past x (calls.SetConstant slot res) h = one_name o 1 res (zero_or_live res _ h.1.0)
names_live o past x (calls.SetSrv slot view) h = one_name o 2 view (zero_or_live view _ h.1.0)
names_live o past x (calls.SetUav slot view) h = one_name o 2 view (zero_or_live view _ h.1.0)
names_live o past x (calls.DispatchIndirect res offset) h = one_name o 1 res (surely_live res _ h.0)
names_live o past x (calls.CopyRegion target target_offset source source_offset len) h = two_names o 1 target source (surely_live target _ h.0) (surely_live source _ h.1.0)
names_live o past x (calls.Copy target source) h = two_names o 1 target source (surely_live target _ h.0) (surely_live source _ h.1.0)
names_live o past x (calls.Update res offset bytes) h = one_name o 1 res (surely_live res _ h.0)
names_live o past x (calls.ClearUav view v0 v1 v2 v3) h = one_name o 2 view (surely_live view _ h.0)
names_live o past x (calls.SetPredication zero id offset value) h =
    let all_zero = (id == 0) && (offset == 0) && (value == 0) in
    let none : ((zero == 0) && not all_zero) ≡ false = none_of (nat_lt 1 value) ((zero == 0) && not all_zero) h.1.0 in
    one_name o 1 id (or_left (id == 0) (is_live_buffer o id) (first_of_three (id == 0) (offset == 0) (value == 0) (not_false all_zero (other_false (zero == 0) (not all_zero) (eq-eqb 0 0 refl) none))))
names_live o past x (calls.SetPredication (suc zero) id offset value) h = one_name o 4 id (surely_live id _ h.1.1.0)
names_live o past x (calls.SetPredication (suc (suc zero)) id offset value) h = one_name o 1 id (surely_live id _ h.1.1.0)
names_live o past x (calls.SetPredication (suc (suc (suc k))) id offset value) h = absurd (omega (arith, ltb-false 2 (suc (suc (suc k))) h.0))
names_live o past x (calls.Begin query) h = one_name o 4 query (surely_live query _ h.0)
names_live o past x (calls.EndQuery query) h = one_name o 4 query (surely_live query _ h.0)
names_live o past x (calls.MapWrite res mode offset bytes) h = one_name o 1 res (surely_live res _ h.0)
names_live o past x _ h = nothing_named o
