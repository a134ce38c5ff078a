-- Behind the turns of the first calls, the script's live buffers are those that the state has, by their makers.
use Rattle.std.proofs.Common.{◌≡◌, ℕ, zero, suc, Bool, true, false, cond, List, [], ◌∷◌, ◌++◌, Option, Some, None}
use Rattle.std.proofs.Common.{refl, sym, ap, ◌∙◌, subst, inl, inr, arith}
use Rattle.std.specs.Prelude.{◌==◌, is_some, if◌then◌else◌}
use Rattle.std.specs.Ordering.{nat_cmp, eq_by_cmp}
use Rattle.std.proofs.lemmas.Bool.{both_ways, cases_eq, eq-eqb, ne_eqb}
use Rattle.std.proofs.lemmas.Bool.Decides.{nat_tests}
use Rattle.dx_types.specs.declared.shape.Shape.{Shape}
use Rattle.vk_types.specs.Effects.{Meaning}
use Rattle.call_log.specs.Call.{Issued}
use Rattle.base_lemmas.specs.IdMap.{get, remove}
use Rattle.d3d_model.specs.Resource.{Buffers}
use Rattle.d3d_model.specs.Past.{Past}
use Rattle.d3d_model.specs.InOrder.{after_calls}
use Rattle.base_lemmas.proofs.Maps.{get-empty, get-remove, get_same, get_other, other_key}
use Rattle.core_model.specs.Script.{Play, Create, Discard, No_overwrite, Stage, Command, Destroy, Create_shader}
use Rattle.core_model.specs.Script.{Mark_query, Set_state, Turn, Refused, Passed, Flushed, Asked, Item, Script}
use Rattle.core_model.specs.Script.{InOrder, at_start, play_in_order, turn_in_order, in_order}
use Rattle.core_model.proofs.Steps.Turning.{in_order-append}
use Rattle.log_script.specs.Makers.{maker}
use Rattle.log_script.specs.Turns.{turns_of}
use Rattle.log_script.specs.LogScript.{shape_made, turns_upto}
use Rattle.log_script.proofs.Owed.BufferSteps.{keeps_live, turn_keeps, KeepLive, id_made, Stays, Creates, Destroys}
use Rattle.log_script.proofs.Owed.BufferSteps.{Step, step_at}
use Rattle.log_script.proofs.Owed.BufferMakers.{AllMade, all_made, none_some, some_of, one_removed, one_maker}

-- ---- turns that leave which buffers live

play_live : (meaning : Meaning) (script : Script) (play : Play) (j : InOrder) → keeps_live play ≡ true
    → (play_in_order meaning script play j).live ≡ j.live
play_live meaning script (Create buffer bytes) j e = absurd cc
play_live meaning script (Discard buffer from bytes) j e = refl
play_live meaning script (No_overwrite buffer from bytes) j e = refl
play_live meaning script (Stage bytes target skip) j e = refl
play_live meaning script (Command w skip) j e = refl
play_live meaning script (Destroy buffer) j e = absurd cc
play_live meaning script Create_shader j e = refl
play_live meaning script (Mark_query query true) j e = refl
play_live meaning script (Mark_query query false) j e = refl
play_live meaning script Set_state j e = refl

turn_live : (meaning : Meaning) (script : Script) (t : Turn) (j : InOrder) → turn_keeps t ≡ true
    → (turn_in_order meaning script t j).live ≡ j.live
turn_live meaning script (Refused call) j e = refl
turn_live meaning script (Passed call) j e = refl
turn_live meaning script (Flushed call) j e = refl
turn_live meaning script (Asked call ask used may_pend) j e = refl
turn_live meaning script (Item call item ends play bound) j e = play_live meaning script play j e

pub turns_live : (meaning : Meaning) (script : Script) (ts : List Turn) (j : InOrder) → KeepLive ts
    → (in_order meaning script ts j).live ≡ j.live
turns_live meaning script [] j h = refl
turns_live meaning script (t ∷ ts) j h = turns_live meaning script ts (turn_in_order meaning script t j) h.1
    ∙ turn_live meaning script t j h.0

-- ---- call by call

-- a live buffer of the state
pub record LivesAs (b : Buffers) (past : Past) (name : ℕ) : Type 0 where
  pub id : ℕ
  pub lives : is_some (get b id) ≡ true
  pub made : maker past id ≡ name

-- the buffers that are live in order are those of the state
pub record AreLive (b : Buffers) (past : Past) (live : ℕ → Bool) : Type 0 where
  pub found : (name : ℕ) → live name ≡ true → LivesAs b past name
  pub shown : (name id : ℕ) → is_some (get b id) ≡ true → maker past id ≡ name → live name ≡ true

differs : {X : Type 0} (o : Option X) → o ≡ None → is_some o ≡ true → ⊥
differs None e f = cc
differs (Some x) e f = cc

after_stay : (b : Buffers) (past : Past) (b' : Buffers) (past' : Past) (ts : List Turn) (live live' : ℕ → Bool)
    → Stays b past b' past' ts → live' ≡ live → AreLive b past live → AreLive b' past' live'
after_stay b past b' past' ts live live' h same r = record {
  found = λ name e.
      let f = r.found name (sym (ap (λ (g : ℕ → Bool). g name) same) ∙ e) in
      record {
        id = f.id;
        lives = ap (λ (m : Buffers). is_some (get m f.id)) h.buffers
            ∙ f.lives;
        made = h.makers f.id ∙ f.made;
      };
  shown = λ name id e m.
      ap (λ (g : ℕ → Bool). g name) same ∙ r.shown name id (sym (ap (λ (k : Buffers). is_some (get k id)) h.buffers)
      ∙ e) (sym (h.makers id) ∙ m);
}

after_creation : (n : ℕ) (made : Option Shape) (own : ℕ) (b : Buffers) (past : Past) (b' : Buffers) (past' : Past)
    (ts : List Turn) (live live' : ℕ → Bool)
    → Creates n made own b past b' past' ts → ((name : ℕ) → live' name ≡ cond (name == n) true (live name))
    → AreLive b past live → AreLive b' past' live'
after_creation n made own b past b' past' ts live live' h now r = record {
  found = λ name e. elim (cases_eq name n) [
    | inl p ↦ record {
      id = h.id;
      lives = ap (λ (m : Buffers). is_some (get m h.id)) h.buffers
          ∙ ap is_some (get_same b h.id h.shape);
      made = new_maker h.id refl ∙ sym p;
    }
    | inr apart ↦
        let f = r.found name (sym (now name ∙ ap (λ (t : Bool). cond t true (live name)) (ne_eqb name n apart)) ∙ e) in
        let other : f.id ≡ h.id → ⊥ = λ q. differs (get b h.id) h.free (ap (λ (k : ℕ). is_some (get b k)) (sym q)
        ∙ f.lives) in
        record { id = f.id; lives = old_lives f.id other ∙ f.lives; made = old_maker f.id other ∙ f.made }
  ];
  shown = λ name id e m. elim (cases_eq name n) [
    | inl p ↦ now name ∙ ap (λ (t : Bool). cond t true (live name)) (eq-eqb name n p)
    | inr apart ↦
        let other : id ≡ h.id → ⊥ = λ q. apart (sym m ∙ new_maker id q) in
        now name ∙ ap (λ (t : Bool). cond t true (live name)) (ne_eqb name n apart)
        ∙ r.shown name id (sym (old_lives id other) ∙ e) (sym (old_maker id other) ∙ m)
  ];
}
  where
    new_maker : (id : ℕ) → id ≡ h.id → maker past' id ≡ n
    new_maker id q = h.makers id ∙ ap (λ (t : Bool). if t then n else maker past id) (eq-eqb h.id id (sym q))

    old_maker : (id : ℕ) → (id ≡ h.id → ⊥) → maker past' id ≡ maker past id
    old_maker id other = h.makers id ∙ ap (λ (t : Bool). if t then n else maker past id)
        (ne_eqb h.id id (λ q. other (sym q)))

    old_lives : (id : ℕ) → (id ≡ h.id → ⊥) → is_some (get b' id) ≡ is_some (get b id)
    old_lives id other = ap (λ (m : Buffers). is_some (get m id)) h.buffers
        ∙ ap is_some (get_other b h.id h.shape id other)

after_destroy : (log : List Issued) (n k : ℕ) (b : Buffers) (past : Past) (b' : Buffers) (past' : Past)
    (ts : List Turn) (live live' : ℕ → Bool) (h : Destroys n b past b' past' ts)
    → AllMade log k b past → ((name : ℕ) → live' name ≡ cond (name == maker past h.id) false (live name))
    → AreLive b past live → AreLive b' past' live'
after_destroy log n k b past b' past' ts live live' h all now r = record {
  found = λ name e. elim (cases_eq name (maker past h.id)) [
    | inl p ↦ absurd
        (both_ways (live' name) (now name ∙ ap (λ (t : Bool). cond t false (live name))
        (eq-eqb name (maker past h.id) p)) e)
    | inr apart ↦
        let f = r.found name
        (sym (now name ∙ ap (λ (t : Bool). cond t false (live name)) (ne_eqb name (maker past h.id) apart))
        ∙ e) in
        let other : f.id ≡ h.id → ⊥ = λ q. apart (sym f.made ∙ ap (λ (q : ℕ). maker past q) q) in
        let kept : is_some (get b' f.id) ≡ is_some (get b f.id) =
        ap (λ (m : Buffers). is_some (get m f.id)) h.buffers
        ∙ ap is_some (get-remove b h.id f.id ∙ ap (λ (t : Bool). cond t None (get b f.id))
        (other_key f.id h.id other)) in
        record { id = f.id; lives = kept ∙ f.lives; made = h.makers f.id ∙ f.made }
  ];
  shown = λ name id e m.
      let x = some_of (get (remove b h.id) id) (sym (ap (λ (k : Buffers). is_some (get k id)) h.buffers) ∙ e) in
      let was : get b id ≡ Some x.0 = one_removed b h.id id x.0 x.1 in
      let gone : id ≡ h.id → ⊥ = λ q.
      none_some (get (remove b h.id) id) x.0 (get-remove b h.id id
      ∙ ap (λ (t : Bool). cond t None (get b id)) (ap (λ (q : ℕ). eq_by_cmp nat_cmp id q) (sym q)
      ∙ same_key id)) x.1 in
      let before : maker past id ≡ name = sym (h.makers id) ∙ m in
      let apart : name ≡ maker past h.id
      → ⊥ = λ q. gone (one_maker log k b past all id h.id (ap is_some was) h.lives (before ∙ q)) in
      now name ∙ ap (λ (t : Bool). cond t false (live name)) (ne_eqb name (maker past h.id) apart)
      ∙ r.shown name id (ap is_some was) before;
}
  where
    same_key : (q : ℕ) → eq_by_cmp nat_cmp q q ≡ true
    same_key q = grind (arith, nat_tests)

after_step : (meaning : Meaning) (script : Script) (log : List Issued) (n : ℕ) (b : Buffers) (past : Past)
    (b' : Buffers) (past' : Past) (ts : List Turn) (j : InOrder)
    → Step (suc n) (shape_made log (suc n)) (id_made log (suc n)) b past b' past' ts → AllMade log n b past
    → AreLive b past j.live → AreLive b' past' (in_order meaning script ts j).live
after_step meaning script log n b past b' past' ts j (inl h) all r =
    after_stay b past b' past' ts j.live (in_order meaning script ts j).live h
    (turns_live meaning script ts j h.keeps) r
after_step meaning script log n b past b' past' ts j (inr (inl h)) all r =
    after_creation (suc n) (shape_made log (suc n)) (id_made log (suc n)) b past b' past' ts j.live
    (in_order meaning script ts j).live h
    (λ name. ap (λ (l : List Turn). (in_order meaning script l j).live name) h.turns) r
after_step meaning script log n b past b' past' ts j (inr (inr h)) all r =
    after_destroy log (suc n) n b past b' past' ts j.live (in_order meaning script ts j).live h all
    (λ name. ap (λ (l : List Turn). (in_order meaning script l j).live name) h.turns) r

-- ---- all calls

pub no_turns : (log : List Issued) → turns_upto log zero ≡ []
unfolding turns_upto
no_turns log = refl

pub next_turns : (log : List Issued) (n : ℕ) → turns_upto log (suc n) ≡ turns_upto log n ++ turns_of log (suc n)
unfolding turns_upto
next_turns log n = refl

none_live : (log : List Issued) → AreLive (after_calls log zero).objects.buffers (after_calls log zero).past
    (λ r. false)
unfolding after_calls
none_live log = record {
  found = λ name e. absurd cc;
  shown = λ name id e m. absurd (differs _ (get-empty Shape id) e);
}

pub are_live : (meaning : Meaning) (script : Script) (log : List Issued) (n : ℕ)
    → AreLive (after_calls log n).objects.buffers (after_calls log n).past
    (in_order meaning script (turns_upto log n) at_start).live
are_live meaning script log zero =
    subst (λ (l : List Turn). AreLive (after_calls log zero).objects.buffers (after_calls log zero).past
    (in_order meaning script l at_start).live) (sym (no_turns log)) (none_live log)
are_live meaning script log (suc n) =
    let before : InOrder = in_order meaning script (turns_upto log n) at_start in
    let joined : in_order meaning script (turns_upto log (suc n)) at_start
    ≡ in_order meaning script (turns_of log (suc n)) before =
    ap (λ (l : List Turn). in_order meaning script l at_start) (next_turns log n)
    ∙ in_order-append meaning script (turns_upto log n) (turns_of log (suc n)) at_start in
    subst (λ (j : InOrder). AreLive (after_calls log (suc n)).objects.buffers (after_calls log (suc n)).past j.live)
    (sym joined)
    (after_step meaning script log n (after_calls log n).objects.buffers (after_calls log n).past
    (after_calls log (suc n)).objects.buffers (after_calls log (suc n)).past
    (turns_of log (suc n)) before (step_at log n) (all_made log n) (are_live meaning script log n))
