-- At most 32 dynamic buffers of a class live, wherever the script is cut.
use Rattle.std.proofs.Common.{◌≡◌, ℕ, suc, ◌≤◌, Bool, true, false, cond, ◌&&◌, List, [], ◌∷◌, ◌++◌, length, sum_by}
use Rattle.std.proofs.Common.{Option, Some, None, sym, ap, ◌∙◌, subst, inl, inr, arith, append-nil}
use Rattle.std.specs.Prelude.{◌==◌, unwrap_or, if◌then◌else◌}
use Rattle.std.specs.List.{AllByRecursion}
use Rattle.std.proofs.lemmas.Bool.{eq-eqb}
use Rattle.dx_types.specs.declared.shape.Shape.{Shape}
use Rattle.base_lemmas.specs.Lists.{Pairwise}
use Rattle.vk_types.specs.Effects.{Meaning}
use Rattle.call_log.specs.Call.{Issued}
use Rattle.base_lemmas.specs.IdMap.{IdMap, get, remove, values}
use Rattle.d3d_model.specs.Resource.{Buffers, is_dynamic, class_of, counts_as, live_dynamic}
use Rattle.d3d_model.specs.Past.{Past}
use Rattle.d3d_model.specs.InOrder.{after_calls}
use Rattle.base_lemmas.proofs.Maps.{get-remove, other_key, total-remove-exactly}
use Rattle.d3d_model.proofs.Limits.{in_limits}
use Rattle.core_model.specs.Script.{Turn, Script, InOrder, at_start, in_order}
use Rattle.core_model.specs.Lawful.{FewLive}
use Rattle.core_model.proofs.Steps.Turning.{in_order-append}
use Rattle.log_script.specs.Makers.{maker}
use Rattle.log_script.specs.Turns.{turns_of}
use Rattle.log_script.specs.LogScript.{shape_made, class_if, script_of, turns_upto}
use Rattle.log_script.proofs.Owed.BufferSteps.{KeepLive, id_made, Step, step_at}
use Rattle.log_script.proofs.Owed.BufferMakers.{AllMade, all_made, some_of}
use Rattle.log_script.proofs.Owed.LiveBuffers.{turns_live, AreLive, are_live, next_turns}
use Rattle.log_script.proofs.Owed.Fronts.{front_of_one, front_of_turns}

-- ---- names of different entries are no more than the entries

-- an entry that counts, and has the name
pub record Named {X : Type 0} (f : X → ℕ) (key : ℕ → ℕ) (m : IdMap X) (name : ℕ) : Type 0 where
  pub id : ℕ
  pub value : X
  pub found : get m id ≡ Some value
  pub counts : 1 ≤ f value
  pub named : key id ≡ name

without : {X : Type 0} (f : X → ℕ) (key : ℕ → ℕ) (m : IdMap X) (id name : ℕ) → key id ≡ name → (names : List ℕ)
    → AllByRecursion (λ s. name ≡ s → ⊥) names → AllByRecursion (Named f key m) names
    → AllByRecursion (Named f key (remove m id)) names
without f key m id name e [] apart h = tt
without f key m id name e (s ∷ names) apart h =
    let other : h.0.id ≡ id → ⊥ = λ q. apart.0 (sym e ∙ ap key (sym q) ∙ h.0.named) in (
      record {
        id = h.0.id;
        value = h.0.value;
        found = get-remove m id h.0.id ∙ ap (λ (t : Bool). cond t None (get m h.0.id)) (other_key h.0.id id other)
            ∙ h.0.found;
        counts = h.0.counts;
        named = h.0.named;
      },
      without f key m id name e names apart.1 h.1,
    )

pub few_names : {X : Type 0} (f : X → ℕ) (key : ℕ → ℕ) (names : List ℕ) (m : IdMap X)
    → Pairwise (λ r s. r ≡ s → ⊥) names → AllByRecursion (Named f key m) names
    → length names ≤ sum_by f (values m)
few_names f key [] m apart h = omega arith
few_names f key (s ∷ names) m apart h =
    omega (
      arith,
      few_names f key names (remove m h.0.id) apart.1 (without f key m h.0.id s h.0.named names apart.0 h.1),
      total-remove-exactly f m h.0.id h.0.value h.0.found,
      h.0.counts,
    )

-- ---- behind all turns of some calls

of_class : (dynamic : Bool) (own class : ℕ) → (if dynamic then Some own else None) ≡ Some class
    → 1 ≤ (if dynamic && (own == class) then 1 else 0)
of_class true own class e = subst (λ (b : Bool). 1 ≤ (if b then 1 else 0))
    (sym (eq-eqb own class (ap (λ o. unwrap_or o own) e))) (omega arith)
of_class false own class e = absurd cc

few_live : (log : List Issued) (n : ℕ) (b : Buffers) (past : Past) (live : ℕ → Bool) → AllMade log n b past
    → ((class : ℕ) → live_dynamic b class ≤ 32) → AreLive b past live
    → FewLive (script_of log) live
unfolding live_dynamic
few_live log n b past live made few r class names apart all =
    omega (arith, few_names (counts_as class) (λ id. maker past id) names b apart (each names all), few class)
  where
    one : (name : ℕ) → live name ≡ true → class_if (shape_made log name) ≡ Some class
        → Named (counts_as class) (λ id. maker past id) b name
    one name lives e =
        let f = r.found name lives in
        let x = some_of (get b f.id) f.lives in
        let is : shape_made log name ≡ Some x.0 = ap (λ (k : ℕ). shape_made log k) (sym f.made)
        ∙ (made f.id x.0 x.1).shape in
        record {
          id = f.id;
          value = x.0;
          found = x.1;
          counts =
              of_class (is_dynamic x.0.usage) (class_of x.0.size) class (sym (ap class_if is) ∙ e);
          named = f.made;
        }

    each : (names : List ℕ) → AllByRecursion (λ s. (live s ≡ true)
        × (class_if (shape_made log s) ≡ Some class)) names → AllByRecursion
        (Named (counts_as class) (λ id. maker past id) b) names
    each [] h = tt
    each (s ∷ names) h = (one s h.0.0 h.0.1, each names h.1)

-- ---- amid the turns of a call

pub kept_front : (part rest : List Turn) → KeepLive (part ++ rest) → KeepLive part
kept_front [] rest h = tt
kept_front (t ∷ part) rest h = (h.0, kept_front part rest h.1)

-- what lives amid a call lived before it, or lives after it
pub record LiveAt (meaning : Meaning) (script : Script) (log : List Issued) (front : List Turn) : Type 0 where
  pub calls : ℕ
  pub live_is : (in_order meaning script front at_start).live
      ≡ (in_order meaning script (turns_upto log calls) at_start).live

module _ (meaning : Meaning) (script : Script) (log : List Issued) (n : ℕ) where
  before : (front part : List Turn) → front ≡ turns_upto log n ++ part → part ≡ [] → LiveAt meaning script log front
  before front part e none = record {
    calls = n;
    live_is = ap (λ (l : List Turn). (in_order meaning script l at_start).live) (e
        ∙ ap (λ (l : List Turn). turns_upto log n ++ l) none ∙ append-nil (turns_upto log n));
  }

  after : (front part : List Turn) → front ≡ turns_upto log n ++ part → part ≡ turns_of log (suc n)
      → LiveAt meaning script log front
  after front part e whole = record {
    calls = suc n;
    live_is = ap (λ (l : List Turn). (in_order meaning script l at_start).live) (e
        ∙ ap (λ (l : List Turn). turns_upto log n ++ l) whole ∙ sym (next_turns log n));
  }

  either : (front part rest : List Turn) (t : Turn) → front ≡ turns_upto log n ++ part
      → turns_of log (suc n) ≡ part ++ rest → turns_of log (suc n) ≡ t ∷ [] → LiveAt meaning script log front
  either front part rest t e next one = elim (front_of_one t part rest (sym one ∙ next)) [
    | inl none ↦ before front part e none
    | inr whole ↦ after front part e (whole ∙ sym one)
  ]

  amid : (front part rest : List Turn) (made : Option Shape) (own : ℕ) (b : Buffers) (past : Past) (b' : Buffers)
      (past' : Past) → front ≡ turns_upto log n ++ part
      → turns_of log (suc n) ≡ part ++ rest → Step (suc n) made own b past b' past' (turns_of log (suc n))
      → LiveAt meaning script log front
  amid front part rest made own b past b' past' e next (inl h) = record {
    calls = n;
    live_is =
        ap (λ (l : List Turn). (in_order meaning script l at_start).live) e
        ∙ ap (λ (j : InOrder). j.live) (in_order-append meaning script (turns_upto log n) part at_start)
        ∙ turns_live meaning script part (in_order meaning script (turns_upto log n) at_start)
        (kept_front part rest (subst KeepLive next h.keeps));
  }
  amid front part rest made own b past b' past' e next (inr (inl h)) = either front part rest _ e next h.turns
  amid front part rest made own b past b' past' e next (inr (inr h)) = either front part rest _ e next h.turns

pub live_at : (meaning : Meaning) (script : Script) (log : List Issued) (upto : ℕ) (front back : List Turn)
    → turns_upto log upto ≡ front ++ back → LiveAt meaning script log front
live_at meaning script log upto front back e =
    let f = front_of_turns log upto front back e in
    amid meaning script log f.calls front f.part f.rest (shape_made log (suc f.calls)) (id_made log (suc f.calls))
    (after_calls log f.calls).objects.buffers (after_calls log f.calls).past
    (after_calls log (suc f.calls)).objects.buffers (after_calls log (suc f.calls)).past f.front_is f.next_is
    (step_at log f.calls)

pub few_at : (meaning : Meaning) (log : List Issued) (front back : List Turn)
    → (script_of log).turns ≡ front ++ back → FewLive (script_of log)
    (in_order meaning (script_of log) front at_start).live
few_at meaning log front back e =
    let a = live_at meaning (script_of log) log (length log) front back e in
    subst (λ (live : ℕ → Bool). FewLive (script_of log) live) (sym a.live_is)
    (few_live log a.calls (after_calls log a.calls).objects.buffers (after_calls log a.calls).past _
    (all_made log a.calls) (λ class. (in_limits log a.calls).dynamic class)
    (are_live meaning (script_of log) log a.calls))
