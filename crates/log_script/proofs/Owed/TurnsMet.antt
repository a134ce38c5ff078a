-- Each turn of a script is one of a call, and behind the turns before it the buffers live that the state has which
-- the call meets.
use Rattle.std.proofs.Common.{◌≡◌, ℕ, zero, suc, ◌≤◌, List, [], ◌∷◌, ◌++◌, Option, refl, sym, ap, ◌∙◌, subst, inl}
use Rattle.std.proofs.Common.{inr, arith, append-nil}
use Rattle.dx_types.specs.declared.shape.Shape.{Shape}
use Rattle.vk_types.specs.Effects.{Meaning}
use Rattle.call_log.specs.Call.{Issued}
use Rattle.d3d_model.specs.Resource.{Buffers}
use Rattle.d3d_model.specs.Past.{Past}
use Rattle.d3d_model.specs.InOrder.{after_calls}
use Rattle.core_model.specs.Script.{Turn, Script, InOrder, at_start, in_order}
use Rattle.core_model.proofs.Steps.Turning.{in_order-append}
use Rattle.log_script.specs.Turns.{turns_of}
use Rattle.log_script.specs.LogScript.{shape_made, turns_upto}
use Rattle.log_script.proofs.Owed.BufferSteps.{KeepLive, id_made, Step, step_at}
use Rattle.log_script.proofs.Owed.LiveBuffers.{turns_live, AreLive, are_live, no_turns, next_turns}
use Rattle.log_script.proofs.Owed.Fronts.{same_head, same_tail, front_of_two}
use Rattle.log_script.proofs.Owed.FewDynamic.{kept_front}

-- a turn of the first `upto` calls: it stands in those of call `calls` + 1, behind `part`
pub record TurnOf (log : List Issued) (upto : ℕ) (front : List Turn) (t : Turn) : Type 0 where
  pub calls : ℕ
  pub part : List Turn
  pub rest : List Turn
  pub within : suc calls ≤ upto
  pub front_is : front ≡ turns_upto log calls ++ part
  pub next_is : turns_of log (suc calls) ≡ part ++ t ∷ rest

pub no_turn : (front : List Turn) (t : Turn) (back : List Turn) → [] ≡ front ++ t ∷ back → ⊥
no_turn [] t back e = cc
no_turn (u ∷ front) t back e = cc

pub turn_of_turns : (log : List Issued) (upto : ℕ) (front : List Turn) (t : Turn) (back : List Turn)
    → turns_upto log upto ≡ front ++ t ∷ back → TurnOf log upto front t
turn_of_turns log zero front t back e = absurd (no_turn front t back (sym (no_turns log) ∙ e))
turn_of_turns log (suc upto) front t back e =
    elim (front_of_two (turns_upto log upto) (turns_of log (suc upto)) front (t ∷ back) (sym (next_turns log upto)
    ∙ e)) [
      | inl s ↦ earlier s.0 s.1 s.2 (λ more is. turn_of_turns log upto front t more is)
      | inr s ↦ record { calls = upto; part = s.0; rest = back; within = omega arith; front_is = s.1; next_is = s.2 }
    ]
  where
    earlier : (mid : List Turn) → turns_upto log upto ≡ front ++ mid → t ∷ back ≡ mid ++ turns_of log (suc upto)
        → ((more : List Turn) → turns_upto log upto ≡ front ++ t ∷ more → TurnOf log upto front t)
        → TurnOf log (suc upto) front t
    earlier [] is last before = record {
      calls = upto;
      part = [];
      rest = back;
      within = omega arith;
      front_is = sym (append-nil front) ∙ sym is ∙ sym (append-nil (turns_upto log upto));
      next_is = sym last;
    }
    earlier (m ∷ mid) is last before =
        let first : t ≡ m = same_head t m back (mid ++ turns_of log (suc upto)) last in
        let f = before mid (is ∙ ap (λ (u : Turn). front ++ u ∷ mid) (sym first)) in
        record {
          calls = f.calls;
          part = f.part;
          rest = f.rest;
          within = omega (arith, f.within);
          front_is =
              f.front_is;
          next_is = f.next_is;
        }

-- a turn of a call that has one stands behind none of it
pub only_turn : (u : Turn) (part : List Turn) (t : Turn) (rest : List Turn) → u ∷ [] ≡ part ++ t ∷ rest → part ≡ []
only_turn u [] t rest e = refl
only_turn u (p ∷ part) t rest e = absurd (no_turn part t rest (same_tail u p [] (part ++ t ∷ rest) e))

module _ (meaning : Meaning) (script : Script) (log : List Issued) (n : ℕ) where
  -- nothing of the call came that makes a buffer live or not
  same_live : (front part : List Turn) (t : Turn) (rest : List Turn) (made : Option Shape) (own : ℕ) (b : Buffers)
      (past : Past) (b' : Buffers) (past' : Past)
      → front ≡ turns_upto log n ++ part → turns_of log (suc n) ≡ part ++ t ∷ rest
      → Step (suc n) made own b past b' past' (turns_of log (suc n))
      → (in_order meaning script front at_start).live ≡ (in_order meaning script (turns_upto log n) at_start).live
  same_live front part t rest made own b past b' past' e next (inl h) =
      ap (λ (l : List Turn). (in_order meaning script l at_start).live) e
      ∙ ap (λ (j : InOrder). j.live) (in_order-append meaning script (turns_upto log n) part at_start)
      ∙ turns_live meaning script part (in_order meaning script (turns_upto log n) at_start)
      (kept_front part (t ∷ rest) (subst KeepLive next h.keeps))
  same_live front part t rest made own b past b' past' e next (inr (inl h)) =
      ap (λ (l : List Turn). (in_order meaning script l at_start).live) (e
      ∙ ap (λ (l : List Turn). turns_upto log n ++ l) (only_turn _ part t rest (sym h.turns ∙ next))
      ∙ append-nil (turns_upto log n))
  same_live front part t rest made own b past b' past' e next (inr (inr h)) =
      ap (λ (l : List Turn). (in_order meaning script l at_start).live) (e
      ∙ ap (λ (l : List Turn). turns_upto log n ++ l) (only_turn _ part t rest (sym h.turns ∙ next))
      ∙ append-nil (turns_upto log n))

-- what lives where a turn of call n + 1 comes is what the state has behind call n
pub live_met : (meaning : Meaning) (script : Script) (log : List Issued) (upto : ℕ) (front : List Turn) (t : Turn)
    (f : TurnOf log upto front t)
    → AreLive (after_calls log f.calls).objects.buffers (after_calls log f.calls).past
    (in_order meaning script front at_start).live
live_met meaning script log upto front t f =
    let n : ℕ = f.calls in
    let same = same_live meaning script log n front f.part t f.rest (shape_made log (suc n)) (id_made log (suc n))
    (after_calls log n).objects.buffers (after_calls log n).past
    (after_calls log (suc n)).objects.buffers (after_calls log (suc n)).past f.front_is f.next_is (step_at log n) in
    subst (AreLive (after_calls log n).objects.buffers (after_calls log n).past) (sym same)
    (are_live meaning script log n)
