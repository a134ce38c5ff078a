-- Parts that have nothing to do are not enabled, and the first that is takes its step.
use Rattle.std.proofs.Common.{◌≡◌, ℕ, true, false, List, [], ◌∷◌, ◌++◌, length, refl, sym, ap, ◌∙◌, inl, inr, Some}
use Rattle.std.proofs.Common.{None, slice_get}
use Rattle.vk_types.specs.Effects.{Meaning}
use Rattle.vk_types.specs.Entries.{Entry}
use Rattle.core_model.specs.Script.{Script, Turn}
use Rattle.core_model.specs.Chunking.{is_due}
use Rattle.core_model.specs.CoreState.{Core, Running}
use Rattle.core_model.specs.Readings.{First_choices, may_hand_over}
use Rattle.core_model.specs.AppActs.{TakesTurn, handed_over}
use Rattle.core_model.specs.OtherParts.{unmade}
use Rattle.core_model.specs.CoreStep.{CoreStep, App, Cs, Submit, Accept, Run, Complete, Finish}
use Rattle.core_model.specs.Runs.{IsEnabled, Cs_acts, Pipe_acts, Submit_acts, Device_accepts, Device_completes}
use Rattle.core_model.specs.Runs.{Device_runs, Finish_acts, FirstEnabled, settling}

none_there : {A : Type 0} (front : List A) (x : A) (back : List A) → [] ≡ front ++ x ∷ back → ⊥
none_there [] x back e = cc e
none_there (y ∷ front) x back e = cc e

module _ (meaning : Meaning) (script : Script) (old new : Core) where
  no_finish : old.completions ≡ [] → IsEnabled meaning script old Finish_acts → ⊥
  no_finish e p = let f = p.1.1.4 in cc (sym e ∙ f)

  no_complete : old.accepted ≡ [] → IsEnabled meaning script old Device_completes → ⊥
  no_complete e p = let f = p.1.1.2 in cc (sym e ∙ f)

  -- a command of the oldest batch was not run
  not_complete : (r : Running) (rs : List Running) (x : Entry) (xs : List Entry) → old.accepted ≡ r ∷ rs
      → r.rest ≡ x ∷ xs → IsEnabled meaning script old Device_completes → ⊥
  not_complete r rs x xs e f p =
      let same : r ∷ rs ≡ p.1.1.0 ∷ p.1.1.1 = sym e ∙ p.1.1.2 in
      let first : r ≡ p.1.1.0 = cc same in
      let none : x ∷ xs ≡ [] = sym f ∙ ap (λ r. r.rest) first ∙ p.1.1.3 in
      cc none

  no_run : (j : ℕ) → old.accepted ≡ [] → IsEnabled meaning script old (Device_runs j) → ⊥
  no_run j e p = none_there p.1.1.0 p.1.1.1 p.1.1.2 (sym e ∙ p.1.1.3)

  no_accept : old.submissions ≡ [] → IsEnabled meaning script old Device_accepts → ⊥
  no_accept e p = let f = p.1.1.2 in cc (sym e ∙ f)

  no_submit : old.batches ≡ [] → IsEnabled meaning script old Submit_acts → ⊥
  no_submit e p = let f = p.1.1.2 in cc (sym e ∙ f)

  no_pipe : unmade old.modules old.requested ≡ [] → IsEnabled meaning script old (Pipe_acts 0) → ⊥
  no_pipe e p = let f : None ≡ Some p.1.1.0 = sym (ap (λ l. slice_get l 0) e) ∙ p.1.1.1 in cc f

  no_cs : old.chunks ≡ [] → IsEnabled meaning script old Cs_acts → ⊥
  no_cs e p = let f = p.1.1.2 in cc (sym e ∙ f)

  pub settle_finish : CoreStep meaning script old Finish new → FirstEnabled meaning script old settling new
  settle_finish s = inl s

  pub settle_complete : old.completions ≡ [] → CoreStep meaning script old Complete new
      → FirstEnabled meaning script old settling new
  settle_complete c s = inr (no_finish c, inl s)

  pub settle_run : old.completions ≡ [] → (r : Running) (rs : List Running) (x : Entry) (xs : List Entry)
      → old.accepted ≡ r ∷ rs → r.rest ≡ x ∷ xs
      → CoreStep meaning script old (Run 0) new → FirstEnabled meaning script old settling new
  settle_run c r rs x xs e f s = inr (no_finish c, inr (not_complete r rs x xs e f, inl s))

  pub settle_accept : old.completions ≡ [] → old.accepted ≡ [] → CoreStep meaning script old Accept new
      → FirstEnabled meaning script old settling new
  settle_accept c a s = inr (no_finish c, inr (no_complete a, inr (no_run 0 a, inl s)))

  pub settle_submit : old.completions ≡ [] → old.accepted ≡ [] → old.submissions ≡ []
      → CoreStep meaning script old Submit new → FirstEnabled meaning script old settling new
  settle_submit c a b s = inr (no_finish c, inr (no_complete a, inr (no_run 0 a, inr (no_accept b, inl s))))

  pub settle_cs : old.completions ≡ [] → old.accepted ≡ [] → old.submissions ≡ [] → old.batches ≡ []
      → unmade old.modules old.requested ≡ []
      → CoreStep meaning script old Cs new → FirstEnabled meaning script old settling new
  settle_cs c a b d m s =
      inr (
        no_finish c,
        inr (no_complete a, inr (no_run 0 a, inr (no_accept b, inr (no_submit d, inr (no_pipe m, inl s))))),
      )

  pub settle_app : old.completions ≡ [] → old.accepted ≡ [] → old.submissions ≡ [] → old.batches ≡ []
      → unmade old.modules old.requested ≡ [] → old.chunks ≡ []
      → CoreStep meaning script old (App (length old.posts)) new → FirstEnabled meaning script old settling new
  settle_app c a b d m q s =
      inr (
        no_finish c,
        inr (
          no_complete a,
          inr (no_run 0 a, inr (no_accept b, inr (no_submit d, inr (no_pipe m, inr (no_cs q, inl s))))),
        ),
      )

  -- App takes a turn, with no post queued
  pub app_takes : (turn : Turn) (turns : List Turn) → old.ended ≡ false → old.posts ≡ []
      → is_due script old.open_chunk.turns old.future ≡ false → old.future ≡ turn ∷ turns
      → TakesTurn First_choices script turn turns old new → CoreStep meaning script old (App 0) new
  app_takes turn turns e p d f t =
      (e, (e, (λ h. sym (ap length p)), old, refl, inl (e, inr (inl (d, turn, turns, f, t)))))

  -- App hands the open chunk over, with no post queued
  pub app_hands : old.ended ≡ false → old.posts ≡ [] → is_due script old.open_chunk.turns old.future ≡ true
      → may_hand_over First_choices old ≡ true → new ≡ handed_over old
      → CoreStep meaning script old (App 0) new
  app_hands e p d room f = (e, (e, (λ h. sym (ap length p)), old, refl, inl (e, inl (d, room, f))))
