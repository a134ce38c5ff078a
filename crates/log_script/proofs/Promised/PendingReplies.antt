-- In every state that steps reach, a call that was answered as pending is asked in the script as one that may be.
use Rattle.std.proofs.Common.{◌≡◌, ℕ, zero, suc, Bool, true, false, List, [], ◌∷◌, ◌++◌, Option, Some, None, refl}
use Rattle.std.proofs.Common.{sym, ap, ◌∙◌, subst, inl, inr}
use Rattle.std.specs.Prelude.{⊤}
use Rattle.std.specs.List.{AllByRecursion}
use Rattle.vk_types.specs.Effects.{Meaning}
use Rattle.base_lemmas.proofs.Lists.{all_append}
use Rattle.core_model.specs.Script.{Ask, Bytes, Count, Constant, Turn, Refused, Passed, Flushed, Asked, Item, Script}
use Rattle.core_model.specs.CoreState.{Core, start, done, Said, Bytes_said, Value_said, Still_said, Refused_said}
use Rattle.core_model.specs.CoreState.{End_said}
use Rattle.core_model.specs.Readings.{Reading}
use Rattle.core_model.specs.Adding.{with_turn}
use Rattle.core_model.specs.TakingPosts.{TakesPosts, with_post, with_fence}
use Rattle.core_model.specs.AppActs.{is_finished, used_or_zero, TakesTurn, Acts}
use Rattle.core_model.specs.CoreStep.{Event, App, Cs, Pipe, Submit, Accept, Run, Complete, Finish, Come_home, Step}
use Rattle.core_model.specs.CoreStep.{Chain}
use Rattle.core_model.specs.Lawful.{IsLawful}
use Rattle.core_model.specs.Kept.{Kept}
use Rattle.core_model.proofs.Runs.Chains.{reached}
use Rattle.core_model.proofs.Messages.ItemCases.{result_is}
use Rattle.core_model.proofs.Runs.StepsKeepAll.{posts_kept}

-- a call that is pending is asked with this last use, and may be pending
abbrev pub MayPend : Script → Said → Type 0
MayPend script (Bytes_said call bytes) = ⊤
MayPend script (Value_said call value) = ⊤
MayPend script (Still_said call used finished) =
    (ask : Ask) × (front : List Turn) × (back : List Turn) ×
    (script.turns ≡ front ++ Asked call ask (Some used) true ∷ back)
MayPend script (Refused_said call) = ⊤
MayPend script End_said = ⊤

abbrev pub AllMayPend : Script → Core → Type 0
AllMayPend script core = AllByRecursion (MayPend script) core.replies

module _ (script : Script) where
  same : (old new : Core) → new.replies ≡ old.replies → AllMayPend script old → AllMayPend script new
  same old new e h = subst (AllByRecursion (MayPend script)) (sym e) h

  says : (old new : Core) (said : Said) → new.replies ≡ old.replies ++ said ∷ [] → MayPend script said
      → AllMayPend script old → AllMayPend script new
  says old new said e right h = subst (AllByRecursion (MayPend script)) (sym e)
      (all_append (MayPend script) old.replies (said ∷ []) h (right, tt))

posts_say_nothing : (n : ℕ) (old mid : Core) → TakesPosts n old mid → mid.replies ≡ old.replies
posts_say_nothing zero old mid h = ap (λ (c : Core). c.replies) h
posts_say_nothing (suc n) old mid h = posts_say_nothing n (with_post h.0 h.1 old) mid h.3

fence_says_nothing : (n : ℕ) (core : Core) → (with_fence n core).replies ≡ core.replies
fence_says_nothing zero core = refl
fence_says_nothing (suc n) core = refl

module _ (meaning : Meaning) (reading : Reading) (script : Script) where
  -- the turn that the core takes stands in the script
  here : (old : Core) (t : Turn) (turns : List Turn) → old.future ≡ t ∷ turns → Kept meaning reading script old
      → script.turns ≡ old.past ++ t ∷ turns
  here old t turns e k = sym k.good.sound.position ∙ ap (λ (l : List Turn). old.past ++ l) e

  pending_may : (old : Core) (call : ℕ) (ask : Ask) (used : Option ℕ) (may_pend : Bool) (turns : List Turn)
      → old.future ≡ Asked call ask used may_pend ∷ turns
      → Kept meaning reading script old → is_finished used (done old) ≡ false → may_pend ≡ true
      → MayPend script (Still_said call (used_or_zero used) (done old))
  pending_may old call ask None may_pend turns e k unfinished may = absurd (cc unfinished)
  pending_may old call ask (Some used) may_pend turns e k unfinished may = (
    ask,
    old.past,
    turns,
    here old (Asked call ask (Some used) may_pend) turns e k
        ∙ ap (λ (b : Bool). old.past ++ Asked call ask (Some used) b ∷ turns) may,
  )

  turn_may : (old : Core) (t : Turn) (turns : List Turn) (new : Core) → old.future ≡ t ∷ turns
      → TakesTurn reading script t turns old new → Kept meaning reading script old
      → AllMayPend script old → AllMayPend script new
  turn_may old (Refused call) turns new e n k h = says script old new (Refused_said call)
      (ap (λ (c : Core). c.replies) n) tt h
  turn_may old (Passed call) turns new e n k h = same script old new (ap (λ (c : Core). c.replies) n) h
  turn_may old (Flushed call) turns new e n k h = same script old new (ap (λ (c : Core). c.replies) n) h
  turn_may old (Asked call (Bytes source) None may_pend) turns new e (inl n) k h =
      says script old new _ (ap (λ (c : Core). c.replies) n.1) tt h
  turn_may old (Asked call (Bytes source) (Some used) may_pend) turns new e (inl n) k h =
      says script old new _ (ap (λ (c : Core). c.replies) n.1) tt h
  turn_may old (Asked call (Count query) used may_pend) turns new e (inl n) k h =
      says script old new _ (ap (λ (c : Core). c.replies) n.1) tt h
  turn_may old (Asked call (Constant value) used may_pend) turns new e (inl n) k h =
      says script old new _ (ap (λ (c : Core). c.replies) n.1) tt h
  turn_may old (Asked call ask used may_pend) turns new e (inr n) k h =
      says script old new (Still_said call (used_or_zero used) (done old)) (ap (λ (c : Core). c.replies) n.2)
      (pending_may old call ask used may_pend turns e k n.0 n.1) h
  turn_may old (Item call item ends play bound) turns new e n k h =
      same script old new
      (ap (λ (c : Core). c.replies) (result_is reading script call item play bound
      (with_turn (Item call item ends play bound) turns old) new n)) h

  acts_may : (old new : Core) → Acts reading script old new → Kept meaning reading script old
      → AllMayPend script old → AllMayPend script new
  acts_may old new a k h =
      elim a.1 [
        | inl b ↦ same script old new (ap (λ (c : Core). c.replies) b.2) h
        | inr b ↦ elim b [
          | inl t ↦ turn_may old t.1 t.2 new t.3 t.4 k h
          | inr t ↦ says script old new End_said (ap (λ (c : Core). c.replies) t.3) tt h
        ]
      ]

  step_may : (old : Core) (e : Event) (new : Core) → Step meaning reading script old e new
      → Kept meaning reading script old → AllMayPend script old → AllMayPend script new
  step_may old (App n) new p k h =
      let mid : AllMayPend script (with_fence n p.2) = same script old (with_fence n p.2) (fence_says_nothing n p.2
      ∙ posts_say_nothing n old p.2 p.3) h in
      elim p.4 [
        | inl a ↦ acts_may (with_fence n p.2) new a (posts_kept meaning reading script n old p.2 p.3 k) mid
        | inr a ↦ subst (AllMayPend script) (sym a.2) mid
      ]
  step_may old Cs new p k h = same script old new (ap (λ (c : Core). c.replies) p.4) h
  step_may old (Pipe j) new p k h = same script old new (ap (λ (c : Core). c.replies) p.2) h
  step_may old Submit new p k h = same script old new (ap (λ (c : Core). c.replies) p.5) h
  step_may old Accept new p k h = same script old new (ap (λ (c : Core). c.replies) p.4) h
  step_may old (Run j) new p k h = same script old new (ap (λ (c : Core). c.replies) p.10) h
  step_may old Complete new p k h = same script old new (ap (λ (c : Core). c.replies) p.5) h
  step_may old Finish new p k h = same script old new (ap (λ (c : Core). c.replies) p.4) h
  step_may old (Come_home block place) new p k h = same script old new (ap (λ (c : Core). c.replies) p.6) h

  pub reached_may : IsLawful meaning script → (events : List Event) (core : Core)
      → Chain meaning reading script (start script) events core → AllMayPend script core
  reached_may lawful events core h = reached meaning reading script lawful (AllMayPend script) step_may tt events core h
