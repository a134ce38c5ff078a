-- Two runs of a schedule end in the same state.
use Rattle.std.proofs.Common.{◌≡◌, ℕ, true, false, List, [], ◌∷◌, refl, sym, ◌∙◌, subst, inl, inr}
use Rattle.vk_types.specs.Effects.{Meaning}
use Rattle.core_model.specs.Script.{Script}
use Rattle.core_model.specs.CoreState.{Core, start}
use Rattle.core_model.specs.Runs.{Actor, actor_of, event_in, settling, ActsOrStays, Follows, FirstEnabled, Settles}
use Rattle.core_model.specs.Runs.{At_end, Settling, IsRun}
use Rattle.core_model.proofs.Ends.Enabled.{taken_step}
use Rattle.core_model.proofs.Ends.OneStep.{step_once}

module _ (meaning : Meaning) (script : Script) where
  acts_or_stays : (actor : Actor) (old a b : Core) → ActsOrStays meaning script old actor a
      → ActsOrStays meaning script old actor b → a ≡ b
  acts_or_stays actor old a b (inl p) (inl q) = step_once meaning script old (event_in old actor) a b p q
  acts_or_stays actor old a b (inl p) (inr q) = absurd (q.0 (a, p))
  acts_or_stays actor old a b (inr p) (inl q) = absurd (p.0 (b, q))
  acts_or_stays actor old a b (inr p) (inr q) = p.1 ∙ sym q.1

  follows_once : (bytes : List ℕ) (old a b : Core) → Follows meaning script old bytes a
      → Follows meaning script old bytes b → a ≡ b
  follows_once [] old a b p q = p ∙ sym q
  follows_once (byte ∷ bytes) old a b p q =
      let mid = acts_or_stays (actor_of byte) old q.0 p.0 q.1 p.1 in
      follows_once bytes p.0 a b p.2 (subst (λ m. Follows meaning script m bytes b) mid q.2)

  first_once : (actors : List Actor) (old a b : Core) → FirstEnabled meaning script old actors a
      → FirstEnabled meaning script old actors b → a ≡ b
  first_once [] old a b p q = absurd p
  first_once (x ∷ actors) old a b (inl p) (inl q) = step_once meaning script old (event_in old x) a b p q
  first_once (x ∷ actors) old a b (inl p) (inr q) = absurd (q.0 (a, p))
  first_once (x ∷ actors) old a b (inr p) (inl q) = absurd (p.0 (b, q))
  first_once (x ∷ actors) old a b (inr p) (inr q) = first_once actors old a b p.1 q.1

  no_more : (old mid : Core) → old.ended ≡ true → FirstEnabled meaning script old settling mid → ⊥
  no_more old mid e f = let s = taken_step meaning script old settling mid f in let z : true ≡ false = sym e
      ∙ s.1.0 in cc z

  settles_once : (old a b : Core) → Settles meaning script old a → Settles meaning script old b → a ≡ b
  settles_once old a b (At_end _ e) (At_end _ f) = refl
  settles_once old a b (At_end _ e) (Settling _ mid _ f s) = absurd (no_more old mid e f)
  settles_once old a b (Settling _ mid _ f s) (At_end _ e) = absurd (no_more old mid e f)
  settles_once old a b (Settling _ mid _ f s) (Settling _ mid2 _ g t) =
      let same = first_once settling old mid2 mid g f in
      settles_once mid a b s (subst (λ m. Settles meaning script m b) same t)

  pub run_once : (schedule : List ℕ) (a b : Core) → IsRun meaning script schedule a
      → IsRun meaning script schedule b → a ≡ b
  run_once schedule a b p q =
      let mid = follows_once schedule (start script) q.0 p.0 q.1 p.1 in
      settles_once p.0 a b p.2 (subst (λ m. Settles meaning script m b) mid q.2)
