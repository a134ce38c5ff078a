-- Each schedule has a run: what is enabled is decided, and each step comes nearer to the end.
use Rattle.std.proofs.Common.{ℕ, zero, suc, ◌<◌, List, [], ◌∷◌, refl, sym, subst, inl, inr, arith}
use Rattle.std.proofs.lemmas.Bool.{cases_Bool}
use Rattle.vk_types.specs.Effects.{Meaning}
use Rattle.core_model.specs.Script.{Script}
use Rattle.core_model.specs.CoreState.{Core, start}
use Rattle.core_model.specs.Ends.{distance}
use Rattle.core_model.specs.Lawful.{IsLawful}
use Rattle.core_model.specs.Runs.{actor_of, event_in, settling, Follows, FirstEnabled, Settles, At_end, Settling, IsRun}
use Rattle.core_model.proofs.Ends.Nearer.{nearer}
use Rattle.core_model.proofs.Ends.CoreReached.{Ready, ready_start, ready_step}
use Rattle.core_model.proofs.Ends.Enabled.{decide, some_goes, taken_step}

module _ (meaning : Meaning) (script : Script) (lawful : IsLawful meaning script) where
  pub ready_follows : (bytes : List ℕ) (old new : Core) → Follows meaning script old bytes new
      → Ready meaning script lawful old → Ready meaning script lawful new
  ready_follows [] old new h r = subst (Ready meaning script lawful) (sym h) r
  ready_follows (byte ∷ bytes) old new h r = ready_follows bytes h.0 new h.2 (elim h.1 [
    | inl s ↦ ready_step meaning script lawful old (event_in old (actor_of byte)) h.0 s r
    | inr s ↦ subst (Ready meaning script lawful) (sym s.1) r
  ])

  pub ready_first : (old new : Core) → FirstEnabled meaning script old settling new
      → Ready meaning script lawful old → Ready meaning script lawful new
  ready_first old new f r = let s = taken_step meaning script old settling new f in
      ready_step meaning script lawful old (event_in old s.0) new s.1 r

  pub ready_settles : (old new : Core) → Settles meaning script old new → Ready meaning script lawful old
      → Ready meaning script lawful new
  ready_settles old new (At_end _ e) r = r
  ready_settles old new (Settling _ mid _ f s) r = ready_settles mid new s (ready_first old mid f r)

  pub ready_run : (schedule : List ℕ) (core : Core) → IsRun meaning script schedule core
      → Ready meaning script lawful core
  ready_run schedule core h =
      ready_settles h.0 core h.2 (ready_follows schedule (start script) h.0 h.1 (ready_start meaning script lawful))

  follows : (bytes : List ℕ) (core : Core) → Ready meaning script lawful core → (new : Core)
      × Follows meaning script core bytes new
  follows [] core r = (core, refl)
  follows (byte ∷ bytes) core r = elim (decide meaning script lawful core r (actor_of byte)) [
    | inl x ↦ let f =
        follows bytes x.0 (ready_step meaning script lawful core (event_in core (actor_of byte)) x.0 x.1 r) in
        (f.0, (x.0, inl x.1, f.1))
    | inr n ↦ let f = follows bytes core r in (f.0, (core, inr (n, refl), f.1))
  ]

  settles : (fuel : ℕ) (core : Core) → Ready meaning script lawful core → distance core < fuel → (new : Core)
      × Settles meaning script core new
  settles zero core r l = absurd (omega (arith, l))
  settles (suc fuel) core r l = elim (cases_Bool core.ended) [
    | inl t ↦ (core, At_end core t)
    | inr f ↦
        let x = some_goes meaning script lawful core r f in
        let s = taken_step meaning script core settling x.0 x.1 in
        let near = nearer meaning script core (event_in core s.0) x.0 s.1 in
        let rest = settles fuel x.0 (ready_first core x.0 x.1 r) (omega (arith, near, l)) in
        (rest.0, Settling core x.0 rest.0 x.1 rest.1)
  ]

  pub run_exists : (schedule : List ℕ) → (core : Core) × IsRun meaning script schedule core
  run_exists schedule =
      let f = follows schedule (start script) (ready_start meaning script lawful) in
      let r = ready_follows schedule (start script) f.0 f.1 (ready_start meaning script lawful) in
      let s = settles (suc (distance f.0)) f.0 r (omega arith) in
      (s.0, (f.0, f.1, s.1))
