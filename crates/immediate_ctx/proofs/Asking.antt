-- What a call is told is what the model answers it.
use Rattle.std.proofs.Common.{◌≡◌, ℕ, ◌<◌, Bool, true, false, cond, refl, sym, ap, ◌∙◌, Option, Some, None, inl}
use Rattle.std.proofs.Common.{inr, ◌⊎◌}
use Rattle.std.proofs.Common.{arith}
use Rattle.std.specs.Prelude.{nat_le}
use Rattle.std.proofs.lemmas.Bool.{le-leb, lt-leb, cases_lt}
use Rattle.core_model.specs.Script.{Ask}
use Rattle.core_model.specs.CoreState.{Core, Still_said, done}
use Rattle.core_model.specs.Adding.{with_reply}
use Rattle.core_model.specs.AppActs.{Answers, answer, is_finished, used_or_zero}
use Rattle.immediate_ctx.specs.declared.readback.Readback.{Readback}
use Rattle.immediate_ctx.specs.declared.readback.Readback.TheVariants.{Ready, Waits, Still}
use Rattle.immediate_ctx.specs.Readback.{readback_of}

-- a use that is not finished is there, and is a later call
unfinished : (used : Option ℕ) (d : ℕ) → is_finished used d ≡ false → d < used_or_zero used
unfinished None d e = absurd (cc e)
unfinished (Some u) d e = elim (cases_lt d u)
    [ inl below ↦ below | inr above ↦ absurd (different e (le-leb u d above)) ]
  where
    different : {b : Bool} → b ≡ false → b ≡ true → ⊥
    different e f = cc (e, f)

module _ (core : Core) (call : ℕ) (ask : Ask) where
  ready_by : (used : Option ℕ) (may_pend b : Bool) → is_finished used (done core) ≡ b
      → cond b Ready (cond may_pend (Still (used_or_zero used) (done core)) (Waits (used_or_zero used))) ≡ Ready
      → Answers call ask used may_pend core (answer call ask used core)
  ready_by used may_pend true e h = inl (e, refl)
  ready_by used true false e h = absurd (cc h)
  ready_by used false false e h = absurd (cc h)

  pub is_ready : (used : Option ℕ) (may_pend : Bool) → readback_of used may_pend (done core) ≡ Ready
      → Answers call ask used may_pend core (answer call ask used core)
  is_ready used may_pend h = ready_by used may_pend (is_finished used (done core)) refl h

  -- what is said of a pending call
  abbrev Pends : Option ℕ → Bool → ℕ → ℕ → Type 0
  Pends used may_pend u d =
      (d < u) × (d ≡ done core) × Answers call ask used may_pend core (with_reply (Still_said call u d) core)

  still_by : (used : Option ℕ) (may_pend b : Bool) (u d : ℕ) → is_finished used (done core) ≡ b
      → cond b Ready (cond may_pend (Still (used_or_zero used) (done core)) (Waits (used_or_zero used))) ≡ Still u d
      → Pends used may_pend u d
  still_by used may_pend true u d e h = absurd (cc h)
  still_by used false false u d e h = absurd (cc h)
  still_by used true false u d e h =
      let at_use : used_or_zero used ≡ u = cc h in
      let at_done : done core ≡ d = cc h in
      let later : done core < used_or_zero used = unfinished used (done core) e in
      let below : d < u = omega (arith, at_use, at_done, later) in
      let said : Answers call ask used true core (with_reply (Still_said call (used_or_zero used) (done core)) core) =
      inr (e, refl, refl) in
      (below, sym at_done, along at_use at_done said)
    where
      along : {n m u d : ℕ} → n ≡ u → m ≡ d
          → Answers call ask used true core (with_reply (Still_said call n m) core)
          → Answers call ask used true core (with_reply (Still_said call u d) core)
      along p q h = rw (← p, ← q) h

  pub is_pending : (used : Option ℕ) (may_pend : Bool) (u d : ℕ) → readback_of used may_pend (done core) ≡ Still u d
      → Pends used may_pend u d
  is_pending used may_pend u d h = still_by used may_pend (is_finished used (done core)) u d refl h

  waits_by : (used : Option ℕ) (may_pend b : Bool) (u : ℕ) → is_finished used (done core) ≡ b
      → cond b Ready (cond may_pend (Still (used_or_zero used) (done core)) (Waits (used_or_zero used))) ≡ Waits u
      → (new : Core) → Answers call ask used may_pend core new → ⊥
  waits_by used may_pend true u e h new a = absurd (cc h)
  waits_by used true false u e h new a = absurd (cc h)
  waits_by used false false u e h new (inl a) = differ e a.0
    where
      differ : {b : Bool} → b ≡ false → b ≡ true → ⊥
      differ p q = cc (p, q)
  waits_by used false false u e h new (inr a) = no a.1
    where
      no : false ≡ true → ⊥
      no p = cc p

  pub is_waiting : (used : Option ℕ) (may_pend : Bool) (u : ℕ) → readback_of used may_pend (done core) ≡ Waits u
      → (new : Core) → Answers call ask used may_pend core new → ⊥
  is_waiting used may_pend u h new a = waits_by used may_pend (is_finished used (done core)) u refl h new a
