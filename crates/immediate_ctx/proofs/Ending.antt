-- The recorder stands for the state behind its end, and behind a readback that is told without bytes.
use Rattle.std.proofs.Common.{◌≡◌, ℕ, ◌-◌, ◌<◌, ◌≤◌, Bool, true, false, List, [], ◌∷◌, ◌++◌, refl, sym, ap, ◌∙◌, arith}
use Rattle.std.proofs.Common.{Option, ◌⊎◌, inl, inr, subst}
use Rattle.core_model.specs.Script.{Ask, Turn, Asked, Script}
use Rattle.core_model.specs.Chunking.{is_due}
use Rattle.core_model.specs.CoreState.{Core, End_said, Still_said, done, last_finished, later}
use Rattle.core_model.specs.Readings.{Reading}
use Rattle.core_model.specs.Adding.{with_reply, with_turn}
use Rattle.core_model.specs.AppActs.{Acts, Answers, TakesTurn}
use Rattle.immediate_ctx.specs.AppState.{AppState, with_passed}
use Rattle.immediate_ctx.specs.Flight.{last_upto}
use Rattle.immediate_ctx.specs.Readback.{readback_of}
use Rattle.immediate_ctx.specs.declared.readback.Readback.{Readback}
use Rattle.immediate_ctx.specs.declared.readback.Readback.TheVariants.{Waits, Still}
use Rattle.immediate_ctx.specs.Stands.{AppStands}
use Rattle.immediate_ctx.proofs.Asking.{is_pending, is_waiting}
use Rattle.immediate_ctx.proofs.Recording.{passed_stands}
use Rattle.immediate_ctx.proofs.StandingFlight.{last_call_stands}

module _ (script : Script) (names : ℕ → ℕ) (core : Core) (s : AppState) (st : AppStands script names core s) where
  pub ended_stands : (reading : Reading) → core.ended ≡ false → is_due script core.open_chunk.turns core.future ≡ false
      → core.future ≡ [] → last_upto s.flight ≤ s.flight.done
      → (next : Core) × Acts reading script core next × AppStands script names next (record s { ended = true })
      × (next.replies ≡ core.replies ++ End_said ∷ [])
  ended_stands reading running not_due over finished =
      let at_last = last_call_stands core s.flight st.flight in
      let at_done = st.flight.done in
      let last_done : last_finished (core.taken ++ later core) ≤ done core =
      omega (arith, at_last, at_done, finished) in (
        with_reply End_said (record core { ended = true }),
        (running, inr (inr (not_due, over, last_done, refl))),
        record {
          ended = refl;
          position = st.position;
          flight = st.flight;
          open_chunk = st.open_chunk;
          pool = st.pool;
          buffers = st.buffers;
          blocks = st.blocks;
        },
        refl,
      )

  -- no act is there while the end waits
  pub end_waits : (reading : Reading) → is_due script core.open_chunk.turns core.future ≡ false → core.future ≡ []
      → s.flight.done < last_upto s.flight → (other : Core) → Acts reading script core other → ⊥
  end_waits reading not_due over unfinished other (running, inl due) = absurd (differ not_due due.0)
    where
      differ : {b : Bool} → b ≡ false → b ≡ true → ⊥
      differ p q = cc (p, q)
  end_waits reading not_due over unfinished other (running, inr (inl turn)) = no turn.1 turn.2 (sym over ∙ turn.3)
    where
      no : (t : Turn) (ts : List Turn) → [] ≡ t ∷ ts → ⊥
      no t ts e = cc e
  end_waits reading not_due over unfinished other (running, inr (inr last)) =
      let at_last = last_call_stands core s.flight st.flight in
      let at_done = st.flight.done in
      let finished : last_finished (core.taken ++ later core) ≤ done core = last.2 in
      omega (arith, at_last, at_done, finished, unfinished)

  -- a call that is pending
  pub still_stands : (reading : Reading) (call : ℕ) (ask : Ask) (used : Option ℕ) (may_pend : Bool) (ts : List Turn)
      (u d : ℕ) → readback_of used may_pend s.flight.done ≡ Still u d
      → (d < u) × (d ≡ s.flight.done)
      × Answers call ask used may_pend (with_turn (Asked call ask used may_pend) ts core)
      (with_reply (Still_said call u d) (with_turn (Asked call ask used may_pend) ts core))
      × AppStands script names (with_reply (Still_said call u d) (with_turn (Asked call ask used may_pend) ts core))
      (with_passed call true s)
  still_stands reading call ask used may_pend ts u d told =
      let core_told : readback_of used may_pend (done core) ≡ Still u d =
      ap (readback_of used may_pend) (sym st.flight.done) ∙ told in
      let pends = is_pending (with_turn (Asked call ask used may_pend) ts core) call ask used may_pend u d core_told in
      let behind = passed_stands script names core s (Asked call ask used may_pend) ts st refl in (
        pends.0,
        pends.1 ∙ sym st.flight.done,
        pends.2,
        record {
          ended = behind.ended;
          position = behind.position;
          flight = behind.flight;
          open_chunk = behind.open_chunk;
          pool = behind.pool;
          buffers = behind.buffers;
          blocks = behind.blocks;
        },
      )

  -- no act is there while a call waits
  pub call_waits : (reading : Reading) (call : ℕ) (ask : Ask) (used : Option ℕ) (may_pend : Bool) (ts : List Turn)
      (u : ℕ) → is_due script core.open_chunk.turns core.future ≡ false
      → core.future ≡ Asked call ask used may_pend ∷ ts
      → readback_of used may_pend s.flight.done ≡ Waits u → (other : Core) → Acts reading script core other → ⊥
  call_waits reading call ask used may_pend ts u not_due next told other (running, inl due) =
      absurd (differ not_due due.0)
    where
      differ : {b : Bool} → b ≡ false → b ≡ true → ⊥
      differ p q = cc (p, q)
  call_waits reading call ask used may_pend ts u not_due next told other (running, inr (inr last)) =
      no (sym last.1 ∙ next)
    where
      no : [] ≡ Asked call ask used may_pend ∷ ts → ⊥
      no e = cc e
  call_waits reading call ask used may_pend ts u not_due next told other (running, inr (inl turn)) =
      let core_told : readback_of used may_pend (done core) ≡ Waits u =
      ap (readback_of used may_pend) (sym st.flight.done) ∙ told in
      at_turn turn.1 turn.2 (cc (turn.3, next)) (cc (turn.3, next)) core_told turn.4
    where
      at_turn : (t : Turn) (turns : List Turn) → t ≡ Asked call ask used may_pend → turns ≡ ts
          → readback_of used may_pend (done core) ≡ Waits u → TakesTurn reading script t turns core other → ⊥
      at_turn t turns p q told takes =
          let P : Turn → Type 0 = λ x. TakesTurn reading script x turns core other in
          is_waiting (with_turn (Asked call ask used may_pend) turns core) call ask used may_pend u told other
          (subst P p takes)
