-- At the end the core has kept its promise, in each reading and by any choices.
use Rattle.std.proofs.Common.{◌≡◌, ℕ, ◌-◌, ◌==◌, Bool, true, false, cond, List, [], ◌∷◌, map, Option, Some, None}
use Rattle.std.proofs.Common.{refl, sym, ap, ◌∙◌, subst}
use Rattle.std.specs.Prelude.{slice_get}
use Rattle.std.specs.List.{AllByRecursion, flat_map}
use Rattle.std.proofs.lemmas.Bool.{eqb-true, eq-eqb}
use Rattle.dx_types.specs.declared.range.Range.{Range}
use Rattle.dx_types.specs.declared.reply.Reply.TheVariants as said
use Rattle.vk_types.specs.declared.op.VkOp.{VkOp}
use Rattle.vk_types.specs.declared.op.VkOp.TheVariants as op
use Rattle.vk_types.specs.Allowed.{IsAllowed, outcome}
use Rattle.base_lemmas.specs.Lists.{numbers_from}
use Rattle.vk_types.proofs.Law.{law_of_covered}
use Rattle.base_lemmas.proofs.Lists.{all_back}
use Rattle.call_log.specs.Call.{Issued}
use Rattle.d3d_model.specs.Uses.{last_use}
use Rattle.d3d_model.specs.ReplyText.{none_pending, reply_at, lines, replies}
use Rattle.core_model.specs.Script.{Ask, Bytes, Count, Constant, at_start, in_order}
use Rattle.core_model.specs.CoreState.{Said, Bytes_said, Value_said, Still_said, Refused_said, End_said, Core, start}
use Rattle.core_model.specs.Readings.{Reading, Any_choices}
use Rattle.core_model.specs.CoreStep.{Event, Chain}
use Rattle.core_model.specs.HostReads.{whole_listing, IsSaid, HasRead, RepliesAreReads}
use Rattle.core_model.specs.Invariant.{IsAsked, IsRight, answered}
use Rattle.core_model.specs.Kept.{Kept}
use Rattle.core_model.specs.Runs.{pending_in, IsRun}
use Rattle.core_model.proofs.Steps.Idle.{free_is_idle}
use Rattle.core_model.proofs.Runs.Choices.{run_free}
use Rattle.core_model.proofs.Runs.RunsKeepAll.{reached_kept}
use Rattle.core_model.proofs.Runs.HostAnswers.{reached_answered, replies_are_reads}
use Rattle.core_model.proofs.Ends.EndsWhole.{ends_whole}
use Rattle.core_model.proofs.Ends.CoreChains.{run_ended, end_listed, end_ran, end_memory, end_covered, end_listing}
use Rattle.core_model.proofs.Ends.NoneWaits.{none_waits}
use Rattle.log_script.specs.Answered.{AnswersAsDirect3d}
use Rattle.log_script.specs.LogScript.{meaning_of, script_of}
use Rattle.log_script.specs.Promise.{WasPending, KeepsPromise}
use Rattle.log_script.specs.RunText.{reply_said, pending_map}
use Rattle.log_script.proofs.Owed.LawfulScripts.{lawful}
use Rattle.log_script.proofs.Promised.AnsweredReplies.{chain_answers, read_answers}
use Rattle.log_script.proofs.Promised.AnsweredTurns.{asked_tells}
use Rattle.log_script.proofs.Promised.RunReplies.{chain_replies, run_replies}

module _ (log : List Issued) where
  pending_there : (rs : List Said) (call finished : ℕ) → AllByRecursion (AnswersAsDirect3d log) rs
      → pending_in rs call ≡ Some finished → WasPending log call finished
  pending_there [] call finished a e = absurd (cc e)
  pending_there (Bytes_said other bytes ∷ rs) call finished a e = pending_there rs call finished a.1 e
  pending_there (Value_said other value ∷ rs) call finished a e = pending_there rs call finished a.1 e
  pending_there (Still_said other used done ∷ rs) call finished a e =
      by (other == call) refl e (λ f. pending_there rs call finished a.1 f)
    where
      by : (c : Bool) → (other == call) ≡ c → cond c (Some done) (pending_in rs call) ≡ Some finished
          → (pending_in rs call ≡ Some finished → WasPending log call finished) → WasPending log call finished
      by true t e rec =
          let same : done ≡ finished = cc e in
          subst (λ n. WasPending log n finished) (eqb-true other call t)
          (subst (WasPending log other) same (record {
            used = used;
            last = a.0.0;
            unfinished = a.0.1;
            no_wait =
                a.0.2;
          }))
      by false t e rec = rec e
  pending_there (Refused_said other ∷ rs) call finished a e = pending_there rs call finished a.1 e
  pending_there (End_said ∷ rs) call finished a e = pending_there rs call finished a.1 e

  module _ (reading : Reading) (events : List Event) (core : Core)
      (h : Chain (meaning_of log) reading (script_of log) (start (script_of log)) events core) where
    abbrev kept : Kept (meaning_of log) reading (script_of log) core
    kept = reached_kept (meaning_of log) reading (script_of log) (lawful log) events core h

    -- the host read of an answer
    pub read_of : (call : ℕ) (bytes : List ℕ) → IsSaid core (Bytes_said call bytes) → (used : ℕ)
        → last_use log call ≡ Some used
        → (r : Range) × (place : ℕ) × (slice_get (whole_listing core) place ≡ Some (op.HostRead r call))
    read_of call bytes told used last =
        let right : AllByRecursion (IsRight (meaning_of log) (script_of log)) (Bytes_said call bytes ∷ told.1) =
        all_back (IsRight (meaning_of log) (script_of log)) told.0 (Bytes_said call bytes ∷ told.1)
        (subst (AllByRecursion (IsRight (meaning_of log) (script_of log))) told.2 kept.good.replies) in
        let x = right.0 in
        by x.0 x.1 x.2 x.3
      where
        reads : RepliesAreReads (meaning_of log) (script_of log) core
        reads = replies_are_reads (meaning_of log) reading (script_of log) (lawful log) core kept
            (reached_answered (meaning_of log) reading (script_of log) (lawful log) events core h)

        has : (source : Range) (o : Option ℕ) → o ≡ Some used → HasRead (meaning_of log) core call source o bytes
            → (r : Range) × (place : ℕ) × (slice_get (whole_listing core) place ≡ Some (op.HostRead r call))
        has source None e g = absurd (cc e)
        has source (Some u) e g = (_, g.1, g.2.here)

        by : (ask : Ask) (o : Option ℕ) (at : IsAsked (script_of log) call ask o)
            → answered ask (in_order (meaning_of log) (script_of log) at.front at_start) (Bytes_said call bytes)
            → (r : Range) × (place : ℕ) × (slice_get (whole_listing core) place ≡ Some (op.HostRead r call))
        by (Bytes source) o at a =
            let tells = asked_tells log at.front call (Bytes source) o at.may_pend at.back at.here in
            has source o (sym tells.0 ∙ last) (reads call bytes told source o at).1
        by (Count query) o at a = absurd a
        by (Constant value) o at a = absurd a

    pub chain_keeps : core.ended ≡ true → KeepsPromise log core
    chain_keeps e =
        let m = meaning_of log in
        let s = script_of log in
        let l = lawful log in
        let listed = end_listed m reading s l events core h e in
        let covers = end_covered m reading s l events core h e in
        let ran = end_ran m reading s l events core h e in
        let Reads : List VkOp → Type 0 = λ ops. (call : ℕ) (r : Range) (place : ℕ)
        → slice_get ops place ≡ Some (op.HostRead r call) → (order : List ℕ) → IsAllowed ops order
        → reply_at log none_pending call
        ≡ Some (said.Bytes call (map ((outcome m core.contents ops order).answers place)
        (numbers_from 0 (r.to - r.from)))) in
        let Stand : List VkOp → Type 0 = λ ops. (call : ℕ) (bytes : List ℕ) → IsSaid core (Bytes_said call bytes)
        → (used : ℕ) → last_use log call ≡ Some used
        → (r : Range) × (place : ℕ) × (slice_get ops place ≡ Some (op.HostRead r call)) in
        record {
          says = ap lines (chain_replies log reading events core h e);
          pending = λ call finished there. pending_there core.replies call finished
              (chain_answers log l reading events core h) there;
          listing = (end_listing m reading s l events core h e).0;
          covered = covers;
          orders = law_of_covered m core.contents core.listing covers;
          reads = subst Reads listed (read_answers log l reading events core h);
          reads_stand = subst Stand listed read_of;
          idle = free_is_idle m reading s core kept.good;
          chunks = (ends_whole m reading s l events core h e).chunks;
          each_once = ran.0;
          order = ran.1;
          memory = end_memory m reading s l events core h e;
        }

  pub run_keeps : (schedule : List ℕ) (core : Core) → IsRun (meaning_of log) (script_of log) schedule core
      → KeepsPromise log core
  run_keeps schedule core r =
      let free = run_free (meaning_of log) (script_of log) schedule core r in
      chain_keeps Any_choices free.0 core free.1 (run_ended (meaning_of log) (script_of log) schedule core r)

  -- no reply is pending
  none_noted : (rs : List Said) → ((n : ℕ) → pending_in rs n ≡ None) → pending_map rs ≡ none_pending
  none_noted [] h = refl
  none_noted (Bytes_said call bytes ∷ rs) h = none_noted rs h
  none_noted (Value_said call value ∷ rs) h = none_noted rs h
  none_noted (Still_said call used finished ∷ rs) h =
      let z : Some finished ≡ None = ap (λ c. cond c (Some finished) (pending_in rs call))
      (sym (eq-eqb call call refl)) ∙ h call in absurd (cc z)
  none_noted (Refused_said call ∷ rs) h = none_noted rs h
  none_noted (End_said ∷ rs) h = none_noted rs h

  pub plain_says : (core : Core) → IsRun (meaning_of log) (script_of log) [] core
      → flat_map (reply_said log) core.replies ≡ replies log none_pending
  plain_says core r =
      run_replies log [] core r
      ∙ ap (replies log)
      (none_noted core.replies (none_waits (meaning_of log) (script_of log) (lawful log) core r))
