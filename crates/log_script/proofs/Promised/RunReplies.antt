-- The replies of a run are those of the log, where the calls are pending that the run has answered so.
use Rattle.std.proofs.Common.{◌≡◌, ℕ, zero, suc, ◌==◌, true, false, cond, List, [], ◌∷◌, ◌++◌, length, Option, Some}
use Rattle.std.proofs.Common.{None, refl, sym, ap, ◌∙◌, subst, inl, inr, append-nil, append_assoc}
use Rattle.std.specs.Prelude.{unwrap_or}
use Rattle.std.specs.List.{AllByRecursion, flat_map}
use Rattle.std.specs.Option.{option_to_list}
use Rattle.std.proofs.lemmas.Bool.{cases_Bool, eqb-true}
use Rattle.std.proofs.lemmas.Grind.{flat_map-append}
use Rattle.dx_types.specs.declared.refusal.Refusal.{Refusal}
use Rattle.dx_types.specs.declared.reply.Reply.{Reply}
use Rattle.dx_types.specs.declared.reply.Reply.TheVariants as said
use Rattle.call_log.specs.Call as calls
use Rattle.call_log.specs.Call.{Call, Issued}
use Rattle.base_lemmas.specs.IdMap.{get}
use Rattle.d3d_model.specs.InOrder.{State, verdict_in, before_call, call_at}
use Rattle.d3d_model.specs.Uses.{use_unless, use_by}
use Rattle.d3d_model.specs.ReplyText.{Pending, none_pending, answer, answer_or_still, reply_unless, reply_to}
use Rattle.d3d_model.specs.ReplyText.{reply_at, replies_upto, replies}
use Rattle.base_lemmas.proofs.Maps.{get-empty}
use Rattle.core_model.specs.CoreState.{Said, Bytes_said, Value_said, Still_said, Refused_said, End_said, Core, start}
use Rattle.core_model.specs.Readings.{Reading, Any_choices}
use Rattle.core_model.specs.CoreStep.{Event, Chain}
use Rattle.core_model.specs.Runs.{pending_in, IsRun}
use Rattle.log_script.specs.Answered.{DoesNotWait, IsNoWait, AnswersAsDirect3d}
use Rattle.log_script.specs.LogScript.{meaning_of, script_of}
use Rattle.log_script.specs.RunText.{reply_said, pending_map}
use Rattle.log_script.specs.Said.{said_call, replied, replying}
use Rattle.core_model.proofs.Runs.Choices.{run_free}
use Rattle.core_model.proofs.Ends.CoreChains.{run_ended}
use Rattle.log_script.proofs.Promised.AnsweredReplies.{chain_answers}
use Rattle.log_script.proofs.Owed.LawfulScripts.{lawful}
use Rattle.log_script.proofs.Promised.PendingMaps.{Distinct, distinct_front, IsNoted, pending_gets, replying_once}
use Rattle.log_script.proofs.Promised.PendingMaps.{replies_noted}
use Rattle.log_script.proofs.Promised.SaidRuns.{SaysEnd, says_so_far, not_ended, chain_says}
use Rattle.log_script.proofs.Promised.SaidSteps.{NotEnd}

-- ---- what is said of one call

-- a call that is not pending is answered as where none is
free_unless : (pending : Pending) (n : ℕ) (s : State) (c : Call) (v : Option Refusal) → get pending n ≡ None
    → reply_unless pending n s c v ≡ reply_unless none_pending n s c v
free_unless pending n s c (Some why) free = refl
free_unless pending n s c None free = ap (λ (o : Option ℕ). answer_or_still n s c o) (free ∙ sym (get-empty ℕ n))

free_to : (pending : Pending) (n : ℕ) (s : State) (o : Option Issued) → get pending n ≡ None
    → reply_to pending n s o ≡ reply_to none_pending n s o
free_to pending n s None free = refl
free_to pending n s (Some i) free = free_unless pending n s i.call (verdict_in s i) free

free_reply : (log : List Issued) (pending : Pending) (n : ℕ) → get pending n ≡ None
    → reply_at log pending n ≡ reply_at log none_pending n
free_reply log pending n free = free_to pending n (before_call log n) (call_at log n) free

-- a call that is pending, and has a last use, names it
still_unless : (pending : Pending) (n used finished : ℕ) (s : State) (c : Call) (v : Option Refusal)
    → use_unless s c v ≡ Some used → get pending n ≡ Some finished
    → reply_unless pending n s c v ≡ Some (said.Still n used finished)
still_unless pending n used finished s c (Some why) last there = absurd (cc last)
still_unless pending n used finished s c None last there =
    ap (λ (o : Option ℕ). answer_or_still n s c o) there ∙ ap
    (λ (o : Option ℕ). Some (said.Still n (unwrap_or o 0) finished)) last

still_to : (pending : Pending) (n used finished : ℕ) (s : State) (o : Option Issued) → use_by s o ≡ Some used
    → get pending n ≡ Some finished
    → reply_to pending n s o ≡ Some (said.Still n used finished)
still_to pending n used finished s None last there = absurd (cc last)
still_to pending n used finished s (Some i) last there = still_unless pending n used finished s i.call
    (verdict_in s i) last there

-- to a call that does not wait there is a reply
accepted_told : (n : ℕ) (s : State) (c : Call) → DoesNotWait c → answer n s c ≡ None → ⊥
accepted_told n s (calls.MapRead res flag offset len) w e = cc e
accepted_told n s (calls.GetData query flag) w e = cc e
accepted_told n s c w e = w

unless_told : (n : ℕ) (s : State) (c : Call) (v : Option Refusal) → DoesNotWait c
    → reply_unless none_pending n s c v ≡ None → ⊥
unless_told n s c (Some why) w e = cc e
unless_told n s c None w e =
    accepted_told n s c w (ap (λ (o : Option ℕ). answer_or_still n s c o) (sym (get-empty ℕ n)) ∙ e)

to_told : (n : ℕ) (s : State) (o : Option Issued) → IsNoWait o → reply_to none_pending n s o ≡ None → ⊥
to_told n s None w e = w
to_told n s (Some i) w e = unless_told n s i.call (verdict_in s i) w e

module _ (log : List Issued) where
  -- a call that was answered as pending does not wait
  pending_no_wait : (rs : List Said) (n finished : ℕ) → AllByRecursion (AnswersAsDirect3d log) rs
      → pending_in rs n ≡ Some finished → IsNoWait (call_at log n)
  pending_no_wait [] n finished a e = absurd (cc e)
  pending_no_wait (Bytes_said call bytes ∷ rs) n finished a e = pending_no_wait rs n finished a.1 e
  pending_no_wait (Value_said call value ∷ rs) n finished a e = pending_no_wait rs n finished a.1 e
  pending_no_wait (Still_said call used done ∷ rs) n finished a e =
      elim (call == n) as (λ b. (call == n) ≡ b → cond b (Some done) (pending_in rs n) ≡ Some finished
      → IsNoWait (call_at log n)) [
        | true ↦ λ same here. subst (λ (k : ℕ). IsNoWait (call_at log k)) (eqb-true call n same) a.0.2
        | false ↦ λ other here. pending_no_wait rs n finished a.1 here
      ] refl e
  pending_no_wait (Refused_said call ∷ rs) n finished a e = pending_no_wait rs n finished a.1 e
  pending_no_wait (End_said ∷ rs) n finished a e = pending_no_wait rs n finished a.1 e

  -- ---- from calls to replies

  abbrev replies_to : Pending → ℕ → List Reply
  replies_to pending n = option_to_list (reply_at log pending n)

  said_right : (pending : Pending) (s : Said) → AnswersAsDirect3d log s → IsNoted (get pending) s → NotEnd s
      → reply_said log s ≡ flat_map (replies_to pending) (said_call s)
  said_right pending (Bytes_said call bytes) a p e = ap (λ (o : Option Reply). option_to_list o ++ [])
      (sym (free_reply log pending call p ∙ a))
  said_right pending (Value_said call value) a p e = ap (λ (o : Option Reply). option_to_list o ++ [])
      (sym (free_reply log pending call p ∙ a))
  said_right pending (Still_said call used finished) a p e =
      ap (λ (o : Option Reply). option_to_list o ++ []) (sym
      (still_to pending call used finished (before_call log call) (call_at log call) a.0 p))
  said_right pending (Refused_said call) a p e = ap option_to_list (sym (free_reply log pending call p))
      ∙ sym (append-nil (replies_to pending call))
  said_right pending End_said a p e = absurd (e refl)

  -- up to the end, which is said last
  saids_right : (pending : Pending) (front : List Said) → AllByRecursion NotEnd front
      → AllByRecursion (AnswersAsDirect3d log) (front ++ End_said ∷ [])
      → AllByRecursion (IsNoted (get pending)) (front ++ End_said ∷ [])
      → flat_map (reply_said log) (front ++ End_said ∷ []) ≡ flat_map (replies_to pending)
      (flat_map said_call (front ++ End_said ∷ [])) ++ said.Finished (length log) ∷ []
  saids_right pending [] e a p = refl
  saids_right pending (s ∷ ss) e a p =
      let rest : List Said = ss ++ End_said ∷ [] in
      let first : List Reply = flat_map (replies_to pending) (said_call s) in
      let others : List Reply = flat_map (replies_to pending) (flat_map said_call rest) in
      let end : List Reply = said.Finished (length log) ∷ [] in
      ap (λ (l : List Reply). l ++ flat_map (reply_said log) rest) (said_right pending s a.0 p.0 e.0)
      ∙ ap (λ (l : List Reply). first ++ l) (saids_right pending ss e.1 a.1 p.1)
      ∙ sym (append_assoc first others end) ∙ ap (λ (l : List Reply). l ++ end)
      (sym (flat_map-append (replies_to pending) (said_call s) (flat_map said_call rest)))

  -- where a call has no reply while none is pending, it has none
  none_to : (pending : Pending) → ((n finished : ℕ) → get pending n ≡ Some finished → IsNoWait (call_at log n))
      → (n : ℕ) → reply_at log none_pending n ≡ None
      → reply_at log pending n ≡ None
  none_to pending no_wait n none =
      elim (get pending n) as (λ (o : Option ℕ). get pending n ≡ o → reply_at log pending n ≡ None) [
        | None ↦ λ free. free_reply log pending n free ∙ none
        | Some finished ↦ λ there. absurd (to_told n (before_call log n) (call_at log n) (no_wait n finished there)
            none)
      ] refl

  replied_once : (pending : Pending) → ((n finished : ℕ) → get pending n ≡ Some finished → IsNoWait (call_at log n))
      → (n : ℕ) (o : Option Reply) → reply_at log none_pending n ≡ o
      → flat_map (replies_to pending) (replied n o) ≡ replies_to pending n
  replied_once pending no_wait n None e = sym (ap option_to_list (none_to pending no_wait n e))
  replied_once pending no_wait n (Some r) e = append-nil (replies_to pending n)

  calls_replied : (pending : Pending) → ((n finished : ℕ) → get pending n ≡ Some finished
      → IsNoWait (call_at log n)) → (n : ℕ)
      → flat_map (replies_to pending) (replying log n) ≡ replies_upto (reply_at log pending) n
  unfolding replying replies_upto
  calls_replied pending no_wait zero = refl
  calls_replied pending no_wait (suc n) =
      let last : List ℕ = replied (suc n) (reply_at log none_pending (suc n)) in
      flat_map-append (replies_to pending) (replying log n) last
      ∙ ap (λ (l : List Reply). l ++ flat_map (replies_to pending) last) (calls_replied pending no_wait n)
      ∙ ap (λ (l : List Reply). replies_upto (reply_at log pending) n ++ l)
      (replied_once pending no_wait (suc n) (reply_at log none_pending (suc n)) refl)

  -- ---- whole runs

  all_said : (pending : Pending) (rs : List Said) → SaysEnd rs → AllByRecursion (AnswersAsDirect3d log) rs
      → AllByRecursion (IsNoted (get pending)) rs
      → flat_map (reply_said log) rs ≡ flat_map (replies_to pending) (flat_map said_call rs)
      ++ said.Finished (length log) ∷ []
  all_said pending rs e a p =
      subst (λ (l : List Said). flat_map (reply_said log) l ≡ flat_map (replies_to pending) (flat_map said_call l)
      ++ said.Finished (length log) ∷ []) (sym e.1)
      (saids_right pending e.0 e.2 (subst (AllByRecursion (AnswersAsDirect3d log)) e.1 a)
      (subst (AllByRecursion (IsNoted (get pending))) e.1 p))

  -- what was said so far, before the end
  front_said : (pending : Pending) (rs : List Said) → AllByRecursion NotEnd rs
      → AllByRecursion (AnswersAsDirect3d log) rs → AllByRecursion (IsNoted (get pending)) rs
      → flat_map (reply_said log) rs ≡ flat_map (replies_to pending) (flat_map said_call rs)
  front_said pending [] e a p = refl
  front_said pending (s ∷ ss) e a p =
      ap (λ (l : List Reply). l ++ flat_map (reply_said log) ss) (said_right pending s a.0 p.0 e.0)
      ∙ ap (λ (l : List Reply). flat_map (replies_to pending) (said_call s) ++ l)
      (front_said pending ss e.1 a.1 p.1)
      ∙ sym (flat_map-append (replies_to pending) (said_call s) (flat_map said_call ss))

  module _ (reading : Reading) (events : List Event) (core : Core)
      (h : Chain (meaning_of log) reading (script_of log) (start (script_of log)) events core) where
    abbrev pending : Pending
    pending = pending_map core.replies

    answers : AllByRecursion (AnswersAsDirect3d log) core.replies
    answers = chain_answers log (lawful log) reading events core h

    noted : AllByRecursion (IsNoted (get pending)) core.replies
    noted =
        let so_far = says_so_far log reading events core h in
        replies_noted core.replies (distinct_front (flat_map said_call core.replies) so_far.0
        (subst Distinct so_far.1 (replying_once log (length log))))

    all_replied : flat_map (replies_to pending) (replying log (length log))
        ≡ replies_upto (reply_at log pending) (length log)
    all_replied =
        calls_replied pending (λ n finished there. pending_no_wait core.replies n finished answers
        (sym (pending_gets core.replies n) ∙ there)) (length log)

    pub chain_replies : core.ended ≡ true → flat_map (reply_said log) core.replies
        ≡ replies log (pending_map core.replies)
    chain_replies e =
        let tells = chain_says log reading events core h e in
        all_said pending core.replies tells.1 answers noted
        ∙ ap (λ (l : List ℕ). flat_map (replies_to pending) l ++ said.Finished (length log) ∷ []) tells.0
        ∙ ap (λ (l : List Reply). l ++ said.Finished (length log) ∷ []) all_replied

    -- the replies so far are a front of all
    pub chain_front : (more : List Reply)
        × (replies log (pending_map core.replies) ≡ flat_map (reply_said log) core.replies ++ more)
    chain_front = elim (cases_Bool core.ended) [
      | inl t ↦ ([], sym (chain_replies t) ∙ sym (append-nil (flat_map (reply_said log) core.replies)))
      | inr f ↦
          let so_far = says_so_far log reading events core h in
          let saids : List ℕ = flat_map said_call core.replies in
          let later : List Reply = flat_map (replies_to pending) so_far.0 in
          let end : List Reply = said.Finished (length log) ∷ [] in
          let front = front_said pending core.replies (not_ended log reading events core h f) answers noted in (
            later ++ end,
            ap (λ (l : List Reply). l ++ end) (sym all_replied
                ∙ ap (λ (l : List ℕ). flat_map (replies_to pending) l) so_far.1
                ∙ flat_map-append (replies_to pending) saids so_far.0)
                ∙ ap (λ (l : List Reply). (l ++ later) ++ end) (sym front)
                ∙ append_assoc (flat_map (reply_said log) core.replies) later end,
          )
    ]

  pub run_replies : (schedule : List ℕ) (core : Core) → IsRun (meaning_of log) (script_of log) schedule core
      → flat_map (reply_said log) core.replies ≡ replies log (pending_map core.replies)
  run_replies schedule core r =
      let free = run_free (meaning_of log) (script_of log) schedule core r in
      chain_replies Any_choices free.0 core free.1 (run_ended (meaning_of log) (script_of log) schedule core r)
