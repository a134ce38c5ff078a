-- What the core replies, in every state that steps reach, is what Direct3D says; and what a host read gives, Direct3D
-- answers.
use Rattle.std.proofs.Common.{◌≡◌, ℕ, zero, suc, ◌+◌, ◌-◌, ◌<◌, ◌≤◌, cond, true, List, [], ◌∷◌, map, Option, Some}
use Rattle.std.proofs.Common.{refl, sym, ap, ◌∙◌, arith}
use Rattle.std.specs.Prelude.{slice_get}
use Rattle.std.specs.List.{AllByRecursion}
use Rattle.std.proofs.lemmas.Bool.{lt-ltb}
use Rattle.dx_types.specs.declared.range.Range.{Range}
use Rattle.dx_types.specs.declared.reply.Reply.TheVariants as said
use Rattle.vk_types.specs.declared.op.VkOp.TheVariants as op
use Rattle.vk_types.specs.Allowed.{IsAllowed, outcome}
use Rattle.base_lemmas.specs.Lists.{numbers_from}
use Rattle.vk_types.specs.Memory.{Memory, byte_of}
use Rattle.call_log.specs.Call.{Issued}
use Rattle.d3d_model.specs.ReplyText.{none_pending, reply_at}
use Rattle.core_model.specs.Script.{Ask, Bytes, Count, Constant, Turn, InOrder, at_start, in_order}
use Rattle.core_model.specs.CoreState.{Core, start, Said, Bytes_said, Value_said, Still_said, Refused_said, End_said}
use Rattle.core_model.specs.Readings.{Reading, Any_choices}
use Rattle.core_model.specs.CoreStep.{Event, Chain}
use Rattle.core_model.specs.Runs.{IsRun}
use Rattle.core_model.specs.Lawful.{IsLawful}
use Rattle.core_model.specs.Invariant.{IsAsked, answered, IsRight}
use Rattle.core_model.specs.HostReads.{whole_listing, bytes_in_order, ReadsAreReplies}
use Rattle.core_model.proofs.Runs.Choices.{run_free}
use Rattle.core_model.proofs.Runs.RunsKeepAll.{reached_kept}
use Rattle.core_model.proofs.Runs.HostAnswers.{reached_answered, reads_are_replies}
use Rattle.log_script.specs.Answered.{AnswersAsDirect3d}
use Rattle.log_script.specs.LogScript.{meaning_of, script_of}
use Rattle.log_script.proofs.Meant.AgreeingReplies.{answered_at}
use Rattle.log_script.proofs.Promised.PendingReplies.{MayPend, reached_may}
use Rattle.log_script.proofs.Promised.AnsweredTurns.{refused_tells, asked_tells}

-- ---- the bytes of a range

byte_inside : (m : Memory) (r : Range) (k : ℕ) → r.from + k < r.to → byte_of m r k ≡ m r.block (r.from + k)
byte_inside m r k h = ap (λ b. cond b (m r.block (r.from + k)) 0) (lt-ltb (r.from + k) r.to h)

bytes_inside : (m : Memory) (r : Range) (k n : ℕ) → n ≤ r.to - (r.from + k)
    → map (byte_of m r) (numbers_from k n) ≡ map (m r.block) (numbers_from (r.from + k) n)
bytes_inside m r k zero h = refl
bytes_inside m r k (suc n) h =
    let next : r.from + suc k ≡ suc (r.from + k) = omega arith in
    ap (λ b. b ∷ map (byte_of m r) (numbers_from (suc k) n)) (byte_inside m r k (omega (arith, h)))
    ∙ ap (λ l. m r.block (r.from + k) ∷ l) (bytes_inside m r (suc k) n (omega (arith, h))
    ∙ ap (λ j. map (m r.block) (numbers_from j n)) next)

-- from its first byte on, or from its block's
range_bytes : (m : Memory) (r : Range) → map (byte_of m r) (numbers_from 0 (r.to - r.from))
    ≡ map (m r.block) (numbers_from r.from (r.to - r.from))
range_bytes m r =
    let first : r.from + 0 ≡ r.from = omega arith in
    bytes_inside m r 0 (r.to - r.from) (omega arith) ∙ ap (λ j. map (m r.block) (numbers_from j (r.to - r.from))) first

-- ---- replies

module _ (log : List Issued) where
  abbrev before : List Turn → InOrder
  before front = in_order (meaning_of log) (script_of log) front at_start

  bytes_right : (call : ℕ) (source : Range) (used : Option ℕ) (at : IsAsked (script_of log) call (Bytes source) used)
      → reply_at log none_pending call
      ≡ Some (said.Bytes call (bytes_in_order (meaning_of log) (script_of log) at.front source))
  bytes_right call source used at =
      answered_at log at.front call (Bytes source) used at.may_pend at.back at.here
      ∙ ap (λ (l : List ℕ). Some (said.Bytes call l)) (range_bytes (before at.front).bytes source)

  bytes_said : (call : ℕ) (bytes : List ℕ) (ask : Ask) (used : Option ℕ)
      (at : IsAsked (script_of log) call ask used) → answered ask (before at.front) (Bytes_said call bytes)
      → AnswersAsDirect3d log (Bytes_said call bytes)
  bytes_said call bytes (Bytes source) used at h = bytes_right call source used at
      ∙ ap (λ (l : List ℕ). Some (said.Bytes call l)) (sym h)
  bytes_said call bytes (Count query) used at h = absurd h
  bytes_said call bytes (Constant value) used at h = absurd h

  value_said : (call n : ℕ) (ask : Ask) (used : Option ℕ) (at : IsAsked (script_of log) call ask used)
      → answered ask (before at.front) (Value_said call n) → AnswersAsDirect3d log (Value_said call n)
  value_said call n (Bytes source) used at h = absurd h
  value_said call n (Count query) used at h = answered_at log at.front call (Count query) used at.may_pend at.back
      at.here ∙ ap (λ (v : ℕ). Some (said.Value call v)) (sym h)
  value_said call n (Constant value) used at h = answered_at log at.front call (Constant value) used at.may_pend
      at.back at.here ∙ ap (λ (v : ℕ). Some (said.Value call v)) (sym h)

  said_right : (s : Said) → IsRight (meaning_of log) (script_of log) s → MayPend (script_of log) s
      → AnswersAsDirect3d log s
  said_right (Bytes_said call bytes) h p = bytes_said call bytes h.0 h.1 h.2 h.3
  said_right (Value_said call value) h p = value_said call value h.0 h.1 h.2 h.3
  said_right (Still_said call used finished) h p =
      let tells = asked_tells log p.1 call p.0 (Some used) true p.2 p.3 in
      (tells.0, h.2, tells.1 refl)
  said_right (Refused_said call) h p = refused_tells log h.0 call h.1 h.2
  said_right End_said h p = tt

  all_right : (ss : List Said) → AllByRecursion (IsRight (meaning_of log) (script_of log)) ss
      → AllByRecursion (MayPend (script_of log)) ss → AllByRecursion (AnswersAsDirect3d log) ss
  all_right [] h p = tt
  all_right (s ∷ ss) h p = (said_right s h.0 p.0, all_right ss h.1 p.1)

  module _ (lawful : IsLawful (meaning_of log) (script_of log)) where
    pub chain_answers : (reading : Reading) (events : List Event) (core : Core)
        → Chain (meaning_of log) reading (script_of log) (start (script_of log)) events core
        → AllByRecursion (AnswersAsDirect3d log) core.replies
    chain_answers reading events core h =
        all_right core.replies (reached_kept (meaning_of log) reading (script_of log) lawful events core
        h).good.replies (reached_may (meaning_of log) reading (script_of log) lawful events core h)

    pub run_answers : (schedule : List ℕ) (core : Core) → IsRun (meaning_of log) (script_of log) schedule core
        → AllByRecursion (AnswersAsDirect3d log) core.replies
    run_answers schedule core r =
        let f = run_free (meaning_of log) (script_of log) schedule core r in
        chain_answers Any_choices f.0 core f.1

    -- ---- host reads

    pub read_answers : (reading : Reading) (events : List Event) (core : Core)
        → Chain (meaning_of log) reading (script_of log) (start (script_of log)) events core
        → (call : ℕ) (r : Range) (place : ℕ) → slice_get (whole_listing core) place ≡ Some (op.HostRead r call)
        → (order : List ℕ) → IsAllowed (whole_listing core) order
        → reply_at log none_pending call
        ≡ Some (said.Bytes call
        (map ((outcome (meaning_of log) core.contents (whole_listing core) order).answers place)
        (numbers_from 0 (r.to - r.from))))
    read_answers reading events core h call r place e order allowed =
        let kept = reached_kept (meaning_of log) reading (script_of log) lawful events core h in
        let reads : ReadsAreReplies (meaning_of log) (script_of log) core =
        reads_are_replies (meaning_of log) reading (script_of log) lawful core kept
        (reached_answered (meaning_of log) reading (script_of log) lawful events core h) in
        let x = reads call r place e in
        bytes_right call x.0 (Some x.1) x.2 ∙ ap (λ (l : List ℕ). Some (said.Bytes call l))
        (sym (x.5.gives order allowed))
