-- One call of a log: the state after it, and what is said of it.
use Rattle.std.proofs.Common.{◌≡◌, ℕ, zero, suc, false, not, List, Option, Some, None, refl, sym, ap, ◌∙◌}
use Rattle.dx_types.specs.declared.refusal.Refusal.{Refusal}
use Rattle.dx_types.specs.declared.reply.Reply.{Reply}
use Rattle.dx_types.specs.declared.reply.Reply.TheVariants as said
use Rattle.call_log.specs.Call.{Issued}
use Rattle.d3d_model.specs.D3dState.{Objects, Memory}
use Rattle.d3d_model.specs.Past.{Past}
use Rattle.d3d_model.specs.Effect.{objects_after}
use Rattle.d3d_model.specs.Memory.{memory_after}
use Rattle.d3d_model.specs.Verdict.{verdict}
use Rattle.d3d_model.specs.InOrder.{State, accepted, unless_refused, verdict_in, after_call, after_calls, before_call, call_at}
use Rattle.d3d_model.specs.ReplyText.{none_pending, answer, answer_or_still, reply_unless, reply_to, reply_at}
use Rattle.base_lemmas.proofs.Maps.{get-empty}
use Rattle.d3d_checks.specs.Accepted.{Accepted, is_draw}
use Rattle.d3d_memory.specs.Meeting.{met_by}
use Rattle.d3d_ref.specs.Stands.{Stands}

-- ---- no call

state_stays : (log : List Issued) (n : ℕ) → call_at log n ≡ None → after_calls log n ≡ before_call log n
unfolding after_calls
state_stays log zero none = refl
state_stays log (suc n) none = ap (after_call (suc n) (after_calls log n)) none

stands_at : (o : Objects) (m : Memory) (s t : State) → t ≡ s → Stands o m s → Stands o m t
stands_at o m s t e h = record { objects = h.objects ∙ ap (λ (r : State). r.objects) (sym e); memory = h.memory ∙ ap (λ (r : State). r.memory) (sym e) }

pub stands_none : (log : List Issued) (n : ℕ) (o : Objects) (m : Memory) → call_at log n ≡ None → Stands o m (before_call log n) → Stands o m (after_calls log n)
stands_none log n o m none h = stands_at o m (before_call log n) (after_calls log n) (state_stays log n none) h

pub no_reply : (log : List Issued) (n : ℕ) → call_at log n ≡ None → None ≡ reply_at log none_pending n
no_reply log n none = sym (ap (reply_to none_pending n (before_call log n)) none)

-- ---- a call, by its verdict

step : (log : List Issued) (n : ℕ) (i : Issued) → call_at log n ≡ Some i → after_calls log n ≡ unless_refused n (before_call log n) i (verdict_in (before_call log n) i)
unfolding after_calls
step log zero i there = absurd cc
step log (suc n) i there = ap (after_call (suc n) (after_calls log n)) there

pub stands_refused : (log : List Issued) (n : ℕ) (i : Issued) (why : Refusal) (o : Objects) (m : Memory) → call_at log n ≡ Some i → Some why ≡ verdict_in (before_call log n) i
    → Stands o m (before_call log n) → Stands o m (after_calls log n)
stands_refused log n i why o m there v h =
    stands_at o m (before_call log n) (after_calls log n) (step log n i there ∙ ap (unless_refused n (before_call log n) i) (sym v)) h

pub reply_refused : (log : List Issued) (n : ℕ) (i : Issued) (why : Refusal) → call_at log n ≡ Some i → Some why ≡ verdict_in (before_call log n) i → Some (said.Refused n why) ≡ reply_at log none_pending n
reply_refused log n i why there v =
    sym (ap (reply_to none_pending n (before_call log n)) there ∙ ap (reply_unless none_pending n (before_call log n) i.call) (sym v))

-- ---- an accepted call

pub is_accepted : (s : State) (i : Issued) (o : Objects) (m : Memory) → Stands o m s → is_draw i.call ≡ false → None ≡ verdict_in s i → Accepted o i.context i.call
is_accepted s i o m h no_draw v = record {
  built = ap not no_draw;
  past = s.past;
  passes = ap (λ (p : Objects). verdict p s.past i) h.objects ∙ sym v;
}

pub stands_accepted : (log : List Issued) (n : ℕ) (i : Issued) (o o' : Objects) (m m' : Memory) → call_at log n ≡ Some i → None ≡ verdict_in (before_call log n) i
    → Stands o m (before_call log n) → o' ≡ objects_after n o i.context i.call → m' ≡ memory_after n o m i.context i.call → Stands o' m' (after_calls log n)
stands_accepted log n i o o' m m' there v h eo em =
    let s = before_call log n in
    let after : after_calls log n ≡ accepted n s i.context i.call = step log n i there ∙ ap (unless_refused n s i) (sym v) in
    stands_at o' m' (accepted n s i.context i.call) (after_calls log n) after (record {
      objects = eo ∙ ap (λ (p : Objects). objects_after n p i.context i.call) h.objects;
      memory = em ∙ ap (λ (p : Objects). memory_after n p m i.context i.call) h.objects ∙ ap (λ (k : Memory). memory_after n s.objects k i.context i.call) h.memory;
    })

pub reply_accepted : (log : List Issued) (n : ℕ) (i : Issued) (o : Objects) (m : Memory) (r : Option Reply) → call_at log n ≡ Some i → None ≡ verdict_in (before_call log n) i
    → Stands o m (before_call log n) → ((past : Past) → r ≡ answer n (met_by o m past) i.call) → r ≡ reply_at log none_pending n
reply_accepted log n i o m r there v h is =
    let s = before_call log n in
    is s.past
    ∙ ap (λ (p : Objects). answer n (met_by p m s.past) i.call) h.objects
    ∙ ap (λ (k : Memory). answer n (met_by s.objects k s.past) i.call) h.memory
    ∙ sym (ap (answer_or_still n s i.call) (get-empty ℕ n))
    ∙ ap (reply_unless none_pending n s i.call) v
    ∙ sym (ap (reply_to none_pending n s) there)
