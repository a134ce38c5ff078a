-- What a plan says of a call of a log.
use Rattle.std.proofs.Common.{◌≡◌, ℕ, zero, suc, ◌-◌, ◌≤◌, true, false, ◌&&◌, List, length, Option, Some, None, refl, sym, ap, subst, ◌∙◌, arith, add-one}
use Rattle.std.specs.Prelude.{is_none, slice_get}
use Rattle.std.specs.Option.{option_map}
use Rattle.dx_types.specs.declared.refusal.Refusal.{Refusal}
use Rattle.call_log.specs.Call as calls
use Rattle.call_log.specs.Call.{Call, Issued}
use Rattle.call_log.specs.Grammar.{Frame, calls_of}
use Rattle.d3d_model.specs.InOrder.{State, before_call, call_at, verdict_in}
use Rattle.d3d_model.specs.ReplyText.{none_pending, answer, answer_or_still, reply_unless, reply_to, reply_at}
use Rattle.d3d_model.specs.D3dState.{Shader}
use Rattle.base_lemmas.proofs.Maps.{get-empty}
use Rattle.d3d_plan.specs.Planned.{Planned}
use Rattle.d3d_ref.specs.Stands.{Judged, IsCreated}
use Rattle.d3d_ref.proofs.Judgements.{created, judged, shader_of, verdict_of}
use Rattle.d3d_plan.proofs.Entries.{length-plan_of}
use Rattle.core_machine.specs.Commands.{writes, command_in, makes_command}
use Rattle.core_machine.specs.Keeping.{IsPlanned}

pub plan_length : (frames : List Frame) (plan : List Planned) → IsPlanned frames plan → length plan ≡ length frames
plan_length frames plan p = ap (λ (l : List Planned). length l) p.planned ∙ length-plan_of (calls_of frames) (length frames)

-- call n may be played by its verdict
pub judged_at : (frames : List Frame) (plan : List Planned) (n : ℕ) (refusal : Option Refusal) → IsPlanned frames plan → 1 ≤ n → n ≤ length frames
    → Some refusal ≡ option_map verdict_of (slice_get plan (n - 1)) → Judged (calls_of frames) n refusal
judged_at frames plan zero refusal p first last said = absurd (omega arith)
judged_at frames plan (suc i) refusal p first last said =
    subst (λ (m : ℕ). Judged (calls_of frames) m refusal) (add-one i)
    (judged frames plan i refusal p.planned (omega arith) p.playable
    (subst (λ (m : ℕ). Some refusal ≡ option_map verdict_of (slice_get plan (m - 1))) (sym (add-one i)) said))

-- the shader that is planned of call n is the one that it creates
pub created_at : (frames : List Frame) (plan : List Planned) (n : ℕ) (refusal : Option Refusal) (shader : Option Shader) → IsPlanned frames plan → 1 ≤ n → n ≤ length frames
    → Judged (calls_of frames) n refusal → Some shader ≡ option_map shader_of (slice_get plan (n - 1)) → IsCreated (calls_of frames) n refusal shader
created_at frames plan zero refusal shader p first last j said = absurd (omega arith)
created_at frames plan (suc i) refusal shader p first last j said =
    subst (λ (m : ℕ). IsCreated (calls_of frames) m refusal shader) (add-one i)
    (created frames plan i refusal shader p.planned (omega arith) (subst (λ (m : ℕ). Judged (calls_of frames) m refusal) (sym (add-one i)) j)
    (subst (λ (m : ℕ). Some shader ≡ option_map shader_of (slice_get plan (m - 1))) (sym (add-one i)) said))

-- ---- commands

pub no_command : (log : List Issued) (n : ℕ) → call_at log n ≡ None → false ≡ makes_command log n
no_command log n none = sym (ap (command_in (before_call log n)) none)

pub is_command : (log : List Issued) (n : ℕ) (i : Issued) (refusal : Option Refusal) → call_at log n ≡ Some i → Judged log n refusal → is_none refusal && writes i.call ≡ makes_command log n
is_command log n i refusal there j =
    ap (λ (r : Option Refusal). is_none r && writes i.call) (j.verdict i there) ∙ sym (ap (command_in (before_call log n)) there)

silent_call : (n : ℕ) (s : State) (c : Call) → writes c ≡ true → answer n s c ≡ None
silent_call n s (calls.CopyRegion target target_offset source source_offset len) e = refl
silent_call n s (calls.Copy target source) e = refl
silent_call n s (calls.Update res offset bytes) e = refl
silent_call n s (calls.ClearUav view v0 v1 v2 v3) e = refl
silent_call n s (calls.MapWrite res mode offset bytes) e = refl
silent_call n s _ e = absurd cc

silent_unless : (n : ℕ) (s : State) (c : Call) (v : Option Refusal) → is_none v && writes c ≡ true → reply_unless none_pending n s c v ≡ None
silent_unless n s c None e = ap (answer_or_still n s c) (get-empty ℕ n) ∙ silent_call n s c e
silent_unless n s c (Some why) e = absurd cc

silent_in : (n : ℕ) (s : State) (o : Option Issued) → command_in s o ≡ true → reply_to none_pending n s o ≡ None
silent_in n s None e = refl
silent_in n s (Some i) e = silent_unless n s i.call (verdict_in s i) e

-- nothing is said of a command
pub silent : (log : List Issued) (n : ℕ) → makes_command log n ≡ true → reply_at log none_pending n ≡ None
silent log n e = silent_in n (before_call log n) (call_at log n) e
