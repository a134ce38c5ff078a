-- What a plan says of a call of a log, as the machine asks it.
use Rattle.std.proofs.Common.{◌≡◌, ℕ, zero, suc, ◌+◌, ◌-◌, ◌<◌, List, [], ◌∷◌, ◌++◌, length, Option, Some, refl, sym, ap, subst, ◌∙◌, arith}
use Rattle.std.specs.Prelude.{slice_get}
use Rattle.std.specs.Option.{option_map, option_to_list}
use Rattle.std.proofs.Math.Numerals.{add-one}
use Rattle.dx_types.specs.declared.refusal.Refusal.{Refusal}
use Rattle.dx_types.specs.declared.reply.Reply.{Reply}
use Rattle.call_log.specs.Call.{Issued}
use Rattle.call_log.specs.Grammar.{Frame, frame_no, issued, calls_of}
use Rattle.d3d_model.specs.D3dState.{Objects, Memory, Shader}
use Rattle.d3d_model.specs.InOrder.{after_calls, before_call, call_at}
use Rattle.d3d_model.specs.ReplyText.{replies_upto}
use Rattle.d3d_checks.specs.Accepted.{is_draw}
use Rattle.d3d_plan.specs.Planned.{Planned, plan_of, shader_by, shader_unless, verdict_by}
use Rattle.d3d_plan.proofs.Entries.{entry_of}
use Rattle.d3d_plan.specs.Ends.{IsPlayable}
use Rattle.d3d_ref.specs.Stands.{Stands, Judged, IsCreated}

some_back : {X : Type 0} (x y : X) → Some x ≡ Some y → x ≡ y
some_back x y e = cc

-- a call of a log is issued by a record
record Framed (frames : List Frame) (i : ℕ) (c : Issued) : Type 0 where
  frame : Frame
  found : frame_no frames (suc i) ≡ Some frame
  same : issued frame ≡ c

framed : (frames : List Frame) (i : ℕ) (c : Issued) → call_at (calls_of frames) (suc i) ≡ Some c → Framed frames i c
framed [] i c e = absurd (cc)
framed (f ∷ frames) zero c e = record { frame = f; found = refl; same = some_back (issued f) c e }
framed (f ∷ frames) (suc i) c e = let h = framed frames i c e in record { frame = h.frame; found = h.found; same = h.same }

abbrev pub verdict_of : Planned → Option Refusal
verdict_of p = p.verdict

-- the machine may play call i + 1 by its verdict
pub judged : (frames : List Frame) (plan : List Planned) (i : ℕ) (refusal : Option Refusal) → plan ≡ plan_of (calls_of frames) (length frames) → i < length frames → IsPlayable frames
    → Some refusal ≡ option_map verdict_of (slice_get plan (i + 1 - 1)) → Judged (calls_of frames) (i + 1) refusal
judged frames plan i refusal same h playable said =
    let log = calls_of frames in
    let place : i + 1 - 1 ≡ i = omega arith in
    let is : refusal ≡ verdict_by (after_calls log i) (slice_get log i) =
    some_back refusal _ (said ∙ ap (λ (k : ℕ). option_map verdict_of (slice_get plan k)) place ∙ ap (λ (p : List Planned). option_map verdict_of (slice_get p i)) same ∙ ap (option_map verdict_of) (entry_of log (length frames) i h)) in
    subst (λ (n : ℕ). Judged log n refusal) (sym (add-one i)) (record {
      no_draw = λ c there. let f = framed frames i c there in ap (λ (d : Issued). is_draw d.call) (sym f.same) ∙ playable (suc i) f.frame f.found;
      verdict = λ c there. is ∙ ap (verdict_by (after_calls log i)) there;
    })

abbrev pub shader_of : Planned → Option Shader
shader_of p = p.shader

-- the shader that is planned of call i + 1 is the one that it creates
pub created : (frames : List Frame) (plan : List Planned) (i : ℕ) (refusal : Option Refusal) (shader : Option Shader) → plan ≡ plan_of (calls_of frames) (length frames) → i < length frames
    → Judged (calls_of frames) (i + 1) refusal → Some shader ≡ option_map shader_of (slice_get plan (i + 1 - 1)) → IsCreated (calls_of frames) (i + 1) refusal shader
created frames plan i refusal shader same h j said =
    let log = calls_of frames in
    let place : i + 1 - 1 ≡ i = omega arith in
    let is : shader ≡ shader_by (suc i) (after_calls log i) (slice_get log i) =
    some_back shader _ (said ∙ ap (λ (k : ℕ). option_map shader_of (slice_get plan k)) place ∙ ap (λ (p : List Planned). option_map shader_of (slice_get p i)) same ∙ ap (option_map shader_of) (entry_of log (length frames) i h)) in
    let own : Judged log (suc i) refusal = subst (λ (n : ℕ). Judged log n refusal) (add-one i) j in
    subst (λ (n : ℕ). IsCreated log n refusal shader) (sym (add-one i))
    (λ c there none. is ∙ ap (shader_by (suc i) (after_calls log i)) there ∙ ap (shader_unless (suc i) c) (sym (own.verdict c there) ∙ none))

-- ---- the loop over the calls

pub next_stands : (log : List Issued) (i : ℕ) (o : Objects) (m : Memory) → Stands o m (after_calls log i) → Stands o m (before_call log (i + 1))
next_stands log i o m h = subst (λ (n : ℕ). Stands o m (before_call log n)) (sym (add-one i)) h

pub next_said : (say : ℕ → Option Reply) (i : ℕ) (before after : List Reply) (r : Option Reply) → before ≡ replies_upto say i → r ≡ say (i + 1) → after ≡ before ++ option_to_list r → after ≡ replies_upto say (i + 1)
unfolding replies_upto
next_said say i before after r old new is =
    subst (λ (n : ℕ). after ≡ replies_upto say n) (sym (add-one i))
    (is ∙ ap (λ (l : List Reply). l ++ option_to_list r) old ∙ ap (λ (o : Option Reply). replies_upto say i ++ option_to_list o) (new ∙ ap say (add-one i)))
