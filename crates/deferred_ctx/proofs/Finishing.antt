-- Which calls of a log finish a list, and which calls it has, by the plan.
use Rattle.std.proofs.Common.{◌≡◌, ℕ, zero, suc, ◌-◌, ◌<◌, ◌≤◌, Bool, true, List, [], ◌∷◌, ◌++◌, length, map, Option, Some, sym, ap, ◌∙◌, arith}
use Rattle.std.specs.Prelude.{slice_get}
use Rattle.std.specs.Option.{option_map}
use Rattle.std.proofs.lemmas.List.{length-map}
use Rattle.dx_types.specs.declared.refusal.Refusal.{Refusal}
use Rattle.call_log.specs.Call.{Issued}
use Rattle.call_log.specs.Grammar.{Frame, calls_of, frame_no, issued}
use Rattle.d3d_model.specs.InOrder.{State, before_call, call_at}
use Rattle.d3d_model.specs.Uses.{segment}
use Rattle.d3d_plan.specs.Planned.{Planned, numbers, plan_of, planned, verdict_by}
use Rattle.d3d_plan.proofs.Entries.{entry_of, length-plan_of}
use Rattle.deferred_ctx.specs.Lists.{finishes, finishes_by, finishes_unless}

some_back : {X : Type 0} (x y : X) → Some x ≡ Some y → x ≡ y
some_back x y e = cc

issued_in : (frames : List Frame) (n : ℕ) (f : Frame) → Some f ≡ slice_get frames n → slice_get (calls_of frames) n ≡ Some (issued f)
issued_in [] n f e = absurd cc
issued_in (g ∷ frames) zero f e = ap (λ (h : Frame). Some (issued h)) (sym (some_back f g e))
issued_in (g ∷ frames) (suc n) f e = issued_in frames n f e

-- call n is issued by record n
issued_by : (frames : List Frame) (n : ℕ) (f : Frame) → Some f ≡ frame_no frames n → call_at (calls_of frames) n ≡ Some (issued f)
issued_by frames zero f e = absurd cc
issued_by frames (suc n) f e = issued_in frames n f e

-- what is planned of call n
planned_at : (frames : List Frame) (plan : List Planned) (n : ℕ) → plan ≡ plan_of (calls_of frames) (length frames) → 1 ≤ n → n ≤ length frames
    → slice_get plan (n - 1) ≡ Some (planned (calls_of frames) n)
planned_at frames plan zero same first last = absurd (omega (arith, first))
planned_at frames plan (suc i) same first last =
    let place : suc i - 1 ≡ i = omega arith in
    ap (λ (p : List Planned). slice_get p (suc i - 1)) same
    ∙ ap (slice_get (plan_of (calls_of frames) (length frames))) place
    ∙ entry_of (calls_of frames) (length frames) i (omega (arith, last))

-- the plan has as many calls as the log
pub as_long : (frames : List Frame) (plan : List Planned) → plan ≡ plan_of (calls_of frames) (length frames) → length plan ≡ length frames
as_long frames plan same = ap (λ (p : List Planned). length p) same ∙ length-plan_of (calls_of frames) (length frames)

-- by its verdict call n finishes a list, or doesn't
pub finishing : (frames : List Frame) (plan : List Planned) (n : ℕ) (f : Frame) (refusal : Option Refusal) → plan ≡ plan_of (calls_of frames) (length frames) → 1 ≤ n
    → n ≤ length frames → Some f ≡ frame_no frames n → Some refusal ≡ option_map (λ (p : Planned). p.verdict) (slice_get plan (n - 1))
    → finishes_unless (issued f).call refusal ≡ finishes (calls_of frames) n
finishing frames plan n f refusal same first last there said =
    let log = calls_of frames in
    let at = issued_by frames n f there in
    let is : refusal ≡ verdict_by (before_call log n) (call_at log n) =
    some_back refusal _ (said ∙ ap (option_map (λ (p : Planned). p.verdict)) (planned_at frames plan n same first last)) in
    ap (finishes_unless (issued f).call) (is ∙ ap (verdict_by (before_call log n)) at) ∙ sym (ap (finishes_by (before_call log n)) at)

-- a call that finishes a list is one of the log's
within : (xs : List Issued) (i : ℕ) (s : State) → finishes_by s (slice_get xs i) ≡ true → i < length xs
within [] i s e = absurd cc
within (x ∷ xs) zero s e = omega arith
within (x ∷ xs) (suc i) s e = let h = within xs i s e in omega (arith, h)

pub in_log : (frames : List Frame) (n : ℕ) → finishes (calls_of frames) n ≡ true → (1 ≤ n) × (n ≤ length frames)
in_log frames zero e = absurd cc
in_log frames (suc i) e =
    let h = within (calls_of frames) i (before_call (calls_of frames) (suc i)) e in
    let long = length-map frames issued in
    (omega arith, omega (arith, h, long))

-- the calls of the list that call n finishes
pub calls_are : (frames : List Frame) (plan : List Planned) (n : ℕ) (calls : List ℕ) → plan ≡ plan_of (calls_of frames) (length frames) → finishes (calls_of frames) n ≡ true
    → Some calls ≡ option_map (λ (p : Planned). p.calls) (slice_get plan (n - 1)) → calls ≡ numbers (segment (calls_of frames) n)
calls_are frames plan n calls same finished said =
    let p = in_log frames n finished in
    some_back calls _ (said ∙ ap (option_map (λ (p : Planned). p.calls)) (planned_at frames plan n same p.0 p.1))
