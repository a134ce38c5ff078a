-- The generated log has no draw, so it is planned.
use Rattle.std.proofs.Common.{◌≡◌, ℕ, zero, suc, Bool, false, List, [], ◌∷◌, Some, refl, sym, ap, ◌∙◌}
use Rattle.std.specs.Prelude.{map}
use Rattle.std.specs.List.{AllByRecursion}
use Rattle.call_log.specs.Call.{Call, Issued}
use Rattle.call_log.specs.Grammar.{Frame, issued}
use Rattle.call_log.specs.Put.{frame_of}
use Rattle.call_log.proofs.ReadBack.{call_back}
use Rattle.d3d_checks.specs.Accepted.{is_draw}
use Rattle.d3d_plan.specs.declared.end.PlanEnd.TheVariants.{Unsupported}
use Rattle.d3d_plan.specs.Ends.{EndsAt, IsFirst, IsPlayable, Never, is_draw_record}
use Rattle.histogram_log.specs.Histogram.{histogram}
use Rattle.histogram_log.specs.Logged.{frames, IsSpelt, AreSpelt}
use Rattle.histogram_log.proofs.Calls.{all_calls, all_round, histogram_spelt}

some_back : {X : Type 0} (x y : X) → Some x ≡ Some y → x ≡ y
some_back x y e = cc

-- none of some records
never : (test : Frame → Bool) (fs : List Frame) → AllByRecursion (λ (f : Frame). test f ≡ false) fs → Never test fs
never test fs h zero f e = absurd cc
never test [] h (suc n) f e = absurd cc
never test (x ∷ fs) h (suc zero) f e = ap test (sym (some_back x f e)) ∙ h.0
never test (x ∷ fs) h (suc (suc n)) f e = never test fs h.1 (suc n) f e

issued_back : (c : Call) → IsSpelt c → issued (frame_of 0 c) ≡ record { context = 0; call = c }
issued_back c h = λ i. record { context = 0; call = call_back c h.puttable h.words i }

all_records : (test : Issued → Bool) (cs : List Call) → AreSpelt cs
    → AllByRecursion (λ c. test (record { context = 0; call = c }) ≡ false) cs
    → AllByRecursion (λ f. test (issued f) ≡ false) (map (frame_of 0) cs)
all_records test [] h k = tt
all_records test (c ∷ cs) h k = (ap test (issued_back c h.0) ∙ k.0, all_records test cs h.1 k.1)

abbrev NoDraw : Call → Type 0
NoDraw c = is_draw c ≡ false

no_draws : (n : ℕ) → AllByRecursion NoDraw (histogram n)
no_draws n =
    all_calls NoDraw (refl, (refl, (refl, (refl, (refl, (refl, (refl, (refl, (refl, (refl, (refl, tt)))))))))))
    (all_round NoDraw (λ i. refl) (λ i. refl) refl (refl, (refl, tt))) (refl, (refl, tt)) n

pub playable : (n : ℕ) → IsPlayable (frames (histogram n))
playable n =
    never is_draw_record (frames (histogram n))
    (all_records (λ (i : Issued). is_draw i.call) (histogram n) (histogram_spelt n) (no_draws n))

not_first : (test : Frame → Bool) (fs : List Frame) (n kind : ℕ) → Never test fs → IsFirst test fs n kind → ⊥
not_first test fs n kind none first =
    let at = first.found in
    let e = sym (none n at.0 at.1) ∙ at.2 in
    absurd cc

-- what can be planned ends for want of memory alone
pub not_unsupported : (fs : List Frame) (n kind : ℕ) → IsPlayable fs → EndsAt fs (Unsupported n kind) → ⊥
not_unsupported fs n kind h ends = not_first is_draw_record fs n kind h ends
