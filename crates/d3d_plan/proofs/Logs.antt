-- One more call of a log.
use Rattle.std.proofs.Common.{◌≡◌, ℕ, suc, ◌+◌, List, [], ◌∷◌, ◌++◌, Option, Some, sym, ap, subst, add-one}
use Rattle.call_log.specs.Call.{Issued}
use Rattle.d3d_model.specs.InOrder.{after_call, after_calls, call_at, unless_refused, verdict_in}
use Rattle.d3d_plan.specs.Planned.{place_behind, plan_of, planned_by}

pub state_next : (log : List Issued) (i : ℕ) (x : Issued) → call_at log (i + 1) ≡ Some x
    → after_calls log (i + 1) ≡ unless_refused (i + 1) (after_calls log i) x (verdict_in (after_calls log i) x)
unfolding after_calls
state_next log i x is =
    subst (λ (n : ℕ). call_at log n ≡ Some x → after_calls log n ≡ unless_refused n (after_calls log i) x (verdict_in (after_calls log i) x)) (sym (add-one i))
    (λ e. ap (after_call (suc i) (after_calls log i)) e) is

pub plan_next : (log : List Issued) (i : ℕ) (x : Issued) → call_at log (i + 1) ≡ Some x
    → plan_of log (i + 1) ≡ plan_of log i ++ planned_by (i + 1) (place_behind log i) (after_calls log i) (Some x) ∷ []
unfolding plan_of
plan_next log i x is =
    subst (λ (n : ℕ). call_at log n ≡ Some x → plan_of log n ≡ plan_of log i ++ planned_by n (place_behind log i) (after_calls log i) (Some x) ∷ []) (sym (add-one i))
    (λ e. ap (λ (o : Option Issued). plan_of log i ++ planned_by (suc i) (place_behind log i) (after_calls log i) o ∷ []) e) is
