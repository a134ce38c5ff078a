-- What a plan has of each call.
use Rattle.std.proofs.Common.{◌≡◌, ℕ, zero, suc, ◌<◌, List, [], ◌∷◌, ◌++◌, length, Some, refl, sym, ap, ◌∙◌, arith, inl, inr}
use Rattle.std.specs.Prelude.{slice_get}
use Rattle.std.proofs.lemmas.Bool.{cases_lt}
use Rattle.std.proofs.lemmas.List.{length-append}
use Rattle.call_log.specs.Call.{Issued}
use Rattle.d3d_plan.specs.Planned.{planned, plan_of}

-- as many entries as calls
pub length-plan_of : (log : List Issued) (n : ℕ) → length (plan_of log n) ≡ n
unfolding plan_of
length-plan_of log zero = refl
length-plan_of log (suc n) = length-append (plan_of log n) (planned log (suc n) ∷ []) ∙ omega (arith, length-plan_of log n)

get_front : {X : Type 0} (xs ys : List X) (k : ℕ) → k < length xs → slice_get (xs ++ ys) k ≡ slice_get xs k
get_front [] ys k h = absurd (omega arith)
get_front (x ∷ xs) ys zero h = refl
get_front (x ∷ xs) ys (suc k) h = get_front xs ys k (omega arith)

get_last : {X : Type 0} (xs : List X) (y : X) → slice_get (xs ++ y ∷ []) (length xs) ≡ Some y
get_last [] y = refl
get_last (x ∷ xs) y = get_last xs y

-- entry k is what is planned of call k + 1
pub entry_of : (log : List Issued) (count k : ℕ) → k < count → slice_get (plan_of log count) k ≡ Some (planned log (suc k))
unfolding plan_of
entry_of log zero k h = absurd (omega arith)
entry_of log (suc n) k h = elim (cases_lt k n) [
  | inl earlier ↦ get_front (plan_of log n) (planned log (suc n) ∷ []) k (omega (arith, length-plan_of log n)) ∙ entry_of log n k earlier
  | inr last ↦
      let e : k ≡ n = omega arith in
      ap (slice_get (plan_of log n ++ planned log (suc n) ∷ [])) (e ∙ sym (length-plan_of log n))
      ∙ get_last (plan_of log n) (planned log (suc n))
      ∙ ap (λ (j : ℕ). Some (planned log (suc j))) (sym e)
]
