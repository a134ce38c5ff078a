-- What stands in a list of which one element was set.
use Rattle.std.proofs.Common.{◌≡◌, ◌≢◌, ℕ, zero, suc, ◌<◌, List, [], ◌∷◌, ◌++◌, length, Some, slice_get, refl, sym, ap, ◌∙◌, inl, inr, arith}
use Rattle.std.proofs.Math.ListN.{set}
use Rattle.std.proofs.lemmas.Bool.{cases_lt}
use Rattle.std.proofs.lemmas.List.{get_or-set_other, get_or-set_same, length-set}
use Rattle.std.proofs.lemmas.Option.{slice_get-get_or, slice_get_past}

pub get_set_same : {X : Type 0} (xs : List X) (n : ℕ) (x : X) → n < length xs → slice_get (set xs n x) n ≡ Some x
get_set_same xs n x l =
    let e = length-set xs n x in
    slice_get-get_or (set xs n x) n x (omega (arith, l, e)) ∙ ap (λ y. Some y) (get_or-set_same xs n x x l)

pub get_set_other : {X : Type 0} (xs : List X) (n k : ℕ) (x : X) → k ≢ n → slice_get (set xs n x) k ≡ slice_get xs k
get_set_other xs n k x ne =
    let e = length-set xs n x in
    elim (cases_lt k (length xs)) [
      | inl l ↦ slice_get-get_or (set xs n x) k x (omega (arith, l, e)) ∙ (ap (λ y. Some y) (get_or-set_other xs n k x x ne) ∙ sym (slice_get-get_or xs k x l))
      | inr ge ↦ slice_get_past (set xs n x) k (omega (arith, ge, e)) ∙ sym (slice_get_past xs k ge)
    ]

-- the last element
pub get_last : {X : Type 0} (xs : List X) (x : X) (n : ℕ) → n ≡ length xs → slice_get (xs ++ x ∷ []) n ≡ Some x
get_last [] x zero e = refl
get_last [] x (suc n) e = absurd (omega (arith, e))
get_last (y ∷ xs) x zero e = absurd (omega (arith, e))
get_last (y ∷ xs) x (suc n) e = get_last xs x n (omega (arith, e))
