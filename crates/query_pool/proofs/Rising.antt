-- A list whose numbers do not fall goes on.
use Rattle.std.proofs.Common.{ℕ, ◌≤◌, zero, suc, List, [], ◌∷◌, ◌++◌, All, arith}
use Rattle.query_pool.specs.Rising.{RisesBy}

tail_all : {X : Type 0} → (P : X → Type 0) (x : X) (xs : List X) → All P (x ∷ xs) → All P xs
tail_all P x xs all k d h = all (suc k) d (omega arith)

snoc_all : {X : Type 0} → (P : X → Type 0) (xs : List X) (y : X) → All P xs → P y → All P (xs ++ y ∷ [])
snoc_all P [] y all here zero d h = here
snoc_all P [] y all here (suc k) d h = absurd (omega arith)
snoc_all P (x ∷ xs) y all here zero d h = all zero d (omega arith)
snoc_all P (x ∷ xs) y all here (suc k) d h = snoc_all P xs y (tail_all P x xs all) here k d (omega arith)

-- an element of the greatest number comes last
pub snoc_rises : {X : Type 0} → (n : X → ℕ) (xs : List X) (y : X) → RisesBy n xs → All (λ (x : X). n x ≤ n y) xs → RisesBy n (xs ++ y ∷ [])
snoc_rises n [] y is below = (λ k d h. absurd (omega arith), tt)
snoc_rises {X} n (x ∷ xs) y is below =
    (snoc_all (λ (z : X). n x ≤ n z) xs y is.0 (below zero x (omega arith)), snoc_rises n xs y is.1 (tail_all (λ (z : X). n z ≤ n y) x xs below))
