-- Numbers that do not fall along a list.
use Rattle.std.specs.Prelude.{ℕ, ◌≤◌, List, [], ◌∷◌, All}

-- n of an element is at most n of any later one
abbrev pub RisesBy : {X : Type 0} → (X → ℕ) → List X → Type 0
RisesBy n [] = Unit {0}
RisesBy {X} n (x ∷ xs) = All (λ (y : X). n x ≤ n y) xs × RisesBy n xs
