-- The four components of a value.
use Rattle.std.specs.Prelude.{ℕ, List, [], ◌∷◌, slice_index}

abbrev pub lanes : (ℕ → ℕ) → List ℕ
lanes f = f 0 ∷ f 1 ∷ f 2 ∷ f 3 ∷ []

-- a function in each component
abbrev pub each_of_one : (ℕ → ℕ) → List ℕ → List ℕ
each_of_one f a = lanes (λ c. f (slice_index a c))

abbrev pub each_of_two : (ℕ → ℕ → ℕ) → (a b : List ℕ) → List ℕ
each_of_two f a b = lanes (λ c. f (slice_index a c) (slice_index b c))

abbrev pub each_of_three : (ℕ → ℕ → ℕ → ℕ) → (a b d : List ℕ) → List ℕ
each_of_three f a b d = lanes (λ c. f (slice_index a c) (slice_index b c) (slice_index d c))

abbrev pub each_of_four : (ℕ → ℕ → ℕ → ℕ → ℕ) → (a b d e : List ℕ) → List ℕ
each_of_four f a b d e = lanes (λ c. f (slice_index a c) (slice_index b c) (slice_index d c) (slice_index e c))
