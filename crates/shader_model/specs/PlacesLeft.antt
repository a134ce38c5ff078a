-- What is left of the places below sizes.
use Rattle.std.specs.Prelude.{◌≡◌, ℕ, zero, suc, ◌+◌, ◌-◌, ◌<◌, List, [], ◌∷◌, ◌++◌, map, flat_map, slice_index, Option, Some, None}
use Rattle.shader_model.specs.Dispatch.{places}

-- so many numbers from one on
abbrev pub numbers_from : (first count : ℕ) → List ℕ
numbers_from n zero = []
numbers_from n (suc k) = n ∷ numbers_from (n + 1) k

-- The places below sizes, in the order of `places`: of a row from x on, of a plane from the row y on, and of all from the
-- plane z on.
module _ (sizes : List ℕ) where
  abbrev pub row_from : (x y z : ℕ) → List (List ℕ)
  row_from x y z = map (λ i. i ∷ y ∷ z ∷ []) (numbers_from x (slice_index sizes 0 - x))

  abbrev pub plane_from : (y z : ℕ) → List (List ℕ)
  plane_from y z = flat_map (λ i. row_from 0 i z) (numbers_from y (slice_index sizes 1 - y))

  abbrev pub planes_from : (z : ℕ) → List (List ℕ)
  planes_from z = flat_map (plane_from 0) (numbers_from z (slice_index sizes 2 - z))

  -- those behind a place
  abbrev pub places_behind : List ℕ → List (List ℕ)
  places_behind p =
      row_from (slice_index p 0 + 1) (slice_index p 1) (slice_index p 2)
      ++ (plane_from (slice_index p 1 + 1) (slice_index p 2) ++ planes_from (slice_index p 2 + 1))

  -- a place, if there is one, and those behind it
  abbrev pub places_from : Option (List ℕ) → List (List ℕ)
  places_from None = []
  places_from (Some p) = p ∷ places_behind p

-- each of x, y and z is below that of a size
abbrev pub IsBelow : (place sizes : List ℕ) → Type 0
IsBelow place sizes = (c : ℕ) → c < 3 → slice_index place c < slice_index sizes c

-- the sizes, and the places below them that are still to come
pub record PlacesLeft : Type 0 where
  pub sizes : List ℕ
  pub left : List (List ℕ)

-- all of them
abbrev pub all_left : List ℕ → PlacesLeft
all_left sizes = record { sizes = sizes; left = places sizes }

-- a list that begins with a place, where there is one, and is empty else
abbrev pub begins : Option (List ℕ) → List (List ℕ) → List (List ℕ)
begins None later = []
begins (Some p) later = p ∷ later
