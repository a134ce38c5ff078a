-- The places below sizes, one after another.
use Rattle.std.proofs.Common.{◌≡◌, ℕ, zero, suc, ◌+◌, ◌-◌, ◌<◌, ◌≤◌, List, [], ◌∷◌, ◌++◌, map, Option, Some, None, refl, sym, ap, ◌∙◌, arith, append_assoc}
use Rattle.std.specs.Prelude.{flat_map, slice_index}
use Rattle.shader_model.specs.Dispatch.{below, places}
use Rattle.shader_model.specs.PlacesLeft.{numbers_from, row_from, plane_from, planes_from, places_behind, places_from}

-- ## Numbers

one_more : (i n : ℕ) → i < n → numbers_from i (n - i) ≡ i ∷ numbers_from (i + 1) (n - (i + 1))
one_more i n lt = let k : n - i ≡ suc (n - (i + 1)) = omega arith in ap (numbers_from i) k

no_more : (i n : ℕ) → n ≤ i → numbers_from i (n - i) ≡ []
no_more i n le = let k : n - i ≡ 0 = omega arith in ap (numbers_from i) k

numbers_both : (i k : ℕ) → numbers_from i (suc k) ≡ numbers_from i k ++ (i + k) ∷ []
numbers_both i zero = ap (λ z. z ∷ []) (let e : i ≡ i + 0 = omega arith in e)
numbers_both i (suc k) = ap (λ z. i ∷ z) (numbers_both (i + 1) k ∙ ap (λ z. numbers_from (i + 1) k ++ z ∷ []) (let e : i + 1 + k ≡ i + suc k = omega arith in e))

below_from : (n : ℕ) → below n ≡ numbers_from 0 n
below_from zero = refl
below_from (suc n) = ap (λ z. z ++ n ∷ []) (below_from n) ∙ ap (λ k. numbers_from 0 n ++ k ∷ []) (let e : n ≡ 0 + n = omega arith in e) ∙ sym (numbers_both 0 n)

below_all : (n : ℕ) → below n ≡ numbers_from 0 (n - 0)
below_all n = below_from n ∙ ap (numbers_from 0) (let e : n ≡ n - 0 = omega arith in e)

-- ## Places

module _ (sizes : List ℕ) where
  row_on : (x y z : ℕ) → x < slice_index sizes 0 → row_from sizes x y z ≡ (x ∷ y ∷ z ∷ []) ∷ row_from sizes (x + 1) y z
  row_on x y z lt = ap (map (λ i. i ∷ y ∷ z ∷ [])) (one_more x (slice_index sizes 0) lt)

  row_done : (x y z : ℕ) → slice_index sizes 0 ≤ x → row_from sizes x y z ≡ []
  row_done x y z le = ap (map (λ i. i ∷ y ∷ z ∷ [])) (no_more x (slice_index sizes 0) le)

  plane_on : (y z : ℕ) → y < slice_index sizes 1 → plane_from sizes y z ≡ row_from sizes 0 y z ++ plane_from sizes (y + 1) z
  plane_on y z lt = ap (flat_map (λ i. row_from sizes 0 i z)) (one_more y (slice_index sizes 1) lt)

  plane_done : (y z : ℕ) → slice_index sizes 1 ≤ y → plane_from sizes y z ≡ []
  plane_done y z le = ap (flat_map (λ i. row_from sizes 0 i z)) (no_more y (slice_index sizes 1) le)

  planes_on : (z : ℕ) → z < slice_index sizes 2 → planes_from sizes z ≡ plane_from sizes 0 z ++ planes_from sizes (z + 1)
  planes_on z lt = ap (flat_map (plane_from sizes 0)) (one_more z (slice_index sizes 2) lt)

  planes_done : (z : ℕ) → slice_index sizes 2 ≤ z → planes_from sizes z ≡ []
  planes_done z le = ap (flat_map (plane_from sizes 0)) (no_more z (slice_index sizes 2) le)

  -- the row, the plane and all begin with their first place
  plane_front : (y z : ℕ) → 0 < slice_index sizes 0 → y < slice_index sizes 1 → (rest : List (List ℕ))
      → plane_from sizes y z ++ rest ≡ (0 ∷ y ∷ z ∷ []) ∷ (row_from sizes 1 y z ++ (plane_from sizes (y + 1) z ++ rest))
  plane_front y z lx ly rest =
      ap (λ w. w ++ rest) (plane_on y z ly)
      ∙ append_assoc (row_from sizes 0 y z) (plane_from sizes (y + 1) z) rest
      ∙ ap (λ w. w ++ (plane_from sizes (y + 1) z ++ rest)) (row_on 0 y z lx)

  planes_front : (z : ℕ) → 0 < slice_index sizes 0 → 0 < slice_index sizes 1 → z < slice_index sizes 2
      → planes_from sizes z ≡ (0 ∷ 0 ∷ z ∷ []) ∷ (row_from sizes 1 0 z ++ (plane_from sizes 1 z ++ planes_from sizes (z + 1)))
  planes_front z lx ly lz = planes_on z lz ∙ plane_front 0 z lx ly (planes_from sizes (z + 1))

  -- behind a place of a row that has more, of a plane that has more, of more planes, and of none
  pub next_in_row : (x y z : ℕ) → x + 1 < slice_index sizes 0 → places_behind sizes (x ∷ y ∷ z ∷ []) ≡ places_from sizes (Some ((x + 1) ∷ y ∷ z ∷ []))
  next_in_row x y z lt = ap (λ w. w ++ (plane_from sizes (y + 1) z ++ planes_from sizes (z + 1))) (row_on (x + 1) y z lt)

  pub next_row : (x y z : ℕ) → 0 < slice_index sizes 0 → slice_index sizes 0 ≤ x + 1 → y + 1 < slice_index sizes 1
      → places_behind sizes (x ∷ y ∷ z ∷ []) ≡ places_from sizes (Some (0 ∷ (y + 1) ∷ z ∷ []))
  next_row x y z lx dx ly =
      ap (λ w. w ++ (plane_from sizes (y + 1) z ++ planes_from sizes (z + 1))) (row_done (x + 1) y z dx)
      ∙ plane_front (y + 1) z lx ly (planes_from sizes (z + 1))

  pub next_plane : (x y z : ℕ) → 0 < slice_index sizes 0 → slice_index sizes 0 ≤ x + 1 → 0 < slice_index sizes 1 → slice_index sizes 1 ≤ y + 1 → z + 1 < slice_index sizes 2
      → places_behind sizes (x ∷ y ∷ z ∷ []) ≡ places_from sizes (Some (0 ∷ 0 ∷ (z + 1) ∷ []))
  next_plane x y z lx dx ly dy lz =
      ap (λ w. w ++ (plane_from sizes (y + 1) z ++ planes_from sizes (z + 1))) (row_done (x + 1) y z dx)
      ∙ ap (λ w. w ++ planes_from sizes (z + 1)) (plane_done (y + 1) z dy)
      ∙ planes_front (z + 1) lx ly lz

  pub next_none : (x y z : ℕ) → slice_index sizes 0 ≤ x + 1 → slice_index sizes 1 ≤ y + 1 → slice_index sizes 2 ≤ z + 1
      → places_behind sizes (x ∷ y ∷ z ∷ []) ≡ places_from sizes None
  next_none x y z dx dy dz =
      ap (λ w. w ++ (plane_from sizes (y + 1) z ++ planes_from sizes (z + 1))) (row_done (x + 1) y z dx)
      ∙ ap (λ w. w ++ planes_from sizes (z + 1)) (plane_done (y + 1) z dy)
      ∙ planes_done (z + 1) dz

  all_from : places sizes ≡ planes_from sizes 0
  all_from =
      let bx = slice_index sizes 0 in
      let by = slice_index sizes 1 in
      let bz = slice_index sizes 2 in
      ap (λ r. flat_map (λ z. flat_map (λ y. map (λ x. x ∷ y ∷ z ∷ []) r) (below by)) (below bz)) (below_all bx)
      ∙ ap (λ r. flat_map (λ z. flat_map (λ y. row_from sizes 0 y z) r) (below bz)) (below_all by)
      ∙ ap (λ r. flat_map (plane_from sizes 0) r) (below_all bz)

  pub first_place : 0 < slice_index sizes 0 → 0 < slice_index sizes 1 → 0 < slice_index sizes 2 → places sizes ≡ places_from sizes (Some (0 ∷ 0 ∷ 0 ∷ []))
  first_place lx ly lz = all_from ∙ planes_front 0 lx ly lz

module _ {A B : Type 0} where
  flat_none : (f : A → List B) → ((x : A) → f x ≡ []) → (xs : List A) → flat_map f xs ≡ []
  flat_none f h [] = refl
  flat_none f h (x ∷ xs) = ap (λ z. z ++ flat_map f xs) (h x) ∙ flat_none f h xs

module _ (sizes : List ℕ) where
  pub no_columns : slice_index sizes 0 ≡ 0 → places sizes ≡ places_from sizes None
  no_columns e = flat_none _ (λ z. flat_none _ (λ y. ap (λ n. map (λ x. x ∷ y ∷ z ∷ []) (below n)) e) (below (slice_index sizes 1))) (below (slice_index sizes 2))

  pub no_rows : slice_index sizes 1 ≡ 0 → places sizes ≡ places_from sizes None
  no_rows e = flat_none _ (λ z. ap (λ n. flat_map (λ y. map (λ x. x ∷ y ∷ z ∷ []) (below (slice_index sizes 0))) (below n)) e) (below (slice_index sizes 2))

  pub no_planes : slice_index sizes 2 ≡ 0 → places sizes ≡ places_from sizes None
  no_planes e = ap (λ n. flat_map (λ z. flat_map (λ y. map (λ x. x ∷ y ∷ z ∷ []) (below (slice_index sizes 0))) (below (slice_index sizes 1))) (below n)) e
