-- The places of numbers, as a set that keeps their order has them.
use Rattle.std.proofs.Common.{◌≡◌, ◌≢◌, ℕ, suc, ◌+◌, ◌≤◌, Bool, true, false, cond, ◌||◌, if◌then◌else◌, List, [], ◌∷◌, ◌++◌, length, Some, None, not, refl, sym, ap, ◌∙◌, arith, ⊎_elim}
use Rattle.std.specs.Prelude.{◌==◌, nat_eq, nat_lt}
use Rattle.std.specs.List.{list_any, prefix_len, position}
use Rattle.std.proofs.Math.Dec.{eqb}
use Rattle.std.proofs.lemmas.Bool.{eq-eqb, ne_eqb, ltb-false}
use Rattle.std.proofs.lemmas.Bool.Decides.{eqb_tells}
use Rattle.spirv_emit.specs.Numbers.{place, has, with_number}

turned : (a b : ℕ) → eqb a b ≡ eqb b a
turned a b =
    ⊎_elim
    (λ (e : (eqb b a ≡ true) × (b ≡ a)). eq-eqb a b (sym e.1) ∙ sym e.0)
    (λ (e : (eqb b a ≡ false) × (b ≢ a)). ne_eqb a b (λ k. e.1 (sym k)) ∙ sym e.0)
    (eqb_tells b a)

or_if : (a b : Bool) → (a || b) ≡ (if a then true else b)
or_if true b = refl
or_if false b = refl

pub any_has : (v : ℕ) (xs : List ℕ) → list_any (nat_eq v) xs ≡ has xs v
any_has v [] = refl
any_has v (x ∷ xs) = or_if (nat_eq v x) (list_any (nat_eq v) xs) ∙ ap (λ (t : Bool). if t then true else list_any (nat_eq v) xs) (turned v x) ∙ ap (λ t. if x == v then true else t) (any_has v xs)

not_cond : (t : Bool) (n : ℕ) → cond (not t) (1 + n) 0 ≡ (if t then 0 else suc n)
not_cond true n = refl
not_cond false n = let z : 1 + n ≡ suc n = omega arith in z

pub place_is : (v : ℕ) (xs : List ℕ) → prefix_len (λ x. not (nat_eq v x)) xs ≡ place v xs
place_is v [] = refl
place_is v (x ∷ xs) = not_cond (nat_eq v x) (prefix_len (λ x. not (nat_eq v x)) xs) ∙ ap (λ (t : Bool). if t then 0 else suc (prefix_len (λ x. not (nat_eq v x)) xs)) (turned v x) ∙ ap (λ n. if x == v then 0 else suc n) (place_is v xs)

pub place_most : (v : ℕ) (xs : List ℕ) → place v xs ≤ length xs
place_most v [] = omega arith
place_most v (x ∷ xs) =
    let h = place_most v xs in
    elim (x == v) as (λ (t : Bool). (if t then 0 else suc (place v xs)) ≤ suc (length xs)) [ true ↦ omega arith | false ↦ omega arith ]

some_place : (t : Bool) (n k : ℕ) → cond t (Some n) None ≡ Some k → k ≡ n
some_place true n k e = cc
some_place false n k e = cc

no_place : (t : Bool) (n : ℕ) → cond t (Some n) None ≡ None → t ≡ false
no_place true n e = cc
no_place false n e = refl

pub found_place : (v : ℕ) (xs : List ℕ) (k : ℕ) → position (nat_eq v) xs ≡ Some k → k ≡ place v xs
found_place v xs k e = some_place (nat_lt (prefix_len (λ x. not (nat_eq v x)) xs) (length xs)) _ k e ∙ place_is v xs

pub missing_place : (v : ℕ) (xs : List ℕ) → position (nat_eq v) xs ≡ None → length xs ≡ place v xs
missing_place v xs e =
    let n = prefix_len (λ x. not (nat_eq v x)) xs in
    let le = ltb-false n (length xs) (no_place (nat_lt n (length xs)) n e) in
    let is = place_is v xs in
    let most = place_most v xs in
    omega (arith, le, is, most)

-- a number added where it isn't there
pub added_number : (v : ℕ) (xs ys : List ℕ) → ys ≡ (if list_any (nat_eq v) xs then xs else xs ++ v ∷ []) → ys ≡ with_number xs v
added_number v xs ys e = e ∙ ap (λ (t : Bool). if t then xs else xs ++ v ∷ []) (any_has v xs)
