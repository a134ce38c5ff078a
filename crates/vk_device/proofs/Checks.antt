-- What each element passes, one element after another.
use Rattle.std.proofs.Common.{◌≡◌, ℕ, ◌+◌, ◌-◌, ◌<◌, ◌≤◌, List, [], ◌∷◌, ◌++◌, length, length-drop, take, drop, get_or, sym, subst, arith}
use Rattle.std.specs.List.{AllByRecursion}
use Rattle.std.proofs.lemmas.List.{drop_more, drop_all, take_all}
use Rattle.base_lemmas.specs.Lists.{Pairwise}

-- if those that are left pass, all do
abbrev pub AllOn : {A : Type 0} → (A → Type 0) → List A → ℕ → Type 0
AllOn P xs i = AllByRecursion P (drop i xs) → AllByRecursion P xs

pub all_more : {A : Type 0} (P : A → Type 0) (xs : List A) (i : ℕ) (d : A) → i < length xs → P (get_or xs i d) → AllOn P xs i → AllOn P xs (i + 1)
all_more P xs i d lt here on = λ later. on (subst (AllByRecursion P) (sym (drop_more xs i d lt)) (here, later))

pub all_end : {A : Type 0} (P : A → Type 0) (xs : List A) (i : ℕ) → length xs ≤ i → AllOn P xs i → AllByRecursion P xs
all_end P xs i le on = on (subst (AllByRecursion P) (sym (drop_all i xs le)) tt)

-- the same of each element and those behind it
abbrev pub PairsOn : {A : Type 0} → (A → A → Type 0) → List A → ℕ → Type 0
PairsOn R xs i = Pairwise R (drop i xs) → Pairwise R xs

pub pairs_more : {A : Type 0} (R : A → A → Type 0) (xs : List A) (i : ℕ) (d : A) → i < length xs → AllByRecursion (R (get_or xs i d)) (drop (i + 1) xs)
    → PairsOn R xs i → PairsOn R xs (i + 1)
pairs_more R xs i d lt here on = λ later. on (subst (Pairwise R) (sym (drop_more xs i d lt)) (here, later))

pub pairs_end : {A : Type 0} (R : A → A → Type 0) (xs : List A) (i : ℕ) → length xs ≤ i → PairsOn R xs i → Pairwise R xs
pairs_end R xs i le on = on (subst (Pairwise R) (sym (drop_all i xs le)) tt)

-- Blocks, and others behind them -----------------------------------------------------------------------------------------------

abbrev pub BothOn : {A : Type 0} → (A → A → Type 0) → List A → List A → ℕ → Type 0
BothOn R xs ys i = Pairwise R (drop i xs ++ ys) → Pairwise R (xs ++ ys)

all_of_two : {A : Type 0} (P : A → Type 0) (xs ys : List A) → AllByRecursion P xs → AllByRecursion P ys → AllByRecursion P (xs ++ ys)
all_of_two P [] ys a b = b
all_of_two P (x ∷ xs) ys a b = (a.0, all_of_two P xs ys a.1 b)

pub both_more : {A : Type 0} (R : A → A → Type 0) (xs ys : List A) (i : ℕ) (d : A) → i < length xs → AllByRecursion (R (get_or xs i d)) (drop (i + 1) xs)
    → AllByRecursion (R (get_or xs i d)) ys → BothOn R xs ys i → BothOn R xs ys (i + 1)
both_more R xs ys i d lt here others on = λ later.
    on (subst (λ l. Pairwise R (l ++ ys)) (sym (drop_more xs i d lt)) (all_of_two (R (get_or xs i d)) (drop (i + 1) xs) ys here others, later))

pub both_end : {A : Type 0} (R : A → A → Type 0) (xs ys : List A) (i : ℕ) → length xs ≤ i → BothOn R xs ys i → Pairwise R ys → Pairwise R (xs ++ ys)
both_end R xs ys i le on others = on (subst (λ l. Pairwise R (l ++ ys)) (sym (drop_all i xs le)) others)

-- a slice up to the end
pub slice_rest : {A : Type 0} (k : ℕ) (xs : List A) → take (length xs - k) (drop k xs) ≡ drop k xs
slice_rest k xs = take_all (length xs - k) (drop k xs) (let len = length-drop k xs in omega (arith, len))
