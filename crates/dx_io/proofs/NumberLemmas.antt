-- A list of numbers that all lie below a number doesn't have it.
use Rattle.std.proofs.Common.{◌≡◌, ℕ, suc, ◌<◌, List, [], ◌∷◌, ◌||◌, Bool, false, nat_eq, get_or, refl, ap, ◌∙◌, arith}
use Rattle.std.proofs.lemmas.Bool.{ne_eqb}
use Rattle.std.specs.List.{list_any}

pub none_stands : (xs : List ℕ) (n : ℕ) → ((k : ℕ) → get_or xs k 0 < n) → list_any (λ x. nat_eq x n) xs ≡ false
none_stands [] n below = refl
none_stands (x ∷ xs) n below =
    let first : x < n = below 0 in
    ap (λ (b : Bool). b || list_any (λ y. nat_eq y n) xs) (ne_eqb x n (λ e. omega arith)) ∙ none_stands xs n (λ k. below (suc k))
