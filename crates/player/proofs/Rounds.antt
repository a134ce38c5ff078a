-- The number of rounds that a word is.
use Rattle.std.proofs.Common.{◌≡◌, ℕ, zero, suc, ◌<◌, ◌≤◌, ◌^◌, Bool, true, false, List, Some, None, refl, sym, ap, ◌∙◌, arith}
use Rattle.std.specs.Prelude.{decimal, bytes_eq, if◌then◌else◌}
use Rattle.std.proofs.lemmas.Fmt.{decimal_injective}
use Rattle.std.proofs.lemmas.Slice.Eq.{bytes_eq-Decides}
use Rattle.player.specs.Tasks.{number_upto}

-- the next number, by its test
none_at : (n : ℕ) (word : List ℕ) (b : Bool) → bytes_eq word (decimal (suc n)) ≡ b → (word ≡ decimal (suc n) → ⊥)
    → number_upto n word ≡ None → (if b then Some (suc n) else number_upto n word) ≡ None
none_at n word true e not rest = absurd (not ((bytes_eq-Decides word (decimal (suc n))).0 e))
none_at n word false e not rest = rest

-- no number from 1 to the most
pub none_is : (most : ℕ) (word : List ℕ) → ((n : ℕ) → 1 ≤ n → n ≤ most → word ≡ decimal n → ⊥)
    → number_upto most word ≡ None
unfolding number_upto
none_is zero word h = refl
none_is (suc m) word h =
    none_at m word (bytes_eq word (decimal (suc m))) refl (h (suc m) (omega arith) (omega arith))
    (none_is m word (λ n low high. h n low (omega arith)))

some_at : (m n : ℕ) (word : List ℕ) (b : Bool) → bytes_eq word (decimal (suc m)) ≡ b → m < 2 ^ 63 → n ≤ suc m
    → word ≡ decimal n → (n ≤ m → number_upto m word ≡ Some n)
    → (if b then Some (suc m) else number_upto m word) ≡ Some n
some_at m n word true e small high is rest =
    ap (λ (k : ℕ). Some k)
    (decimal_injective (suc m) n (omega arith) (omega arith) (sym ((bytes_eq-Decides word (decimal (suc m))).0 e) ∙ is))
some_at m n word false e small high is rest =
    rest (below m n high (λ same. differs (sym e ∙ (bytes_eq-Decides word (decimal (suc m))).1 (is ∙ ap decimal same))))
  where
    differs : false ≡ true → ⊥
    differs d = absurd cc

    below : (m n : ℕ) → n ≤ suc m → (n ≡ suc m → ⊥) → n ≤ m
    below m n high not = omega (arith, not)

-- this number
pub some_is : (most n : ℕ) (word : List ℕ) → most < 2 ^ 63 → 1 ≤ n → n ≤ most → word ≡ decimal n
    → number_upto most word ≡ Some n
unfolding number_upto
some_is zero n word small low high is = absurd (omega arith)
some_is (suc m) n word small low high is =
    some_at m n word (bytes_eq word (decimal (suc m))) refl (omega arith) high is
    (λ le. some_is m n word (omega arith) low le is)

-- one that is out of range is none of these
pub out_of_range : (most n : ℕ) (word : List ℕ) → most < 2 ^ 63 → n < 2 ^ 63 → (1 ≤ n → n ≤ most → ⊥)
    → word ≡ decimal n → number_upto most word ≡ None
out_of_range most n word small lt out is =
    none_is most word (λ m low high same.
    let e : m ≡ n = decimal_injective m n (omega arith) (omega arith) (sym same ∙ is) in
    out (omega (arith, e)) (omega (arith, e)))
