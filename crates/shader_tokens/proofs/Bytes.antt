-- The words of bytes, of which some are left out.
use Rattle.std.proofs.Common.{◌≡◌, ℕ, zero, suc, ◌+◌, ◌*◌, ◌/◌, ◌^◌, min, List, [], ◌∷◌, length, take, drop, get_or, ◌-◌, length-drop, ◌<◌, refl, ap, sym, ◌∙◌, arith}
use Rattle.std.proofs.lemmas.List.{drop_min, take_min, take_all}
use Rattle.base_lemmas.specs.ByteWords.{words_of}
use Rattle.base_lemmas.proofs.ByteWords.{words_length}

-- four times a number, one step of four at a time
fours : ℕ → ℕ
fours zero = zero
fours (suc k) = suc (suc (suc (suc (fours k))))

four-times : (k : ℕ) → fours k ≡ 4 * k
unfolding fours
four-times zero = refl
four-times (suc k) = omega (arith, four-times k)

drop-fours : (k : ℕ) (b : List ℕ) → words_of (drop (fours k) b) ≡ drop k (words_of b)
unfolding fours
drop-fours zero b = refl
drop-fours (suc k) [] = refl
drop-fours (suc k) (a ∷ []) = refl
drop-fours (suc k) (a ∷ b ∷ []) = refl
drop-fours (suc k) (a ∷ b ∷ c ∷ []) = refl
drop-fours (suc k) (a ∷ b ∷ c ∷ d ∷ rest) = drop-fours k rest

take-fours : (k : ℕ) (b : List ℕ) → words_of (take (fours k) b) ≡ take k (words_of b)
unfolding fours
take-fours zero b = refl
take-fours (suc k) [] = refl
take-fours (suc k) (a ∷ []) = refl
take-fours (suc k) (a ∷ b ∷ []) = refl
take-fours (suc k) (a ∷ b ∷ c ∷ []) = refl
take-fours (suc k) (a ∷ b ∷ c ∷ d ∷ rest) = ap (λ z. (a + 2 ^ 8 * b + 2 ^ 16 * c + 2 ^ 24 * d) ∷ z) (take-fours k rest)

pub words-behind : (k : ℕ) (b : List ℕ) (n : ℕ) → n ≡ min k (length b / 4) → words_of (take (length b - 4 * n) (drop (4 * n) b)) ≡ drop k (words_of b)
words-behind k b n e =
    ap words_of (take_all (length b - 4 * n) (drop (4 * n) b) (omega (arith, length-drop (4 * n) b)))
    ∙ ap (λ z. words_of (drop z b)) (sym (four-times n)) ∙ drop-fours n b ∙ ap (λ z. drop z (words_of b)) e ∙ ap (λ z. drop (min k z) (words_of b)) (sym (words_length b)) ∙ drop_min k (words_of b)

pub words-front : (k : ℕ) (b : List ℕ) (n : ℕ) → n ≡ min k (length b / 4) → words_of (take (4 * n) b) ≡ take k (words_of b)
words-front k b n e =
    ap (λ z. words_of (take z b)) (sym (four-times n)) ∙ take-fours n b ∙ ap (λ z. take z (words_of b)) e ∙ ap (λ z. take (min k z) (words_of b)) (sym (words_length b)) ∙ take_min k (words_of b)

-- the element at a place stands first of what is behind that place
pub first-behind : (k : ℕ) (ws : List ℕ) (x : ℕ) (xs : List ℕ) → drop k ws ≡ x ∷ xs → get_or ws k 0 ≡ x
first-behind zero [] x xs e = cc
first-behind zero (w ∷ ws) x xs e = cc
first-behind (suc k) [] x xs e = cc
first-behind (suc k) (w ∷ ws) x xs e = first-behind k ws x xs e

pub words-none : (b : List ℕ) → length b < 4 → words_of b ≡ []
words-none [] h = refl
words-none (a ∷ []) h = refl
words-none (a ∷ b ∷ []) h = refl
words-none (a ∷ b ∷ c ∷ []) h = refl
words-none (a ∷ b ∷ c ∷ d ∷ rest) h = absurd (omega arith)
