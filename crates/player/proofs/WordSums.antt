-- The sum of the words of some bytes, word by word.
use Rattle.std.proofs.Common.{◌≡◌, ℕ, zero, suc, ◌+◌, ◌*◌, ◌/◌, List, [], ◌∷◌, ◌++◌, length, drop, refl, sym, ap, ◌∙◌, arith}
use Rattle.std.specs.Prelude.{sum}
use Rattle.std.proofs.Math.Numerals.{add-one}
use Rattle.std.proofs.lemmas.List.{drop-drop}
use Rattle.std.proofs.lemmas.List.Sums.{sum_by_push}
use Rattle.byteorder.specs.Endian.{little_number}
use Rattle.d3d_model.specs.Regions.{words_from, words_of}

words_more : (n : ℕ) (bytes : List ℕ)
    → words_from (suc n) bytes ≡ words_from n bytes ++ little_number 4 (drop (4 * n) bytes) ∷ []
words_more zero bytes = refl
words_more (suc n) bytes =
    let far : 4 + 4 * n ≡ 4 * suc n = omega arith in
    ap (λ (ws : List ℕ). little_number 4 bytes ∷ ws) (words_more n (drop 4 bytes)
    ∙ ap (λ (l : List ℕ). words_from n (drop 4 bytes) ++ little_number 4 l ∷ [])
    (drop-drop (4 * n) 4 bytes ∙ ap (λ (k : ℕ). drop k bytes) far))

-- one word more
pub sum_more : (n s w t : ℕ) (bytes : List ℕ) → s ≡ sum (words_from n bytes)
    → w ≡ little_number 4 (drop (4 * n) bytes) → t ≡ s + w → t ≡ sum (words_from (n + 1) bytes)
sum_more n s w t bytes e f g =
    let last : ℕ = little_number 4 (drop (4 * n) bytes) in
    g ∙ ap (λ (k : ℕ). k + w) e ∙ ap (λ (k : ℕ). sum (words_from n bytes) + k) f
    ∙ sym (sum_by_push (λ (x : ℕ). x) (words_from n bytes) last)
    ∙ ap sum (sym (words_more n bytes))
    ∙ ap (λ (k : ℕ). sum (words_from k bytes)) (sym (add-one n))

-- all words
pub sum_all : (n s : ℕ) (bytes : List ℕ) → n ≡ length bytes / 4 → s ≡ sum (words_from n bytes)
    → s ≡ sum (words_of bytes)
unfolding words_of
sum_all n s bytes e f = f ∙ ap (λ (k : ℕ). sum (words_from k bytes)) e
