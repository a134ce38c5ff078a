-- What slots are seen as, once one of them was bound, taken back or written.
use Rattle.std.proofs.Common.{◌≡◌, ℕ, zero, suc, ◌+◌, ◌*◌, ◌^◌, ◌<◌, ◌≤◌, List, [], ◌∷◌, length, map, get_or, Bor, Option, Some, None, refl, ap, sym, ◌∙◌, arith}
use Rattle.std.proofs.Math.ListN.{set, get_or-map}
use Rattle.std.proofs.lemmas.List.{map-set}
use Rattle.std.proofs.Math.Seq.{map-set_same}
use Rattle.base_lemmas.specs.ByteWords.{words_of}
use Rattle.shader_model.specs.Invocation.{words_in}
use Rattle.base_lemmas.proofs.ByteWords.{words_length}
use Rattle.shader_slots.specs.Part.{Part}
use Rattle.shader_slots.specs.Bound.{seen, words_bound, around_bound, with_write, with_written, with_word, between, part_at}

-- ## Limits

-- slots of at most so many words are still so where one gets other words
pub limit_set : (m : ℕ) (slots : List (List ℕ)) (k : ℕ) (w : List ℕ) → ((n : ℕ) → length (words_in slots n) ≤ m) → length w ≤ m
    → (n : ℕ) → length (words_in (set slots k w) n) ≤ m
limit_set m [] k w h l n = h n
limit_set m (x ∷ xs) zero w h l zero = l
limit_set m (x ∷ xs) zero w h l (suc n) = h (suc n)
limit_set m (x ∷ xs) (suc k) w h l zero = h zero
limit_set m (x ∷ xs) (suc k) w h l (suc n) = limit_set m xs k w (λ j. h (suc j)) l n

pub limit_put : (m : ℕ) (slots new : List (List ℕ)) (k : ℕ) (w : List ℕ) → new ≡ set slots k w → ((n : ℕ) → length (words_in slots n) ≤ m) → length w ≤ m
    → (n : ℕ) → length (words_in new n) ≤ m
limit_put m slots new k w e h l n = rw e (limit_set m slots k w h l n)

-- words of 32 bits are still so where a slot gets other such words
abbrev pub Fit : List ℕ → Type 0
Fit w = (i : ℕ) → get_or w i 0 < 4294967296

pub fit_set : (slots : List (List ℕ)) (k : ℕ) (w : List ℕ) → ((n : ℕ) → Fit (words_in slots n)) → Fit w → (n : ℕ) → Fit (words_in (set slots k w) n)
fit_set [] k w h l n = h n
fit_set (x ∷ xs) zero w h l zero = l
fit_set (x ∷ xs) zero w h l (suc n) = h (suc n)
fit_set (x ∷ xs) (suc k) w h l zero = h zero
fit_set (x ∷ xs) (suc k) w h l (suc n) = fit_set xs k w (λ j. h (suc j)) l n

pub fit_put : (slots new : List (List ℕ)) (k : ℕ) (w : List ℕ) → new ≡ set slots k w → ((n : ℕ) → Fit (words_in slots n)) → Fit w → (n : ℕ) → Fit (words_in new n)
fit_put slots new k w e h l n = rw e (fit_set slots k w h l n)

-- and where one of them is set
pub fit_word : (w : List ℕ) (k v : ℕ) → v < 4294967296 → Fit w → Fit (set w k v)
fit_word [] k v lt h i = h i
fit_word (x ∷ xs) zero v lt h zero = lt
fit_word (x ∷ xs) zero v lt h (suc i) = h (suc i)
fit_word (x ∷ xs) (suc k) v lt h zero = h zero
fit_word (x ∷ xs) (suc k) v lt h (suc i) = fit_word xs k v lt (λ j. h (suc j)) i

pub fit_none : Fit []
fit_none i = omega arith

-- four bytes make 32 bits
pub bytes_fit : (b : List ℕ) → ((i : ℕ) → get_or b i 0 < 256) → Fit (words_of b)
bytes_fit [] h i = omega arith
bytes_fit (a ∷ []) h i = omega arith
bytes_fit (a ∷ b ∷ []) h i = omega arith
bytes_fit (a ∷ b ∷ c ∷ []) h i = omega arith
bytes_fit (a ∷ b ∷ c ∷ d ∷ rest) h zero = below a b c d (h 0) (h 1) (h 2) (h 3)
  where
    below : (a b c d : ℕ) → a < 256 → b < 256 → c < 256 → d < 256 → a + 2 ^ 8 * b + 2 ^ 16 * c + 2 ^ 24 * d < 4294967296
    below a b c d p q r s = omega arith
bytes_fit (a ∷ b ∷ c ∷ d ∷ rest) h (suc i) = bytes_fit rest (λ j. h (suc (suc (suc (suc j))))) i

-- ## Bytes that are lent

-- the words of bytes that are lent
abbrev pub lent : Bor (List ℕ) → List ℕ
lent p = words_of p.now

pub lent_fits : (p : Bor (List ℕ)) → length p.now ≤ 16777216 → length (lent p) ≤ 4194304
lent_fits p h = omega (arith, words_length p.now)

-- ## Parts

module _ (cs rs : List (List ℕ)) (parts : List (Option Part)) (n : ℕ) where
  pub words_at : words_in (map words_bound parts) n ≡ words_bound (get_or parts n None)
  words_at = get_or-map words_bound parts n None

  around_at : get_or (map around_bound parts) n None ≡ around_bound (get_or parts n None)
  around_at = get_or-map around_bound parts n None

  pub seen_put : (p : Option Part) → seen cs rs (set parts n p) ≡ with_write n p (seen cs rs parts)
  seen_put p = rw (map-set words_bound parts n p, map-set around_bound parts n p) refl

  whole : (p : Option Part) → p ≡ between (words_bound p) (around_bound p)
  whole None = refl
  whole (Some p) = refl

  pub seen_part : get_or parts n None ≡ part_at n (seen cs rs parts)
  seen_part = whole (get_or parts n None) ∙ rw (words_at, around_at) refl

  module _ (i v : ℕ) where
    word_set : (p : Option Part) → words_bound (with_word i v p) ≡ set (words_bound p) i v
    word_set None = refl
    word_set (Some p) = refl

    around_same : (p : Option Part) → around_bound (with_word i v p) ≡ around_bound p
    around_same None = refl
    around_same (Some p) = refl

    pub words_put : map words_bound (set parts n (with_word i v (get_or parts n None))) ≡ set (map words_bound parts) n (set (words_in (map words_bound parts) n) i v)
    words_put =
        let p = get_or parts n None in
        map-set words_bound parts n (with_word i v p) ∙ ap (set (map words_bound parts) n) (word_set p ∙ ap (λ w. set w i v) (sym words_at))

    pub seen_word : seen cs rs (set parts n (with_word i v (get_or parts n None))) ≡ with_written n (set (words_in (map words_bound parts) n) i v) (seen cs rs parts)
    seen_word =
        let p = get_or parts n None in
        let around : map around_bound (set parts n (with_word i v p)) ≡ map around_bound parts = map-set_same around_bound parts n (with_word i v p) None (around_same p) in
        rw (words_put, around) refl
