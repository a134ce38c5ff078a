-- The bytes of lists that were written into, and of those that spell words.
use Rattle.std.proofs.Common.{◌≡◌, ℕ, zero, suc, ◌+◌, ◌-◌, ◌*◌, ◌/◌, ◌%◌, ◌<◌, ◌≤◌, List, [], ◌∷◌, ◌++◌, length, take}
use Rattle.std.proofs.Common.{drop, replicate, get_or, refl, sym, ap, ◌∙◌, arith, inl, inr}
use Rattle.std.proofs.lemmas.Bool.{le-leb, cases_lt}
use Rattle.std.proofs.lemmas.List.{length-append, length-take, length-drop, length-replicate, get_or_append_left}
use Rattle.std.proofs.lemmas.List.{get_or-append_right, get_or-take, get_or-drop, get_or_past, drop-drop}
use Rattle.std.proofs.lemmas.List.{take-replicate, drop-replicate}
use Rattle.std.proofs.Math.Nat.{add-mul-mod_self_right, mod-eq_of_lt}
use Rattle.vk_types.specs.Memory.{byte_in, number_at}
use Rattle.d3d_model.specs.Regions.{put, filled, slice, words_from, word_at, spelled, repeated}
use Rattle.core_model.specs.Script.{padded}
use Rattle.d3d_model.proofs.Sized.{put_fits}

-- a number of a list, and 0 past its end
pub number_is : (l : List ℕ) (k : ℕ) → number_at l k ≡ get_or l k 0
number_is [] k = refl
number_is (x ∷ l) zero = refl
number_is (x ∷ l) (suc k) = number_is l k

-- ---- a write

module _ (old piece : List ℕ) (from : ℕ) (fits : from + length piece ≤ length old) where
  abbrev rest : List ℕ
  rest = drop (from + length piece) old

  spread : put old from piece ≡ take from old ++ (piece ++ rest)
  spread = put_fits old from piece (le-leb (from + length piece) (length old) fits)

  front : length (take from old) ≡ from
  front = omega (arith, length-take from old, fits)

  pub before_piece : (i : ℕ) → i < from → get_or (put old from piece) i 0 ≡ get_or old i 0
  before_piece i l =
      ap (λ (xs : List ℕ). get_or xs i 0) spread
      ∙ get_or_append_left (take from old) (piece ++ rest) 0 i (omega (arith, front, l))
      ∙ get_or-take from old i 0 l

  pub in_piece : (i : ℕ) → from ≤ i → i < from + length piece
      → get_or (put old from piece) i 0 ≡ get_or piece (i - from) 0
  in_piece i l u =
      ap (λ (xs : List ℕ). get_or xs i 0) spread
      ∙ get_or-append_right (take from old) (piece ++ rest) from i 0 front l
      ∙ get_or_append_left piece rest 0 (i - from) (omega (arith, l, u))

  pub behind_piece : (i : ℕ) → from + length piece ≤ i → get_or (put old from piece) i 0 ≡ get_or old i 0
  behind_piece i l =
      ap (λ (xs : List ℕ). get_or xs i 0) spread
      ∙ get_or-append_right (take from old) (piece ++ rest) from i 0 front (omega (arith, l))
      ∙ get_or-append_right piece rest (length piece) (i - from) 0 refl (omega (arith, l))
      ∙ get_or-drop (from + length piece) old (i - from - length piece) 0
      ∙ ap (λ (j : ℕ). get_or old j 0) (omega (arith, l))

-- nothing in zeros, and a piece in zeros
pub filled_nothing : (n : ℕ) → filled n [] ≡ replicate n 0
unfolding filled
filled_nothing n = put_fits (replicate n 0) 0 [] (le-leb 0 (length (replicate n 0)) (omega arith))

pub padded_is : (from size : ℕ) (piece : List ℕ) → from + length piece ≤ size
    → put (filled size []) from piece ≡ padded from piece size
padded_is from size piece fits =
    ap (λ (l : List ℕ). put l from piece) (filled_nothing size)
    ∙ put_fits (replicate size 0) from piece (le-leb (from + length piece) (length (replicate size 0))
    (omega (arith, fits, length-replicate {A = ℕ} size 0)))
    ∙ ap (λ (l : List ℕ). l ++ (piece ++ drop (from + length piece) (replicate size 0)))
    (take-replicate from size 0 (omega (arith, fits)))
    ∙ ap (λ (l : List ℕ). replicate from 0 ++ (piece ++ l)) (drop-replicate (from + length piece) size 0)

-- zeros, within them and past them
zeros_at : (n i : ℕ) → get_or {A = ℕ} (replicate n 0) i 0 ≡ 0
zeros_at zero i = refl
zeros_at (suc n) zero = refl
zeros_at (suc n) (suc i) = zeros_at n i

pub filled_at : (size : ℕ) (piece : List ℕ) → length piece ≤ size → (i : ℕ)
    → get_or (filled size piece) i 0 ≡ get_or piece i 0
unfolding filled
filled_at size piece fits i =
    let long = length-replicate {A = ℕ} size 0 in
    let room : 0 + length piece ≤ length (replicate {A = ℕ} size 0) = omega (arith, long, fits) in
    elim (cases_lt i (length piece)) [
      | inl l ↦ in_piece (replicate size 0) piece 0 room i (omega arith) (omega (arith, l))
          ∙ ap (λ (j : ℕ). get_or piece j 0) (omega arith)
      | inr l ↦ behind_piece (replicate size 0) piece 0 room i (omega (arith, l)) ∙ zeros_at size i
          ∙ sym (get_or_past piece i 0 l)
    ]

-- ---- parts

pub length-slice : (bytes : List ℕ) (from to : ℕ) → from ≤ to → to ≤ length bytes
    → length (slice bytes from to) ≡ to - from
length-slice bytes from to l h = omega (arith, l, h, length-take (to - from) (drop from bytes), length-drop from bytes)

pub slice_at : (bytes : List ℕ) (from to i : ℕ) → i < to - from
    → get_or (slice bytes from to) i 0 ≡ get_or bytes (from + i) 0
slice_at bytes from to i h = get_or-take (to - from) (drop from bytes) i 0 h ∙ get_or-drop from bytes i 0

-- ---- words

-- bytes that agree in the first four make one word
same_word : (xs ys : List ℕ) → ((j : ℕ) → j < 4 → get_or xs j 0 ≡ get_or ys j 0) → word_at xs 0 ≡ word_at ys 0
same_word xs ys same = omega (
  arith,
  same 0 (omega arith),
  same 1 (omega arith),
  same 2 (omega arith),
  same 3 (omega arith),
)

-- a word of a part
pub slice_word : (bytes : List ℕ) (from to at : ℕ) → at + 4 ≤ to - from
    → word_at (slice bytes from to) at ≡ word_at bytes (from + at)
slice_word bytes from to at h = same_word (drop at (slice bytes from to)) (drop (from + at) bytes) (λ j l.
    get_or-drop at (slice bytes from to) j 0
    ∙ slice_at bytes from to (at + j) (omega (arith, h, l))
    ∙ ap (λ (i : ℕ). get_or bytes i 0) (omega arith)
    ∙ sym (get_or-drop (from + at) bytes j 0))

pub length-words_from : (n : ℕ) (bytes : List ℕ) → length (words_from n bytes) ≡ n
length-words_from zero bytes = refl
length-words_from (suc n) bytes = ap suc (length-words_from n (drop 4 bytes))

pub words_from_at : (n : ℕ) (bytes : List ℕ) (k : ℕ) → k < n → get_or (words_from n bytes) k 0 ≡ word_at bytes (4 * k)
words_from_at zero bytes k h = absurd (omega (arith, h))
words_from_at (suc n) bytes zero h = refl
words_from_at (suc n) bytes (suc k) h =
    words_from_at n (drop 4 bytes) k (omega (arith, h))
    ∙ ap (λ (l : List ℕ). word_at l 0) (drop-drop (4 * k) 4 bytes ∙ ap (λ (j : ℕ). drop j bytes) (omega arith))

pub length-spelled : (words : List ℕ) → length (spelled words) ≡ 4 * length words
unfolding spelled
length-spelled [] = refl
length-spelled (w ∷ words) = omega (arith, length-spelled words)

pub spelled_at : (words : List ℕ) (k : ℕ) → k < 4 * length words
    → get_or (spelled words) k 0 ≡ byte_in (get_or words (k / 4) 0) (k % 4)
unfolding spelled
spelled_at [] k h = absurd (omega (arith, h))
spelled_at (w ∷ words) zero h = omega arith
spelled_at (w ∷ words) (suc zero) h = refl
spelled_at (w ∷ words) (suc (suc zero)) h = refl
spelled_at (w ∷ words) (suc (suc (suc zero))) h = refl
spelled_at (w ∷ words) (suc (suc (suc (suc k)))) h =
    let q : suc (suc (suc (suc k))) / 4 ≡ suc (k / 4) = omega arith in
    let r : suc (suc (suc (suc k))) % 4 ≡ k % 4 = omega arith in
    spelled_at words k (omega (arith, h))
    ∙ sym (ap (λ (j : ℕ). byte_in (get_or (w ∷ words) j 0) (suc (suc (suc (suc k))) % 4)) q
    ∙ ap (λ (j : ℕ). byte_in (get_or words (k / 4) 0) j) r)

-- ---- words over and over

pub length-repeated : (n : ℕ) (l : List ℕ) → length (repeated n l) ≡ n * length l
length-repeated zero l = omega arith
length-repeated (suc n) l = length-append l (repeated n l) ∙ omega (arith, length-repeated n l)

pub repeated_at : (n : ℕ) (l : List ℕ) (j : ℕ) → j < n * length l
    → get_or (repeated n l) j 0 ≡ get_or l (j % length l) 0
repeated_at zero l j h = absurd (omega (arith, h))
repeated_at (suc n) l j h = elim (cases_lt j (length l)) [
  | inl p ↦ get_or_append_left l (repeated n l) 0 j p ∙ ap (λ (k : ℕ). get_or l k 0) (sym (mod-eq_of_lt p))
  | inr p ↦
      let back : j ≡ j - length l + 1 * length l = omega (arith, p) in
      get_or-append_right l (repeated n l) (length l) j 0 refl p
      ∙ repeated_at n l (j - length l) (omega (arith, h, p))
      ∙ ap (λ (k : ℕ). get_or l k 0) (sym (ap (λ (i : ℕ). i % length l) back
      ∙ add-mul-mod_self_right (j - length l) 1 (length l)))
]

pub spelled_over : (n : ℕ) (l : List ℕ) (k : ℕ) → k < 4 * (n * length l)
    → get_or (spelled (repeated n l)) k 0 ≡ byte_in (get_or l (k / 4 % length l) 0) (k % 4)
spelled_over n l k h =
    let many = length-repeated n l in
    spelled_at (repeated n l) k (omega (arith, h, many))
    ∙ ap (λ (w : ℕ). byte_in w (k % 4)) (repeated_at n l (k / 4) (omega (arith, h)))
