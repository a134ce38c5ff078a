-- What a write to memory shows of a buffer, and what is read of it.
use Rattle.std.proofs.Common.{◌≡◌, ℕ, zero, suc, ◌+◌, ◌-◌, ◌*◌, ◌/◌, ◌%◌, ◌<◌, ◌≤◌, ◌==◌, Bool, true, false, ◌&&◌}
use Rattle.std.proofs.Common.{cond, eqb, ltb, leb, List, length, map, drop, get_or, refl, sym, ap, ◌∙◌, arith, inl}
use Rattle.std.proofs.Common.{inr}
use Rattle.std.proofs.lemmas.Bool.{le-leb, lt-leb, lt-ltb, le-ltb, eq-eqb, ne_eqb, cases_lt, and_from, and_left}
use Rattle.std.proofs.lemmas.Bool.{and_right}
use Rattle.std.proofs.lemmas.List.{length-map, get_or-map, get_or-drop, get_or_default, same_lists}
use Rattle.base_lemmas.specs.Lists.{numbers_from}
use Rattle.vk_types.specs.Memory.{Memory, range, covers, put, byte_of, word_of, byte_in}
use Rattle.vk_types.specs.Effects.{words_in}
use Rattle.d3d_model.specs.Regions as lists
use Rattle.d3d_model.specs.Regions.{slice, words_from, words_of, word_at, spelled, repeated}
use Rattle.d3d_model.specs.Memory.{result_of_word}
use Rattle.d3d_model.proofs.Sized.{length-put}
use Rattle.log_script.specs.Showing.{Shows}
use Rattle.log_script.proofs.Meant.ByteLists.{before_piece, in_piece, behind_piece, length-slice, slice_at}
use Rattle.log_script.proofs.Meant.ByteLists.{slice_word, length-words_from, words_from_at, length-spelled}
use Rattle.log_script.proofs.Meant.ByteLists.{length-repeated, spelled_over}

-- ---- writes

module _ (m : Memory) (b from to : ℕ) (f : ℕ → ℕ) where
  is_put : (i : ℕ) (c : Bool) → covers (range b from to) b i ≡ c
      → put (range b from to) f m b i ≡ cond c (f (i - from)) (m b i)
  is_put i c e = ap (λ (x : Bool). cond x (f (i - from)) (m b i)) e

  put_before : (i : ℕ) → i < from → put (range b from to) f m b i ≡ m b i
  put_before i l =
      is_put i false (and_right (eqb b b) (leb from i && ltb i to)
      (and_left (leb from i) (ltb i to) (lt-leb from i l)))

  put_inside : (i : ℕ) → from ≤ i → i < to → put (range b from to) f m b i ≡ f (i - from)
  put_inside i l u =
      is_put i true (and_from (eqb b b) (leb from i && ltb i to) (eq-eqb b b refl)
      (and_from (leb from i) (ltb i to) (le-leb from i l) (lt-ltb i to u)))

  put_behind : (i : ℕ) → to ≤ i → put (range b from to) f m b i ≡ m b i
  put_behind i u =
      is_put i false (and_right (eqb b b) (leb from i && ltb i to)
      (and_right (leb from i) (ltb i to) (le-ltb i to u)))

  -- a write of the bytes of a piece
  pub shows_put : (old piece : List ℕ) → Shows m b old → to ≡ from + length piece → to ≤ length old
      → ((k : ℕ) → k < length piece → f k ≡ get_or piece k 0)
      → Shows (put (range b from to) f m) b (lists.put old from piece)
  shows_put old piece shows end room same i h =
      let fits : from + length piece ≤ length old = omega (arith, end, room) in
      let inside : i < length old = omega (arith, h, length-put old from piece) in
      elim (cases_lt i from) [
        | inl l ↦ put_before i l ∙ shows i inside ∙ sym (before_piece old piece from fits i l)
        | inr l ↦ elim (cases_lt i to) [
          | inl u ↦ put_inside i l u ∙ same (i - from) (omega (arith, l, u, end))
              ∙ sym (in_piece old piece from fits i l (omega (arith, u, end)))
          | inr u ↦ put_behind i u ∙ shows i inside ∙ sym (behind_piece old piece from fits i (omega (arith, u, end)))
        ]
      ]

  -- a write of words that are said over and over
  pub shows_repeated : (old : List ℕ) (n : ℕ) (l : List ℕ) → Shows m b old → to ≡ from + 4 * (n * length l)
      → to ≤ length old
      → ((k : ℕ) → k < 4 * (n * length l) → f k ≡ byte_in (get_or l (k / 4 % length l) 0) (k % 4))
      → Shows (put (range b from to) f m) b (lists.put old from (spelled (repeated n l)))
  shows_repeated old n l shows end room same =
      let long : length (spelled (repeated n l)) ≡ 4 * (n * length l) = length-spelled (repeated n l)
      ∙ ap (λ (j : ℕ). 4 * j) (length-repeated n l) in
      shows_put old (spelled (repeated n l)) shows (end ∙ ap (λ (j : ℕ). from + j) (sym long)) room (λ k h.
      let u : k < 4 * (n * length l) = omega (arith, h, long) in
      same k u ∙ sym (spelled_over n l k u))

-- a write over the whole of a buffer
pub shows_whole : (m : Memory) (b size : ℕ) (f : ℕ → ℕ) (bytes : List ℕ) → length bytes ≡ size
    → ((k : ℕ) → k < size → f k ≡ get_or bytes k 0) → Shows (put (range b 0 size) f m) b bytes
shows_whole m b size f bytes long same i h =
    let u : i < size = omega (arith, long, h) in
    put_inside m b 0 size f i (omega arith) u ∙ ap f (omega arith) ∙ same i u

-- ---- reads

module _ (m : Memory) (b from to : ℕ) (bytes : List ℕ) (shows : Shows m b bytes) (room : to ≤ length bytes) where
  pub byte_there : (k : ℕ) → from + k < to → byte_of m (range b from to) k ≡ get_or bytes (from + k) 0
  byte_there k l = ap (λ (x : Bool). cond x (m b (from + k)) 0) (lt-ltb (from + k) to l)
      ∙ shows (from + k) (omega (arith, l, room))

  pub word_there : (k : ℕ) → from + 4 * k + 4 ≤ to → word_of m (range b from to) k ≡ word_at bytes (from + 4 * k)
  word_there k l =
      spelled_out
      (byte_there (4 * k) (omega (arith, l)) ∙ here 0 (omega arith))
      (byte_there (4 * k + 1) (omega (arith, l)) ∙ here 1 (omega arith))
      (byte_there (4 * k + 2) (omega (arith, l)) ∙ here 2 (omega arith))
      (byte_there (4 * k + 3) (omega (arith, l)) ∙ here 3 (omega arith))
    where
      -- byte j of the word
      here : {i : ℕ} (j : ℕ) → i ≡ from + 4 * k + j → get_or bytes i 0 ≡ get_or (drop (from + 4 * k) bytes) j 0
      here j e = ap (λ (n : ℕ). get_or bytes n 0) e ∙ sym (get_or-drop (from + 4 * k) bytes j 0)

      spelled_out : {a0 a1 a2 a3 c0 c1 c2 c3 : ℕ} → a0 ≡ c0 → a1 ≡ c1 → a2 ≡ c2 → a3 ≡ c3
          → a0 + (256 * a1 + (65536 * a2 + 16777216 * a3)) ≡ c0 + 256 * (c1 + 256 * (c2 + 256 * (c3 + 256 * 0)))
      spelled_out p q r s = omega (arith, p, q, r, s)

  -- word k of the range, by the place where it stands in the buffer
  pub word_at_place : (k place : ℕ) → from + 4 * k ≡ place → place + 4 ≤ to
      → word_of m (range b from to) k ≡ word_at bytes place
  word_at_place k place e l = word_there k (omega (arith, e, l)) ∙ ap (word_at bytes) e

-- ---- numbers one after another

length-numbers : (first n : ℕ) → length (numbers_from first n) ≡ n
length-numbers first zero = refl
length-numbers first (suc n) = ap suc (length-numbers (suc first) n)

number_there : (first n k : ℕ) → k < n → get_or (numbers_from first n) k 0 ≡ first + k
number_there first zero k h = absurd (omega (arith, h))
number_there first (suc n) zero h = omega arith
number_there first (suc n) (suc k) h = number_there (suc first) n k (omega (arith, h)) ∙ omega arith

-- a list is what a function gives at each of the first numbers
pub listed : (f : ℕ → ℕ) (n : ℕ) (xs : List ℕ) → length xs ≡ n → ((k : ℕ) → k < n → f k ≡ get_or xs k 0)
    → map f (numbers_from 0 n) ≡ xs
listed f n xs long same =
    let many : length (map f (numbers_from 0 n)) ≡ n = length-map (numbers_from 0 n) f ∙ length-numbers 0 n in
    same_lists (map f (numbers_from 0 n)) xs (many ∙ sym long) (λ k d h.
    let l : k < n = omega (arith, h, many) in
    get_or-map f (numbers_from 0 n) k 0 d (omega (arith, l, length-numbers 0 n))
    ∙ ap f (number_there 0 n k l ∙ omega arith)
    ∙ same k l
    ∙ get_or_default xs k 0 d (omega (arith, l, long)))

-- ---- parts

module _ (m : Memory) (b from to : ℕ) (bytes : List ℕ) (shows : Shows m b bytes) (order : from ≤ to)
    (room : to ≤ length bytes) where
  pub bytes_read : map (byte_of m (range b from to)) (numbers_from 0 (to - from)) ≡ slice bytes from to
  bytes_read = listed (byte_of m (range b from to)) (to - from) (slice bytes from to)
      (length-slice bytes from to order room) (λ k h.
      byte_there m b from to bytes shows room k (omega (arith, h, order)) ∙ sym (slice_at bytes from to k h))

  pub words_read : words_in m (range b from to) ≡ words_of (slice bytes from to)
  unfolding words_of
  words_read =
      let part = slice bytes from to in
      let long : length part / 4 ≡ (to - from) / 4 = ap (λ (n : ℕ). n / 4) (length-slice bytes from to order room) in
      listed (word_of m (range b from to)) ((to - from) / 4) (words_from (length part / 4) part)
      (length-words_from (length part / 4) part ∙ long) (λ k h.
      word_there m b from to bytes shows room k (omega (arith, h, order))
      ∙ sym (slice_word bytes from to (4 * k) (omega (arith, h)))
      ∙ sym (words_from_at (length part / 4) part k (omega (arith, h, long))))

-- ---- predicates

-- the result of a word, as the device and as Direct3D have it
pub result_is : (w : ℕ) → cond (w == 0) 0 1 ≡ result_of_word w
result_is zero = refl
result_is (suc w) = ap (λ (b : Bool). cond b 0 1) (ne_eqb (suc w) 0 (λ e. absurd (let no : ⊥ = omega (arith, e) in no)))
