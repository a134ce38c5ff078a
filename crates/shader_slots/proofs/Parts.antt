-- What stands where in a buffer's bytes, once a word of a part of them was set.
use Rattle.std.proofs.Common.{◌≡◌, ℕ, zero, suc, [], ◌∷◌, ◌+◌, ◌-◌, ◌/◌, ◌%◌, ◌<◌, ◌≤◌, List, ◌++◌, length, take, drop, get_or, refl, sym, ap, ◌∙◌, arith}
use Rattle.std.proofs.lemmas.List.{length-append, length-take, length-drop, drop-drop, take_at, drop_at, take-append-drop, get_or-drop}
use Rattle.base_lemmas.specs.ByteWords.{words_of}
use Rattle.base_lemmas.proofs.ByteWords.{words_length}
use Rattle.shader_slots.specs.Part.{part_of, bytes_of}
use Rattle.shader_slots.proofs.Spelling.{spelled_back}

-- a part has as many words as its bytes make
pub words_within : (bytes : List ℕ) (from to : ℕ) → to ≤ length bytes → length ((part_of bytes from to).words) ≡ (to - from) / 4
words_within bytes from to h =
    words_length (take (to - from) (drop from bytes))
    ∙ ap (λ n. n / 4) (omega (arith, length-take (to - from) (drop from bytes), length-drop from bytes))

module _ (bytes piece : List ℕ) (from to : ℕ) where
  -- the bytes with a piece written over as many of them
  abbrev pub over : List ℕ
  over = take from bytes ++ (piece ++ drop (length piece) (drop from bytes))

  module _ (order : from ≤ to) (within : to ≤ length bytes) (fits : length piece ≡ to - from) where
    front : length (take from bytes) ≡ from
    front = omega (arith, length-take from bytes)

    pub length-over : length over ≡ length bytes
    length-over =
        omega (
          arith,
          front,
          length-append (take from bytes) (piece ++ drop (length piece) (drop from bytes)),
          length-append piece (drop (length piece) (drop from bytes)),
          length-drop (length piece) (drop from bytes),
          length-drop from bytes,
        )

    behind : drop from over ≡ piece ++ drop (length piece) (drop from bytes)
    behind = drop_at (take from bytes) (piece ++ drop (length piece) (drop from bytes)) from front

    before : take from over ≡ take from bytes
    before = take_at (take from bytes) (piece ++ drop (length piece) (drop from bytes)) from front

    middle : take (to - from) (drop from over) ≡ piece
    middle = ap (take (to - from)) behind ∙ take_at piece (drop (length piece) (drop from bytes)) (to - from) fits

    after : drop to over ≡ drop to bytes
    after =
        let at : from + length piece ≡ to = omega (arith, fits) in
        ap (λ n. drop n over) (sym at)
        ∙ sym (drop-drop (length piece) from over)
        ∙ ap (drop (length piece)) behind
        ∙ drop_at piece (drop (length piece) (drop from bytes)) (length piece) refl
        ∙ drop-drop (length piece) from bytes
        ∙ ap (λ n. drop n bytes) at

    -- the part then has the piece's words, and all around it is as before
    pub part_over : part_of over from to ≡ record { before = take from bytes; words = words_of piece; after = drop to bytes }
    part_over = rw (before, middle, after) refl

-- what holds of each byte holds of each that is left of them
each-dropped : (n : ℕ) (b : List ℕ) → ((i : ℕ) → get_or b i 0 < 256) → (i : ℕ) → get_or (drop n b) i 0 < 256
each-dropped n b h i = rw (get_or-drop n b i 0) (h (n + i))

each-taken : (n : ℕ) (b : List ℕ) → ((i : ℕ) → get_or b i 0 < 256) → (i : ℕ) → get_or (take n b) i 0 < 256
each-taken zero b h i = omega arith
each-taken (suc n) [] h i = h i
each-taken (suc n) (x ∷ xs) h zero = h 0
each-taken (suc n) (x ∷ xs) h (suc i) = each-taken n xs (λ k. h (suc k)) i

each_byte : (b : List ℕ) → ((i : ℕ) → i < length b → get_or b i 0 < 256) → (i : ℕ) → get_or b i 0 < 256
each_byte [] h i = omega arith
each_byte (x ∷ xs) h zero = h 0 (omega arith)
each_byte (x ∷ xs) h (suc i) = each_byte xs (λ k lt. h (suc k) (omega arith)) i

-- a buffer's bytes are those around the part, and those that spell its words
pub bytes_back : (bytes : List ℕ) (from to : ℕ) → from ≤ to → to ≤ length bytes → (to - from) % 4 ≡ 0 → ((i : ℕ) → i < length bytes → get_or bytes i 0 < 256)
    → bytes_of (part_of bytes from to) ≡ bytes
bytes_back bytes from to order within whole each =
    let part = take (to - from) (drop from bytes) in
    let long : length part ≡ to - from = omega (arith, length-take (to - from) (drop from bytes), length-drop from bytes) in
    let fits : (i : ℕ) → get_or part i 0 < 256 = λ i. each-taken (to - from) (drop from bytes) (each-dropped from bytes (each_byte bytes each)) i in
    let end : drop to bytes ≡ drop (to - from) (drop from bytes) = ap (λ n. drop n bytes) (omega arith) ∙ sym (drop-drop (to - from) from bytes) in
    ap (λ b. take from bytes ++ (b ++ drop to bytes)) (spelled_back part (ap (λ n. n % 4) long ∙ whole) fits)
    ∙ ap (λ b. take from bytes ++ (part ++ b)) end
    ∙ ap (λ b. take from bytes ++ b) (take-append-drop (to - from) (drop from bytes))
    ∙ take-append-drop from bytes
