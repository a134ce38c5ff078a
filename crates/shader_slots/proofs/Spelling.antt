-- Words of bytes: one that is read, one that is written, and the bytes that spell them.
use Rattle.std.proofs.Common.{◌≡◌, ℕ, zero, suc, ◌+◌, ◌-◌, ◌*◌, ◌/◌, ◌%◌, ◌^◌, ◌<◌, ◌≤◌, List, [], ◌∷◌, ◌++◌, length, take, drop, get_or, refl, ap, sym, ◌∙◌, arith, length-drop}
use Rattle.std.proofs.Math.ListN.{set}
use Rattle.std.proofs.lemmas.List.{take_all, drop_all, append-nil}
use Rattle.byteorder.specs.Endian.{little_number, little_bytes}
use Rattle.base_lemmas.specs.ByteWords.{words_of}
use Rattle.base_lemmas.proofs.ByteWords.{words_length}
use Rattle.shader_slots.specs.Part.{spelled}

-- a word stands inside its bytes
pub room : (b : List ℕ) (i : ℕ) → i < length (words_of b) → 4 * i + 4 ≤ length b
room b i h = let e = words_length b in omega arith

-- four times a number, one step of four at a time
fours : ℕ → ℕ
fours zero = zero
fours (suc k) = suc (suc (suc (suc (fours k))))

four-times : (k : ℕ) → fours k ≡ 4 * k
unfolding fours
four-times zero = refl
four-times (suc k) = omega (arith, four-times k)

-- ## Reading

first-word : (a b c d : ℕ) → a + 2 ^ 8 * b + 2 ^ 16 * c + 2 ^ 24 * d ≡ a + 256 * (b + 256 * (c + 256 * (d + 256 * 0)))
first-word a b c d = omega arith

word-fours : (k : ℕ) (b : List ℕ) → k < length (words_of b) → get_or (words_of b) k 0 ≡ little_number 4 (drop (fours k) b)
unfolding fours
word-fours zero (a ∷ b ∷ c ∷ d ∷ rest) h = first-word a b c d
word-fours (suc k) (a ∷ b ∷ c ∷ d ∷ rest) h = word-fours k rest (omega arith)
word-fours k [] h = absurd (omega arith)
word-fours k (a ∷ []) h = absurd (omega arith)
word-fours k (a ∷ b ∷ []) h = absurd (omega arith)
word-fours k (a ∷ b ∷ c ∷ []) h = absurd (omega arith)

-- the number in the four bytes of a word is that word
pub word_read : (b : List ℕ) (i : ℕ) → i < length (words_of b) → little_number 4 (take (length b - 4 * i) (drop (4 * i) b)) ≡ get_or (words_of b) i 0
word_read b i h =
    ap (little_number 4) (take_all (length b - 4 * i) (drop (4 * i) b) (omega (arith, length-drop (4 * i) b)))
    ∙ ap (λ z. little_number 4 (drop z b)) (sym (four-times i))
    ∙ sym (word-fours i b h)

-- ## Writing

four-back : (n : ℕ) → n < 2 ^ 32 → n % 256 + 2 ^ 8 * (n / 256 ^ 1 % 256) + 2 ^ 16 * (n / 256 ^ 2 % 256) + 2 ^ 24 * (n / 256 ^ 3 % 256) ≡ n
four-back n lt = omega arith

set-fours : (k v : ℕ) (b : List ℕ) → k < length (words_of b) → v < 2 ^ 32
    → words_of (take (fours k) b ++ (little_bytes 4 v ++ drop 4 (drop (fours k) b))) ≡ set (words_of b) k v
unfolding fours
set-fours zero v (a ∷ b ∷ c ∷ d ∷ rest) h lt = ap (λ z. z ∷ words_of rest) (four-back v lt)
set-fours (suc k) v (a ∷ b ∷ c ∷ d ∷ rest) h lt = ap (λ z. (a + 2 ^ 8 * b + 2 ^ 16 * c + 2 ^ 24 * d) ∷ z) (set-fours k v rest (omega arith) lt)
set-fours k v [] h lt = absurd (omega arith)
set-fours k v (a ∷ []) h lt = absurd (omega arith)
set-fours k v (a ∷ b ∷ []) h lt = absurd (omega arith)
set-fours k v (a ∷ b ∷ c ∷ []) h lt = absurd (omega arith)

whole-rest : (n : ℕ) (p xs : List ℕ) → length xs ≤ n → (p ++ drop 4 (take n xs)) ++ drop n xs ≡ p ++ drop 4 xs
whole-rest n p xs h =
    ap (λ z. (p ++ drop 4 z) ++ drop n xs) (take_all n xs h)
    ∙ ap (λ z. (p ++ drop 4 xs) ++ z) (drop_all n xs h)
    ∙ append-nil (p ++ drop 4 xs)

-- a word's four bytes, written, are that word among the others
pub word_written : (b : List ℕ) (i v : ℕ) → i < length (words_of b) → v < 2 ^ 32
    → words_of (take (4 * i) b ++ ((little_bytes 4 v ++ drop 4 (take (length b - 4 * i) (drop (4 * i) b))) ++ drop (length b - 4 * i) (drop (4 * i) b)))
    ≡ set (words_of b) i v
word_written b i v h lt =
    ap (λ z. words_of (take (4 * i) b ++ z)) (whole-rest (length b - 4 * i) (little_bytes 4 v) (drop (4 * i) b) (omega (arith, length-drop (4 * i) b)))
    ∙ ap (λ z. words_of (take z b ++ (little_bytes 4 v ++ drop 4 (drop z b)))) (sym (four-times i))
    ∙ set-fours i v b h lt

-- ## Spelling

byte-0 : (a b c d : ℕ) → a < 256 → (a + 2 ^ 8 * b + 2 ^ 16 * c + 2 ^ 24 * d) % 256 ≡ a
byte-0 a b c d p = omega arith

byte-1 : (a b c d : ℕ) → a < 256 → b < 256 → (a + 2 ^ 8 * b + 2 ^ 16 * c + 2 ^ 24 * d) / 256 ^ 1 % 256 ≡ b
byte-1 a b c d p q = omega arith

byte-2 : (a b c d : ℕ) → a < 256 → b < 256 → c < 256 → (a + 2 ^ 8 * b + 2 ^ 16 * c + 2 ^ 24 * d) / 256 ^ 2 % 256 ≡ c
byte-2 a b c d p q r = omega arith

byte-3 : (a b c d : ℕ) → a < 256 → b < 256 → c < 256 → d < 256 → (a + 2 ^ 8 * b + 2 ^ 16 * c + 2 ^ 24 * d) / 256 ^ 3 % 256 ≡ d
byte-3 a b c d p q r s = omega arith

-- bytes of whole words are those that spell the words
pub spelled_back : (b : List ℕ) → length b % 4 ≡ 0 → ((i : ℕ) → get_or b i 0 < 256) → spelled (words_of b) ≡ b
spelled_back [] m h = refl
spelled_back (a ∷ []) m h = absurd (omega arith)
spelled_back (a ∷ b ∷ []) m h = absurd (omega arith)
spelled_back (a ∷ b ∷ c ∷ []) m h = absurd (omega arith)
spelled_back (a ∷ b ∷ c ∷ d ∷ rest) m h =
    let e = spelled_back rest (omega arith) (λ i. h (suc (suc (suc (suc i))))) in
    rw (byte-0 a b c d (h 0), byte-1 a b c d (h 0) (h 1), byte-2 a b c d (h 0) (h 1) (h 2), byte-3 a b c d (h 0) (h 1) (h 2) (h 3), e) refl
