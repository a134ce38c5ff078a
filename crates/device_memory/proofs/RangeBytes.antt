-- What is read of a range: its bytes, and its words.
use Rattle.std.proofs.Common.{◌≡◌, ℕ, zero, suc, ◌+◌, ◌-◌, ◌*◌, ◌/◌, ◌%◌, ◌^◌, ◌≤◌, cond, nat_lt, List, [], ◌∷◌, length, take, drop, get_or, map, Option, Some, None, inl, inr, refl, sym, ap, ◌∙◌, arith, length-take, length-drop, get_or-take, get_or-drop, w32}
use Rattle.std.specs.Int.{from_le_bytes}
use Rattle.std.proofs.lemmas.Bool.{cases_lt, cond-true, cond-false, lt-ltb, le-ltb}
use Rattle.dx_types.specs.declared.range.Range.{Range}
use Rattle.buffer_blocks.specs.declared.block.Block.{Block}
use Rattle.buffer_blocks.specs.Block.{bytes_of}
use Rattle.base_lemmas.specs.ByteWords.{words_of}
use Rattle.shader_slots.specs.Part.{spelled}
use Rattle.base_lemmas.specs.Lists.{numbers_from}
use Rattle.vk_types.specs.Memory.{byte_in, byte_in_words, byte_of, number_at, word_of}
use Rattle.vk_types.specs.Effects.{words_in}
use Rattle.device_memory.specs.Held.{Held, block_of, byte_at, memory_of, HasPart, IsHeld}
use Rattle.device_memory.specs.Writes.{bytes_if}
use Rattle.device_memory.specs.Binding.{bytes_in}
use Rattle.device_memory.proofs.Puts.{number_get}

-- ---- bytes

past_end : (ns : List ℕ) (k : ℕ) → length ns ≤ k → get_or ns k 0 ≡ 0
past_end [] k h = refl
past_end (x ∷ xs) zero h = absurd (omega (arith, h))
past_end (x ∷ xs) (suc k) h = past_end xs k (omega (arith, h))

part_length : (bs : List ℕ) (from to : ℕ) → to ≤ length bs → length (take (to - from) (drop from bs)) ≡ to - from
part_length bs from to h = omega (arith, length-take (to - from) (drop from bs), length-drop from bs)

part_byte : (bs : List ℕ) (from to k : ℕ) → to ≤ length bs → number_at (take (to - from) (drop from bs)) k ≡ cond (nat_lt (from + k) to) (number_at bs (from + k)) 0
part_byte bs from to k room = elim (cases_lt (from + k) to) [
  | inl lt ↦
      number_get (take (to - from) (drop from bs)) k ∙ get_or-take (to - from) (drop from bs) k 0 (omega (arith, lt)) ∙ get_or-drop from bs k 0
      ∙ sym (number_get bs (from + k))
      ∙ sym (cond-true (nat_lt (from + k) to) (number_at bs (from + k)) 0 (lt-ltb (from + k) to lt))
  | inr ge ↦
      number_get (take (to - from) (drop from bs)) k
      ∙ past_end (take (to - from) (drop from bs)) k (omega (arith, part_length bs from to room, ge))
      ∙ sym (cond-false (nat_lt (from + k) to) (number_at bs (from + k)) 0 (le-ltb (from + k) to ge))
]

module _ (r : Range) where
  part_read : (o : Option Block) → HasPart o r.from r.to → (k : ℕ) → number_at (take (r.to - r.from) (drop r.from (bytes_if o))) k ≡ cond (nat_lt (r.from + k) r.to) (byte_at o (r.from + k)) 0
  part_read None h k = absurd h
  part_read (Some b) h k = part_byte (bytes_of b) r.from r.to k h.1

  part_long : (o : Option Block) → HasPart o r.from r.to → length (take (r.to - r.from) (drop r.from (bytes_if o))) ≡ r.to - r.from
  part_long None h = absurd h
  part_long (Some b) h = part_length (bytes_of b) r.from r.to h.1

  pub range_byte : (es : Held) → IsHeld es r → (k : ℕ) → number_at (bytes_in es r) k ≡ byte_of (memory_of es) r k
  range_byte es held k = part_read (block_of es r.block) held k

  pub range_long : (es : Held) → IsHeld es r → length (bytes_in es r) ≡ r.to - r.from
  range_long es held = part_long (block_of es r.block) held

-- ---- words

-- word k by a function of bytes
abbrev word_by : (ℕ → ℕ) → ℕ → ℕ
word_by f k = f (4 * k) + (256 * f (4 * k + 1) + (65536 * f (4 * k + 2) + 16777216 * f (4 * k + 3)))

four_more : (n : ℕ) → suc (suc (suc (suc n))) / 4 ≡ suc (n / 4)
four_more n = omega arith

words_by : (bs : List ℕ) (f : ℕ → ℕ) (i : ℕ) → ((k : ℕ) → number_at bs k ≡ f (4 * i + k)) → words_of bs ≡ map (word_by f) (numbers_from i (length bs / 4))
words_by [] f i h = refl
words_by (a ∷ []) f i h = refl
words_by (a ∷ b ∷ []) f i h = refl
words_by (a ∷ b ∷ c ∷ []) f i h = refl
words_by (a ∷ b ∷ c ∷ d ∷ rest) f i h =
    let a_is : a ≡ f (4 * i) = h 0 ∙ ap f (omega arith) in
    let b_is : b ≡ f (4 * i + 1) = h 1 in
    let c_is : c ≡ f (4 * i + 2) = h 2 in
    let d_is : d ≡ f (4 * i + 3) = h 3 in
    let first : a + 2 ^ 8 * b + 2 ^ 16 * c + 2 ^ 24 * d ≡ word_by f i = omega (arith, a_is, b_is, c_is, d_is) in
    let later : words_of rest ≡ map (word_by f) (numbers_from (suc i) (length rest / 4)) =
    words_by rest f (suc i) (λ k. h (suc (suc (suc (suc k)))) ∙ ap f (omega arith)) in
    ap (λ (w : ℕ). w ∷ words_of rest) first
    ∙ ap (λ (ws : List ℕ). word_by f i ∷ ws) later
    ∙ ap (λ (n : ℕ). map (word_by f) (numbers_from i n)) (sym (four_more (length rest)))

pub range_words : (es : Held) (r : Range) → IsHeld es r → words_of (bytes_in es r) ≡ words_in (memory_of es) r
range_words es r held =
    words_by (bytes_in es r) (byte_of (memory_of es) r) 0 (λ k. range_byte r es held k ∙ ap (byte_of (memory_of es) r) (omega arith))
    ∙ ap (λ (n : ℕ). map (word_of (memory_of es) r) (numbers_from 0 (n / 4))) (range_long r es held)

-- the number in four bytes, the lowest first
le_word : (a b c d : ℕ) → from_le_bytes w32 (a ∷ b ∷ c ∷ d ∷ []) ≡ a + (256 * b + (65536 * c + 16777216 * d))
le_word a b c d = omega arith

pub range_word : (es : Held) (r : Range) → IsHeld es r → (part : List ℕ) → part ≡ bytes_in es r → (k : ℕ)
    → from_le_bytes w32 (get_or part (4 * k) 0 ∷ get_or part (4 * k + 1) 0 ∷ get_or part (4 * k + 2) 0 ∷ get_or part (4 * k + 3) 0 ∷ []) ≡ word_of (memory_of es) r k
range_word es r held part is k =
    let byte : (j : ℕ) → get_or part j 0 ≡ byte_of (memory_of es) r j = λ j. sym (number_get part j) ∙ ap (λ (bs : List ℕ). number_at bs j) is ∙ range_byte r es held j in
    le_word (get_or part (4 * k) 0) (get_or part (4 * k + 1) 0) (get_or part (4 * k + 2) 0) (get_or part (4 * k + 3) 0)
    ∙ ap (λ (x : ℕ). x + (256 * get_or part (4 * k + 1) 0 + (65536 * get_or part (4 * k + 2) 0 + 16777216 * get_or part (4 * k + 3) 0))) (byte (4 * k))
    ∙ ap (λ (x : ℕ). byte_of (memory_of es) r (4 * k) + (256 * x + (65536 * get_or part (4 * k + 2) 0 + 16777216 * get_or part (4 * k + 3) 0))) (byte (4 * k + 1))
    ∙ ap (λ (x : ℕ). byte_of (memory_of es) r (4 * k) + (256 * byte_of (memory_of es) r (4 * k + 1) + (65536 * x + 16777216 * get_or part (4 * k + 3) 0))) (byte (4 * k + 2))
    ∙ ap (λ (x : ℕ). byte_of (memory_of es) r (4 * k) + (256 * byte_of (memory_of es) r (4 * k + 1) + (65536 * byte_of (memory_of es) r (4 * k + 2) + 16777216 * x))) (byte (4 * k + 3))

-- ---- spelling

pub spelled_long : (ws : List ℕ) → length (spelled ws) ≡ 4 * length ws
spelled_long [] = refl
spelled_long (w ∷ ws) = let rest = spelled_long ws in omega arith

pub spelled_byte : (ws : List ℕ) (k : ℕ) → number_at (spelled ws) k ≡ byte_in_words ws k
spelled_byte [] k = sym (nothing (k % 4))
  where
    nothing : (j : ℕ) → byte_in 0 j ≡ 0
    nothing j = omega arith
spelled_byte (w ∷ ws) zero = omega arith
spelled_byte (w ∷ ws) (suc zero) = refl
spelled_byte (w ∷ ws) (suc (suc zero)) = refl
spelled_byte (w ∷ ws) (suc (suc (suc zero))) = refl
spelled_byte (w ∷ ws) (suc (suc (suc (suc k)))) =
    let place : suc (suc (suc (suc k))) % 4 ≡ k % 4 = omega arith in
    spelled_byte ws k
    ∙ ap (λ (n : ℕ). byte_in (number_at (w ∷ ws) n) (k % 4)) (sym (four_more k))
    ∙ ap (byte_in (number_at (w ∷ ws) (suc (suc (suc (suc k))) / 4))) (sym place)
