-- Fields of bytes.
use Rattle.std.proofs.Common.{◌≡◌, ℕ, zero, suc, ◌+◌, ◌-◌, ◌/◌, ◌<◌, ◌≤◌, ◌⊎◌, false, eqb, List, [], ◌∷◌, ◌++◌, length, take, drop, sym, ap, ◌∙◌, arith, inl, inr}
use Rattle.std.proofs.lemmas.List.{take_at, take_all, take-append-drop, length-append}
use Rattle.hex.specs.Hex.{encode_lower, encode_with, lower_digits}
use Rattle.hex.proofs.HexLemmas.{length-encode_with}
use Rattle.log_text.specs.LogText.{bytes_field}

-- the word of a field of bytes
pub field_word : (bytes word : List ℕ) → 32 ∷ word ≡ bytes_field bytes → (word ≡ 45 ∷ []) ⊎ (word ≡ encode_lower bytes)
field_word [] word e = inl cc
field_word (b ∷ bs) word e = inr cc

pub field_some : (bytes : List ℕ) → 2 ≤ length (bytes_field bytes)
unfolding encode_with
field_some [] = omega arith
field_some (b ∷ bs) = omega arith

pub field_from : (bytes word : List ℕ) → word ≡ encode_lower bytes → 0 < length word → 32 ∷ word ≡ bytes_field bytes
unfolding encode_with
field_from [] word e some = absurd (omega (arith, ap length e))
field_from (b ∷ bs) word e some = ap (λ (w : List ℕ). 32 ∷ w) e

pub field_count : (bytes : List ℕ) → (length (bytes_field bytes) - 1) / 2 ≡ length bytes
field_count [] = omega arith
field_count (b ∷ bs) = omega (arith, length-encode_with lower_digits (b ∷ bs))

-- the bytes that were decoded over the room behind others stand behind them
pub put_decoded : (old room resized seen new : List ℕ) (from m len : ℕ) → from ≡ length old → resized ≡ take (from + m) old ++ room → length room ≡ m
    → take from new ≡ take from seen → seen ≡ resized → length new ≡ length seen → len ≡ from + m
    → take len (new ++ drop (length new) resized) ≡ old ++ drop from new
put_decoded old room resized seen new from m len start grown made kept is size total =
    let whole : take (from + m) old ≡ old = take_all (from + m) old (omega arith) in
    let both_parts : resized ≡ old ++ room = grown ∙ ap (λ (l : List ℕ). l ++ room) whole in
    let long : length new ≡ len = omega (arith, ap length is, ap length both_parts, length-append old room) in
    let front : take from new ≡ old = kept ∙ ap (take from) (is ∙ both_parts) ∙ take_at old room from (sym start) in
    take_at new (drop (length new) resized) len long ∙ sym (take-append-drop from new) ∙ ap (λ (l : List ℕ). l ++ drop from new) front

pub word_pos : (n : ℕ) → eqb n 0 ≡ false → 0 < n
word_pos zero e = absurd cc
word_pos (suc n) e = omega arith
