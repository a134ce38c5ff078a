-- The values of the formulas of bit fields.
use Rattle.std.proofs.Common.{◌≡◌, ℕ, ◌+◌, ◌-◌, ◌%◌, ◌^◌, ◌<◌, Bool, true, false, if◌then◌else◌, List, [], ◌∷◌, Option, Some, None, refl, ap, ◌∙◌, arith}
use Rattle.std.specs.Prelude.{◌==◌, nat_lt, bit_and}
use Rattle.std.proofs.lemmas.Bool.{eqb-false, ltb-true, lt-ltb}
use Rattle.std.proofs.lemmas.Nat.{and_mask}
use Rattle.shader_model.specs.Arithmetic.{added, left, right, signed_right, five, field}
use Rattle.spirv_model.specs.Meaning.Values.{Value, Word, shifted, subtracted}
use Rattle.spirv_emit.specs.declared.formula.Step.{Step}
use Rattle.spirv_emit.specs.declared.formula.Formula.TheVariants as formula
use Rattle.spirv_emit.specs.Steps.{steps_of}
use Rattle.spirv_emit.specs.Frames.{then_made, last_value, steps_value}

low_five : (y : ℕ) → bit_and y 31 ≡ five y
low_five y = and_mask y 5

shifted_word : (k w : ℕ) → k < 32 → shifted k w ≡ Some (Word w)
shifted_word k w lt = ap (λ t. if t then Some (Word w) else None) (lt-ltb k 32 lt)

-- a shift by less than 32, and what follows
then_shifted : (k w : ℕ) (go : Value → Option Value) → k < 32 → then_made (shifted k w) go ≡ go (Word w)
then_shifted k w go lt = ap (λ q. then_made q go) (shifted_word k w lt)

mask_below : (y : ℕ) → bit_and y 31 < 32
mask_below y = let e = low_five y in omega (arith, e)

abbrev behind : List Step → List Step
behind [] = []
behind (s ∷ ss) = ss

-- ## A field that is taken out

choose_in : (t u : Bool) (x y : ℕ) → Some (if t then Word 0 else (if u then Word x else Word y)) ≡ Some (Word (if t then 0 else (if u then x else y)))
choose_in true u x y = refl
choose_in false true x y = refl
choose_in false false x y = refl

-- the places of the two shifts
abbrev up_by : (w o : ℕ) → ℕ
up_by w o = bit_and (subtracted 32 (added w o)) 31

abbrev down_by : ℕ → ℕ
down_by w = bit_and (subtracted 32 w) 31

up_is : (w o : ℕ) → 0 < w → w + o < 32 → up_by w o ≡ 32 - (w + o)
up_is w o pos lt = low_five (subtracted 32 (added w o)) ∙ (let z : (32 + (2 ^ 32 - (w + o) % 2 ^ 32) % 2 ^ 32) % 2 ^ 32 % 32 ≡ 32 - (w + o) = omega (arith, pos, lt) in z)

down_is : (w : ℕ) → 0 < w → w < 32 → down_by w ≡ 32 - w
down_is w pos lt = low_five (subtracted 32 w) ∙ (let z : (32 + (2 ^ 32 - w) % 2 ^ 32) % 2 ^ 32 % 32 ≡ 32 - w = omega (arith, pos, lt) in z)

field_is : (shift : ℕ → ℕ → ℕ) (w o v : ℕ) → w < 32 → o < 32 → (if w == 0 then 0 else (if nat_lt (added w o) 32 then shift (left v (up_by w o)) (down_by w) else shift v o)) ≡ field shift w o v
field_is shift w o v lw lo = by_width (w == 0) refl
  where
    sum_is : added w o ≡ w + o
    sum_is = omega (arith, lw, lo)

    by_end : (u : Bool) → nat_lt (w + o) 32 ≡ u → 0 < w → (if u then shift (left v (up_by w o)) (down_by w) else shift v o) ≡ (if u then shift (left v (32 - (w + o))) (32 - w) else shift v o)
    by_end true e pos = ap (λ k. shift (left v k) (down_by w)) (up_is w o pos (ltb-true (w + o) 32 e)) ∙ ap (λ k. shift (left v (32 - (w + o))) k) (down_is w pos lw)
    by_end false e pos = refl

    by_width : (t : Bool) → (w == 0) ≡ t → (if t then 0 else (if nat_lt (added w o) 32 then shift (left v (up_by w o)) (down_by w) else shift v o)) ≡ (if t then 0 else (if nat_lt (w + o) 32 then shift (left v (32 - (w + o))) (32 - w) else shift v o))
    by_width true e = refl
    by_width false e =
        let ne = eqb-false w 0 e in
        ap (λ k. if nat_lt k 32 then shift (left v (up_by w o)) (down_by w) else shift v o) sum_is ∙ by_end (nat_lt (w + o) 32) refl (omega (arith, ne))

pub field_gives : (a b c d e : ℕ) → steps_value (a ∷ b ∷ c ∷ d ∷ e ∷ []) (steps_of formula.Field) ≡ Some (Word (field right (five a) (five b) c))
field_gives a b c d e =
    let xs = a ∷ b ∷ c ∷ d ∷ e ∷ [] in
    let ss = behind (behind (steps_of formula.Field)) in
    let w = five a in
    let o = five b in
    let m4 = up_by w o in
    let m5 = left c m4 in
    let m7 = down_by w in
    let sum = added w o in
    let made5 = Word w ∷ Word o ∷ Word sum ∷ Word (subtracted 32 sum) ∷ Word m4 ∷ [] in
    let made8 = Word w ∷ Word o ∷ Word sum ∷ Word (subtracted 32 sum) ∷ Word m4 ∷ Word m5 ∷ Word (subtracted 32 w) ∷ Word m7 ∷ [] in
    let s6 = behind (behind (behind (behind ss))) in
    let s9 = behind (behind (behind s6)) in
    ap (λ k. last_value xs (Word k ∷ Word (bit_and b 31) ∷ []) (Word (bit_and b 31)) ss) (low_five a)
    ∙ ap (λ k. last_value xs (Word w ∷ Word k ∷ []) (Word k) ss) (low_five b)
    ∙ then_shifted m4 m5 (λ u. last_value xs (Word w ∷ Word o ∷ Word sum ∷ Word (subtracted 32 sum) ∷ Word m4 ∷ u ∷ []) u s6) (mask_below (subtracted 32 sum))
    ∙ then_shifted m7 (right m5 m7) (λ u. last_value xs (Word w ∷ Word o ∷ Word sum ∷ Word (subtracted 32 sum) ∷ Word m4 ∷ Word m5 ∷ Word (subtracted 32 w) ∷ Word m7 ∷ u ∷ []) u s9) (mask_below (subtracted 32 w))
    ∙ then_shifted o (right c o) (λ u. last_value xs (Word w ∷ Word o ∷ Word sum ∷ Word (subtracted 32 sum) ∷ Word m4 ∷ Word m5 ∷ Word (subtracted 32 w) ∷ Word m7 ∷ Word (right m5 m7) ∷ u ∷ []) u (behind s9)) (omega arith)
    ∙ choose_in (w == 0) (nat_lt sum 32) (right m5 m7) (right c o)
    ∙ ap (λ k. Some (Word k)) (field_is right w o c (omega arith) (omega arith))

pub signed_field_gives : (a b c d e : ℕ) → steps_value (a ∷ b ∷ c ∷ d ∷ e ∷ []) (steps_of formula.SignedField) ≡ Some (Word (field signed_right (five a) (five b) c))
signed_field_gives a b c d e =
    let xs = a ∷ b ∷ c ∷ d ∷ e ∷ [] in
    let ss = behind (behind (steps_of formula.SignedField)) in
    let w = five a in
    let o = five b in
    let m4 = up_by w o in
    let m5 = left c m4 in
    let m7 = down_by w in
    let sum = added w o in
    let s6 = behind (behind (behind (behind ss))) in
    let s9 = behind (behind (behind s6)) in
    ap (λ k. last_value xs (Word k ∷ Word (bit_and b 31) ∷ []) (Word (bit_and b 31)) ss) (low_five a)
    ∙ ap (λ k. last_value xs (Word w ∷ Word k ∷ []) (Word k) ss) (low_five b)
    ∙ then_shifted m4 m5 (λ u. last_value xs (Word w ∷ Word o ∷ Word sum ∷ Word (subtracted 32 sum) ∷ Word m4 ∷ u ∷ []) u s6) (mask_below (subtracted 32 sum))
    ∙ then_shifted m7 (signed_right m5 m7) (λ u. last_value xs (Word w ∷ Word o ∷ Word sum ∷ Word (subtracted 32 sum) ∷ Word m4 ∷ Word m5 ∷ Word (subtracted 32 w) ∷ Word m7 ∷ u ∷ []) u s9) (mask_below (subtracted 32 w))
    ∙ then_shifted o (signed_right c o) (λ u. last_value xs (Word w ∷ Word o ∷ Word sum ∷ Word (subtracted 32 sum) ∷ Word m4 ∷ Word m5 ∷ Word (subtracted 32 w) ∷ Word m7 ∷ Word (signed_right m5 m7) ∷ u ∷ []) u (behind s9)) (omega arith)
    ∙ choose_in (w == 0) (nat_lt sum 32) (signed_right m5 m7) (signed_right c o)
    ∙ ap (λ k. Some (Word k)) (field_is signed_right w o c (omega arith) (omega arith))
