-- The value of the formula that inserts a field.
use Rattle.std.proofs.Common.{◌≡◌, ℕ, ◌-◌, ◌^◌, ◌<◌, ◌≤◌, if◌then◌else◌, List, [], ◌∷◌, Option, Some, None, ap, ◌∙◌, arith}
use Rattle.std.specs.Prelude.{bit_and, bit_or}
use Rattle.std.proofs.lemmas.Bool.{lt-ltb}
use Rattle.std.proofs.lemmas.Nat.{and_mask, pow_pos}
use Rattle.std.proofs.Math.Pow.{pow-lt}
use Rattle.shader_model.specs.Arithmetic.{inverted, left, five, inserted}
use Rattle.spirv_model.specs.Meaning.Values.{Value, Word, shifted, subtracted}
use Rattle.spirv_emit.specs.declared.formula.Step.{Step}
use Rattle.spirv_emit.specs.declared.formula.Formula.TheVariants as formula
use Rattle.spirv_emit.specs.Steps.{steps_of}
use Rattle.spirv_emit.specs.Frames.{then_made, last_value, steps_value}

low_five : (y : ℕ) → bit_and y 31 ≡ five y
low_five y = and_mask y 5

then_shifted : (k w : ℕ) (go : Value → Option Value) → k < 32 → then_made (shifted k w) go ≡ go (Word w)
then_shifted k w go lt = ap (λ t. then_made (if t then Some (Word w) else None) go) (lt-ltb k 32 lt)

abbrev behind : List Step → List Step
behind [] = []
behind (s ∷ ss) = ss

-- a power of two below 32 bits
power_low : (w : ℕ) → w < 32 → (2 ^ w < 2 ^ 32) × (1 ≤ 2 ^ w)
power_low w lt = (pow-lt lt, (let h = pow_pos w in omega (arith, h)))

ones_is : (w : ℕ) → w < 32 → subtracted (left 1 w) 1 ≡ 2 ^ w - 1
ones_is w lt = let p = power_low w lt in omega (arith, p.0, p.1)

pub inserted_gives : (a b c d e : ℕ) → steps_value (a ∷ b ∷ c ∷ d ∷ e ∷ []) (steps_of formula.Inserted) ≡ Some (Word (inserted (five a) (five b) c d))
inserted_gives a b c d e =
    let xs = a ∷ b ∷ c ∷ d ∷ e ∷ [] in
    let ss = behind (behind (steps_of formula.Inserted)) in
    let w = five a in
    let o = five b in
    let ones = subtracted (left 1 w) 1 in
    let mask = left ones o in
    ap (λ k. last_value xs (Word k ∷ Word (bit_and b 31) ∷ []) (Word (bit_and b 31)) ss) (low_five a)
    ∙ ap (λ k. last_value xs (Word w ∷ Word k ∷ []) (Word k) ss) (low_five b)
    ∙ then_shifted w (left 1 w) (λ u. last_value xs (Word w ∷ Word o ∷ u ∷ []) u (behind ss)) (omega arith)
    ∙ then_shifted o mask (λ u. last_value xs (Word w ∷ Word o ∷ Word (left 1 w) ∷ Word ones ∷ u ∷ []) u (behind (behind (behind ss)))) (omega arith)
    ∙ then_shifted o (left c o) (λ u. last_value xs (Word w ∷ Word o ∷ Word (left 1 w) ∷ Word ones ∷ Word mask ∷ u ∷ []) u (behind (behind (behind (behind ss))))) (omega arith)
    ∙ ap (λ k. Some (Word (bit_or (bit_and (left c o) (left k o)) (bit_and d (inverted (left k o)))))) (ones_is w (omega arith))
