-- Values, and what the instructions on them give (SPIR-V 1.6, sections 3.49.11 to 3.49.15).
use Rattle.std.specs.Prelude.{ℕ, zero, suc, ◌+◌, ◌/◌, ◌%◌, ◌==◌, not, ◌&&◌, if◌then◌else◌, nat_lt, min, max, bit_and, bit_or, bit_xor, count_ones, Bool, Option, Some, None}
use Rattle.std.specs.Int.{reverse_bits, w32}
use Rattle.shader_model.specs.Arithmetic.{low, added, negated, inverted, product_low, unsigned_high, signed_high, signed_lt, signed_min, signed_max, left, right, signed_right}
use Rattle.spirv_model.specs.declared.code.UnaryCode.{UnaryCode}
use Rattle.spirv_model.specs.declared.code.UnaryCode.TheVariants as unary
use Rattle.spirv_model.specs.declared.code.BinaryCode.{BinaryCode}
use Rattle.spirv_model.specs.declared.code.BinaryCode.TheVariants as binary
use Rattle.spirv_model.specs.declared.code.AtomicCode.{AtomicCode}
use Rattle.spirv_model.specs.declared.code.AtomicCode.TheVariants as atomic

-- what a pointer points to
pub data Pointer : Type 0 where
  -- a variable of the function, by its id
  ToVariable : (x : ℕ) → Pointer
  -- the whole buffer of a binding, and one of its words
  ToBuffer : (binding : ℕ) → Pointer
  ToWord : (binding place : ℕ) → Pointer
  -- the push constants, and one of them
  ToLengths : Pointer
  ToLength : (binding : ℕ) → Pointer
  -- a built-in, by its number
  ToInput : (number : ℕ) → Pointer

pub data Value : Type 0 where
  -- what a variable has that was given nothing
  Nothing : Value
  Word : (n : ℕ) → Value
  Truth : (b : Bool) → Value
  Vector : (x y z : ℕ) → Value
  -- the two halves of a product
  Halves : (low high : ℕ) → Value
  At : (p : Pointer) → Value

abbrev pub of_word : UnaryCode → ℕ → Option Value
of_word unary.Negate x = Some (Word (negated x))
of_word unary.Complement x = Some (Word (inverted x))
of_word unary.BitReverse x = Some (Word (reverse_bits w32 x))
of_word unary.BitCount x = Some (Word (count_ones x))
of_word unary.LogicalNot x = None

abbrev pub of_truth : UnaryCode → Bool → Option Value
of_truth unary.LogicalNot b = Some (Truth (not b))
of_truth o b = None

-- a result of one operand
abbrev pub of_one : UnaryCode → Option Value → Option Value
of_one o (Some (Word x)) = of_word o x
of_one o (Some (Truth b)) = of_truth o b
of_one o _ = None

-- a shift by 32 or more is undefined
abbrev pub shifted : (places word : ℕ) → Option Value
shifted k n = if nat_lt k 32 then Some (Word n) else None

abbrev pub subtracted : ℕ → ℕ → ℕ
subtracted x y = low (x + negated y)

-- a division by 0 is undefined
abbrev pub divided : ℕ → ℕ → Option Value
divided x zero = None
divided x (suc y) = Some (Word (x / suc y))

abbrev pub remaining : ℕ → ℕ → Option Value
remaining x zero = None
remaining x (suc y) = Some (Word (x % suc y))

abbrev pub of_words : BinaryCode → ℕ → ℕ → Option Value
of_words binary.Add x y = Some (Word (added x y))
of_words binary.Subtract x y = Some (Word (subtracted x y))
of_words binary.Multiply x y = Some (Word (product_low x y))
of_words binary.Divide x y = divided x y
of_words binary.Modulo x y = remaining x y
of_words binary.WideMultiply x y = Some (Halves (product_low x y) (unsigned_high x y))
of_words binary.SignedWideMultiply x y = Some (Halves (product_low x y) (signed_high x y))
of_words binary.LogicalAnd x y = None
of_words binary.Equal x y = Some (Truth (x == y))
of_words binary.NotEqual x y = Some (Truth (not (x == y)))
of_words binary.GreaterEqual x y = Some (Truth (not (nat_lt x y)))
of_words binary.SignedGreaterEqual x y = Some (Truth (not (signed_lt x y)))
of_words binary.Less x y = Some (Truth (nat_lt x y))
of_words binary.SignedLess x y = Some (Truth (signed_lt x y))
of_words binary.ShiftRight x k = shifted k (right x k)
of_words binary.SignedShiftRight x k = shifted k (signed_right x k)
of_words binary.ShiftLeft x k = shifted k (left x k)
of_words binary.BitOr x y = Some (Word (bit_or x y))
of_words binary.BitXor x y = Some (Word (bit_xor x y))
of_words binary.BitAnd x y = Some (Word (bit_and x y))

abbrev pub of_truths : BinaryCode → Bool → Bool → Option Value
of_truths binary.LogicalAnd a b = Some (Truth (a && b))
of_truths o a b = None

-- a result of two operands
abbrev pub of_two : BinaryCode → Option Value → Option Value → Option Value
of_two o (Some (Word x)) (Some (Word y)) = of_words o x y
of_two o (Some (Truth a)) (Some (Truth b)) = of_truths o a b
of_two o _ _ = None

-- the first where the condition holds, else the second
abbrev pub selected : (condition first second : Option Value) → Option Value
selected (Some (Truth b)) (Some x) (Some y) = Some (if b then x else y)
selected _ _ _ = None

-- a component of a vector, or a half of a product: the low one comes first
abbrev pub component : ℕ → Option Value → Option Value
component zero (Some (Vector x y z)) = Some (Word x)
component (suc zero) (Some (Vector x y z)) = Some (Word y)
component (suc (suc zero)) (Some (Vector x y z)) = Some (Word z)
component zero (Some (Halves l h)) = Some (Word l)
component (suc zero) (Some (Halves l h)) = Some (Word h)
component i _ = None

-- what an atomic instruction leaves of the old word and its operand
abbrev pub left_by : AtomicCode → (old operand : ℕ) → ℕ
left_by atomic.Exchange old v = v
left_by atomic.Add old v = added old v
left_by atomic.SignedMin old v = signed_min old v
left_by atomic.UnsignedMin old v = min old v
left_by atomic.SignedMax old v = signed_max old v
left_by atomic.UnsignedMax old v = max old v
left_by atomic.And old v = bit_and old v
left_by atomic.Or old v = bit_or old v
left_by atomic.Xor old v = bit_xor old v

-- the new word of an atomic instruction, None where its operand is no word
abbrev pub new_word : AtomicCode → Option Value → (old : ℕ) → Option ℕ
new_word o (Some (Word v)) old = Some (left_by o old v)
new_word o _ old = None

-- the new word of a compare and exchange: the operand where the old word equals the comparator
abbrev pub new_if_equal : (operand comparator : Option Value) → (old : ℕ) → Option ℕ
new_if_equal (Some (Word v)) (Some (Word c)) old = Some (if old == c then v else old)
new_if_equal _ _ old = None
