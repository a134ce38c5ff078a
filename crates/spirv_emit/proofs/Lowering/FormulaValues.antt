-- The value of each formula.
use Rattle.std.proofs.Common.{◌≡◌, ℕ, zero, suc, ◌+◌, ◌*◌, ◌/◌, ◌%◌, ◌^◌, ◌<◌, Bool, true, false, not, if◌then◌else◌, min, max, List, [], ◌∷◌, Some, None, refl, ap, ◌∙◌, arith}
use Rattle.std.specs.Prelude.{◌==◌, nat_lt, bit_and, bit_or, count_ones}
use Rattle.std.specs.Int.{reverse_bits, w32}
use Rattle.std.proofs.lemmas.Bool.{ne_eqb, lt-ltb, ltb-true, ltb-false}
use Rattle.std.proofs.lemmas.Nat.{and_mask}
use Rattle.shader_model.specs.Arithmetic.{low, added, negated, inverted, multiplied_and_added, unsigned_high, signed_high, product_low, quotient, remainder, signed_min, signed_max, signed_lt, left, right, signed_right, five, truth}
use Rattle.spirv_model.specs.Meaning.Values.{Word, Truth, shifted}
use Rattle.spirv_emit.specs.declared.formula.Step.{Step}
use Rattle.spirv_emit.specs.declared.formula.Formula.{Formula}
use Rattle.spirv_emit.specs.declared.formula.Formula.TheVariants as formula
use Rattle.spirv_emit.specs.Steps.{steps_of}
use Rattle.spirv_emit.specs.Frames.{then_made, last_value, steps_value}

-- ## Choices and shifts

choose_word : (t : Bool) (x y : ℕ) → Some (if t then Word x else Word y) ≡ Some (Word (if t then x else y))
choose_word true x y = refl
choose_word false x y = refl

choose_other : (t : Bool) (x y : ℕ) → Some (if not t then Word x else Word y) ≡ Some (Word (if t then y else x))
choose_other true x y = refl
choose_other false x y = refl

low_five : (y : ℕ) → bit_and y 31 ≡ five y
low_five y = and_mask y 5

five_below : (y : ℕ) → five y < 32
five_below y = omega arith

shifted_word : (k w : ℕ) → k < 32 → shifted k w ≡ Some (Word w)
shifted_word k w lt = ap (λ t. if t then Some (Word w) else None) (lt-ltb k 32 lt)

suc_not_zero : (n : ℕ) → (suc n == 0) ≡ false
suc_not_zero n = ne_eqb (suc n) 0 (λ e. absurd (omega arith))

-- a shift by the low five bits
by_five : (g : ℕ → ℕ) (y : ℕ) → shifted (bit_and y 31) (g (bit_and y 31)) ≡ Some (Word (g (five y)))
by_five g y = ap (λ k. shifted k (g k)) (low_five y) ∙ shifted_word (five y) (g (five y)) (five_below y)

low_sum : (x y : ℕ) → low (low x + y) ≡ low (x + y)
low_sum x y = omega arith

-- the steps behind the first
abbrev behind : List Step → List Step
behind [] = []
behind (s ∷ ss) = ss

module _ (a b c d e : ℕ) where
  abbrev pub Gives : Formula → ℕ → Type 0
  Gives f w = steps_value (a ∷ b ∷ c ∷ d ∷ e ∷ []) (steps_of f) ≡ Some (Word w)

  abbrev pub Tells : Formula → Bool → Type 0
  Tells f t = steps_value (a ∷ b ∷ c ∷ d ∷ e ∷ []) (steps_of f) ≡ Some (Truth t)

  -- ## Arithmetic

  pub same_gives : Gives formula.Same a
  same_gives = refl

  pub pick_gives : Gives formula.Pick (if a == 0 then c else b)
  pick_gives = choose_other (a == 0) b c

  pub sum_gives : Gives formula.Sum (added a b)
  sum_gives = refl

  pub negative_gives : Gives formula.Negative (negated a)
  negative_gives = refl

  pub product_and_sum_gives : Gives formula.ProductAndSum (multiplied_and_added a b c)
  product_and_sum_gives = ap (λ k. Some (Word k)) (low_sum (a * b) c)

  pub signed_high_gives : Gives formula.SignedHigh (signed_high a b)
  signed_high_gives = refl

  pub unsigned_high_gives : Gives formula.UnsignedHigh (unsigned_high a b)
  unsigned_high_gives = refl

  pub product_low_gives : Gives formula.ProductLow (product_low a b)
  product_low_gives = refl

  pub signed_min_gives : Gives formula.SignedMin (signed_min a b)
  signed_min_gives = choose_word (signed_lt b a) b a

  pub signed_max_gives : Gives formula.SignedMax (signed_max a b)
  signed_max_gives = choose_word (signed_lt a b) b a

  min_chosen : (t : Bool) → nat_lt a b ≡ t → (if t then a else b) ≡ min a b
  min_chosen true e = let h = ltb-true a b e in omega (arith, h)
  min_chosen false e = let h = ltb-false a b e in omega (arith, h)

  max_chosen : (t : Bool) → nat_lt a b ≡ t → (if t then b else a) ≡ max a b
  max_chosen true e = let h = ltb-true a b e in omega (arith, h)
  max_chosen false e = let h = ltb-false a b e in omega (arith, h)

  pub unsigned_min_gives : Gives formula.UnsignedMin (min a b)
  unsigned_min_gives = choose_word (nat_lt a b) a b ∙ ap (λ k. Some (Word k)) (min_chosen (nat_lt a b) refl)

  pub unsigned_max_gives : Gives formula.UnsignedMax (max a b)
  unsigned_max_gives = choose_word (nat_lt a b) b a ∙ ap (λ k. Some (Word k)) (max_chosen (nat_lt a b) refl)

  -- ## Bits

  pub and_gives : Gives formula.BitAnd (bit_and a b)
  and_gives = refl

  pub or_gives : Gives formula.BitOr (bit_or a b)
  or_gives = refl

  pub complement_gives : Gives formula.Complement (inverted a)
  complement_gives = refl

  pub reverse_gives : Gives formula.BitReverse (reverse_bits w32 a)
  reverse_gives = refl

  pub count_gives : Gives formula.BitCount (count_ones a)
  count_gives = refl

  pub left_gives : Gives formula.ShiftLeft (left a (five b))
  left_gives = ap (λ q. then_made q (λ v. Some v)) (by_five (left a) b)

  pub right_gives : Gives formula.ShiftRight (right a (five b))
  right_gives = ap (λ q. then_made q (λ v. Some v)) (by_five (right a) b)

  pub signed_right_gives : Gives formula.SignedShiftRight (signed_right a (five b))
  signed_right_gives = ap (λ q. then_made q (λ v. Some v)) (by_five (signed_right a) b)

  -- ## Comparisons

  pub equal_gives : Gives formula.Equal (truth (a == b))
  equal_gives = choose_word (a == b) _ _

  pub not_equal_gives : Gives formula.NotEqual (truth (not (a == b)))
  not_equal_gives = choose_word (not (a == b)) _ _

  pub signed_greater_equal_gives : Gives formula.SignedGreaterEqual (truth (not (signed_lt a b)))
  signed_greater_equal_gives = choose_word (not (signed_lt a b)) _ _

  pub signed_less_gives : Gives formula.SignedLess (truth (signed_lt a b))
  signed_less_gives = choose_word (signed_lt a b) _ _

  pub greater_equal_gives : Gives formula.GreaterEqual (truth (not (nat_lt a b)))
  greater_equal_gives = choose_word (not (nat_lt a b)) _ _

  pub less_gives : Gives formula.Less (truth (nat_lt a b))
  less_gives = choose_word (nat_lt a b) _ _

  -- ## Tests

  pub is_zero_tells : Tells formula.IsZero (a == 0)
  is_zero_tells = refl

  pub is_nonzero_tells : Tells formula.IsNonzero (not (a == 0))
  is_nonzero_tells = refl

  -- ## Words of constant buffers

  pub vector_inside_tells : Tells formula.VectorInside (nat_lt a (b / 4))
  vector_inside_tells = refl

  pub vector_place_gives : 4 * a + b < 2 ^ 32 → Gives formula.VectorPlace (4 * a + b)
  vector_place_gives lt = ap (λ k. Some (Word k)) (let z : ((a * 4) % 2 ^ 32 + b) % 2 ^ 32 ≡ 4 * a + b = omega (arith, lt) in z)

  pub relative_inside_tells : Tells formula.RelativeInside (nat_lt (added a b) (c / 4))
  relative_inside_tells = refl

  pub relative_place_gives : 4 * added a b + c < 2 ^ 32 → Gives formula.RelativePlace (4 * added a b + c)
  relative_place_gives lt = ap (λ k. Some (Word k)) (let z : ((added a b * 4) % 2 ^ 32 + c) % 2 ^ 32 ≡ 4 * added a b + c = omega (arith, lt) in z)

-- ## Quotients: by cases on the divisor

pub quotient_gives : (a b c d e : ℕ) → Gives a b c d e formula.Quotient (quotient a b)
quotient_gives a zero c d e = refl
quotient_gives a (suc b) c d e =
    ap (λ t. last_value (a ∷ suc b ∷ c ∷ d ∷ e ∷ []) (Truth t ∷ []) (Truth t) (behind (steps_of formula.Quotient))) (suc_not_zero b)

pub remainder_gives : (a b c d e : ℕ) → Gives a b c d e formula.Remainder (remainder a b)
remainder_gives a zero c d e = refl
remainder_gives a (suc b) c d e =
    ap (λ t. last_value (a ∷ suc b ∷ c ∷ d ∷ e ∷ []) (Truth t ∷ []) (Truth t) (behind (steps_of formula.Remainder))) (suc_not_zero b)
