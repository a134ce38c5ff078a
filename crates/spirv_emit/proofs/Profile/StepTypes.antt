-- The types of what a formula's steps make, and which of them each step takes.
use Rattle.std.proofs.Common.{◌≡◌, ℕ, zero, suc, ◌<◌, Bool, List, [], ◌∷◌, ◌++◌, length, arith}
use Rattle.std.specs.Prelude.{◌==◌, ◌&&◌, slice_index}
use Rattle.spirv_model.specs.declared.code.UnaryCode.{UnaryCode}
use Rattle.spirv_model.specs.declared.code.UnaryCode.TheVariants as unary
use Rattle.spirv_model.specs.declared.code.BinaryCode.{BinaryCode}
use Rattle.spirv_model.specs.declared.code.BinaryCode.TheVariants as binary
use Rattle.spirv_emit.specs.declared.formula.Taken.{Taken}
use Rattle.spirv_emit.specs.declared.formula.Taken.TheVariants as taken
use Rattle.spirv_emit.specs.declared.formula.Step.{Step}
use Rattle.spirv_emit.specs.declared.formula.Step.TheVariants.{One, Two, High, Choose}
use Rattle.spirv_emit.specs.declared.formula.Formula.{Formula}
use Rattle.spirv_emit.specs.Steps.{steps_of}
use Rattle.spirv_emit.specs.Layout.{word_type, truth_type, pair_type}
use Rattle.spirv_emit.specs.Code.{one_type, two_type}

-- what unary and binary instructions take
abbrev pub one_takes : UnaryCode → ℕ
one_takes unary.LogicalNot = truth_type
one_takes o = word_type

abbrev pub two_takes : BinaryCode → ℕ
two_takes binary.LogicalAnd = truth_type
two_takes o = word_type

-- the type of what a step takes, where these types were made so far; 0 where nothing was made
abbrev pub taken_type : List ℕ → Taken → ℕ
taken_type made (taken.Leaf i) = word_type
taken_type made (taken.Made i) = slice_index made i
taken_type made (taken.Number v) = word_type

abbrev pub step_takes : List ℕ → Step → Bool
step_takes made (One o a) = taken_type made a == one_takes o
step_takes made (Two o a b) = (taken_type made a == two_takes o) && (taken_type made b == two_takes o)
step_takes made (High a) = taken_type made a == pair_type
step_takes made (Choose c a b) = (taken_type made c == truth_type) && ((taken_type made a == word_type) && (taken_type made b == word_type))

abbrev pub step_type : Step → ℕ
step_type (One o a) = one_type o
step_type (Two o a b) = two_type o
step_type (High a) = word_type
step_type (Choose c a b) = word_type

-- each step takes what it needs, and the last value made is of this type
abbrev pub steps_give : (t : ℕ) → (made : List ℕ) → (last : ℕ) → List Step → Bool
steps_give t made last [] = last == t
steps_give t made last (s ∷ ss) = step_takes made s && steps_give t (made ++ step_type s ∷ []) (step_type s) ss

-- a formula gives a value of this type
abbrev pub gives : Formula → ℕ → Bool
gives f t = steps_give t [] word_type (steps_of f)

-- what has a type was made
pub made_below : (made : List ℕ) (i t : ℕ) → slice_index made i ≡ t → 0 < t → i < length made
made_below [] i t e lt = absurd (omega (arith, e))
made_below (x ∷ made) zero t e lt = omega arith
made_below (x ∷ made) (suc i) t e lt = let h = made_below made i t e lt in omega arith
