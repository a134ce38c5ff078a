-- How few steps a formula has, and how few ids the leaves of a calculation take.
use Rattle.std.proofs.Common.{◌≡◌, ℕ, ◌*◌, ◌≤◌, true, List, [], ◌∷◌, length, refl, arith}
use Rattle.std.specs.Prelude.{nat_le}
use Rattle.std.proofs.lemmas.Bool.{leb-true}
use Rattle.spirv_emit.specs.declared.formula.Formula.{Formula}
use Rattle.spirv_emit.specs.declared.formula.Formula.TheVariants as formula
use Rattle.spirv_emit.specs.declared.piece.Leaf.{Leaf}
use Rattle.spirv_emit.specs.declared.piece.Leaf.TheVariants.{Number, Variable, Length, Component, Flattened}
use Rattle.spirv_emit.specs.Steps.{steps_of}
use Rattle.spirv_emit.specs.Code.{leaf_size, leaves_size}

few : (f : Formula) → nat_le (length (steps_of f)) 14 ≡ true
few formula.Same = refl
few formula.Pick = refl
few formula.Sum = refl
few formula.Negative = refl
few formula.ProductAndSum = refl
few formula.SignedHigh = refl
few formula.UnsignedHigh = refl
few formula.ProductLow = refl
few formula.Quotient = refl
few formula.Remainder = refl
few formula.SignedMin = refl
few formula.SignedMax = refl
few formula.UnsignedMin = refl
few formula.UnsignedMax = refl
few formula.BitAnd = refl
few formula.BitOr = refl
few formula.BitXor = refl
few formula.Complement = refl
few formula.ShiftLeft = refl
few formula.SignedShiftRight = refl
few formula.ShiftRight = refl
few formula.Field = refl
few formula.SignedField = refl
few formula.Inserted = refl
few formula.BitReverse = refl
few formula.BitCount = refl
few formula.Equal = refl
few formula.NotEqual = refl
few formula.SignedGreaterEqual = refl
few formula.SignedLess = refl
few formula.GreaterEqual = refl
few formula.Less = refl
few formula.IsZero = refl
few formula.IsNonzero = refl
few formula.VectorInside = refl
few formula.VectorPlace = refl
few formula.RelativeInside = refl
few formula.RelativePlace = refl
few formula.RawInside = refl
few formula.RawPlace = refl
few formula.StructuredInside = refl
few formula.StructuredPlace = refl
few formula.TypedInside = refl
few formula.TypedPlace = refl
few formula.TypedOne = refl
few formula.OneLess = refl

pub steps_few : (f : Formula) → length (steps_of f) ≤ 14
steps_few f = leb-true (length (steps_of f)) 14 (few f)

pub leaf_ids_few : (l : Leaf) → leaf_size l ≤ 2
leaf_ids_few (Number v) = omega arith
leaf_ids_few (Variable x) = omega arith
leaf_ids_few (Length b) = omega arith
leaf_ids_few (Component v c) = omega arith
leaf_ids_few Flattened = omega arith

pub leaves_ids_few : (ls : List Leaf) → leaves_size ls ≤ 2 * length ls
leaves_ids_few [] = omega arith
leaves_ids_few (l ∷ ls) = let one = leaf_ids_few l in let more = leaves_ids_few ls in omega (arith, one, more)
