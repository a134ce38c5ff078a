-- The steps of each formula, on the words a, b, c, d and e.
use Rattle.std.specs.Prelude.{List, [], ◌∷◌}
use Rattle.spirv_model.specs.declared.code.UnaryCode.TheVariants as unary
use Rattle.spirv_model.specs.declared.code.BinaryCode.TheVariants as binary
use Rattle.spirv_emit.specs.declared.formula.Taken.{Taken}
use Rattle.spirv_emit.specs.declared.formula.Taken.TheVariants.{Leaf, Made, Number}
use Rattle.spirv_emit.specs.declared.formula.Step.{Step}
use Rattle.spirv_emit.specs.declared.formula.Step.TheVariants.{One, Two, High, Choose}
use Rattle.spirv_emit.specs.declared.formula.Formula.{Formula}
use Rattle.spirv_emit.specs.declared.formula.Formula.TheVariants as formula

abbrev pub a : Taken
a = Leaf 0

abbrev pub b : Taken
b = Leaf 1

abbrev pub c : Taken
c = Leaf 2

abbrev pub d : Taken
d = Leaf 3

abbrev pub e : Taken
e = Leaf 4

-- A shift is by the low five bits; a division by 0 is replaced before it is made. Where a sum might wrap, a comparison
-- before it makes the whole condition fail.
abbrev pub steps_of : Formula → List Step
steps_of formula.Same = []
-- b where a is not 0, else c
steps_of formula.Pick = Two binary.NotEqual a (Number 0) ∷ Choose (Made 0) b c ∷ []
steps_of formula.Sum = Two binary.Add a b ∷ []
steps_of formula.Negative = One unary.Negate a ∷ []
steps_of formula.ProductAndSum = Two binary.Multiply a b ∷ Two binary.Add (Made 0) c ∷ []
steps_of formula.SignedHigh = Two binary.SignedWideMultiply a b ∷ High (Made 0) ∷ []
steps_of formula.UnsignedHigh = Two binary.WideMultiply a b ∷ High (Made 0) ∷ []
steps_of formula.ProductLow = Two binary.Multiply a b ∷ []
-- all ones where the divisor is 0; the division is by 1 there
steps_of formula.Quotient = Two binary.Equal b (Number 0) ∷ Choose (Made 0) (Number 1) b ∷ Two binary.Divide a (Made 1) ∷ Choose (Made 0) (Number 0xffff_ffff) (Made 2) ∷ []
steps_of formula.Remainder = Two binary.Equal b (Number 0) ∷ Choose (Made 0) (Number 1) b ∷ Two binary.Modulo a (Made 1) ∷ Choose (Made 0) (Number 0xffff_ffff) (Made 2) ∷ []
steps_of formula.SignedMin = Two binary.SignedLess b a ∷ Choose (Made 0) b a ∷ []
steps_of formula.SignedMax = Two binary.SignedLess a b ∷ Choose (Made 0) b a ∷ []
steps_of formula.UnsignedMin = Two binary.Less a b ∷ Choose (Made 0) a b ∷ []
steps_of formula.UnsignedMax = Two binary.Less a b ∷ Choose (Made 0) b a ∷ []
steps_of formula.BitAnd = Two binary.BitAnd a b ∷ []
steps_of formula.BitOr = Two binary.BitOr a b ∷ []
steps_of formula.BitXor = Two binary.BitXor a b ∷ []
steps_of formula.Complement = One unary.Complement a ∷ []
-- by the low five bits of b, and so the other shifts
steps_of formula.ShiftLeft = Two binary.BitAnd b (Number 31) ∷ Two binary.ShiftLeft a (Made 0) ∷ []
steps_of formula.SignedShiftRight = Two binary.BitAnd b (Number 31) ∷ Two binary.SignedShiftRight a (Made 0) ∷ []
steps_of formula.ShiftRight = Two binary.BitAnd b (Number 31) ∷ Two binary.ShiftRight a (Made 0) ∷ []
-- the field of c that has a bits from bit b on, by two shifts where it ends below bit 32, else by one
steps_of formula.Field = Two binary.BitAnd a (Number 31) ∷ Two binary.BitAnd b (Number 31) ∷ Two binary.Add (Made 0) (Made 1) ∷ Two binary.Subtract (Number 32) (Made 2) ∷ Two binary.BitAnd (Made 3) (Number 31) ∷ Two binary.ShiftLeft c (Made 4) ∷ Two binary.Subtract (Number 32) (Made 0) ∷ Two binary.BitAnd (Made 6) (Number 31) ∷ Two binary.ShiftRight (Made 5) (Made 7) ∷ Two binary.ShiftRight c (Made 1) ∷ Two binary.Less (Made 2) (Number 32) ∷ Choose (Made 10) (Made 8) (Made 9) ∷ Two binary.Equal (Made 0) (Number 0) ∷ Choose (Made 12) (Number 0) (Made 11) ∷ []
steps_of formula.SignedField = Two binary.BitAnd a (Number 31) ∷ Two binary.BitAnd b (Number 31) ∷ Two binary.Add (Made 0) (Made 1) ∷ Two binary.Subtract (Number 32) (Made 2) ∷ Two binary.BitAnd (Made 3) (Number 31) ∷ Two binary.ShiftLeft c (Made 4) ∷ Two binary.Subtract (Number 32) (Made 0) ∷ Two binary.BitAnd (Made 6) (Number 31) ∷ Two binary.SignedShiftRight (Made 5) (Made 7) ∷ Two binary.SignedShiftRight c (Made 1) ∷ Two binary.Less (Made 2) (Number 32) ∷ Choose (Made 10) (Made 8) (Made 9) ∷ Two binary.Equal (Made 0) (Number 0) ∷ Choose (Made 12) (Number 0) (Made 11) ∷ []
-- d with the low a bits of c from bit b on
steps_of formula.Inserted = Two binary.BitAnd a (Number 31) ∷ Two binary.BitAnd b (Number 31) ∷ Two binary.ShiftLeft (Number 1) (Made 0) ∷ Two binary.Subtract (Made 2) (Number 1) ∷ Two binary.ShiftLeft (Made 3) (Made 1) ∷ Two binary.ShiftLeft c (Made 1) ∷ Two binary.BitAnd (Made 5) (Made 4) ∷ One unary.Complement (Made 4) ∷ Two binary.BitAnd d (Made 7) ∷ Two binary.BitOr (Made 6) (Made 8) ∷ []
steps_of formula.BitReverse = One unary.BitReverse a ∷ []
steps_of formula.BitCount = One unary.BitCount a ∷ []
steps_of formula.Equal = Two binary.Equal a b ∷ Choose (Made 0) (Number 0xffff_ffff) (Number 0) ∷ []
steps_of formula.NotEqual = Two binary.NotEqual a b ∷ Choose (Made 0) (Number 0xffff_ffff) (Number 0) ∷ []
steps_of formula.SignedGreaterEqual = Two binary.SignedGreaterEqual a b ∷ Choose (Made 0) (Number 0xffff_ffff) (Number 0) ∷ []
steps_of formula.SignedLess = Two binary.SignedLess a b ∷ Choose (Made 0) (Number 0xffff_ffff) (Number 0) ∷ []
steps_of formula.GreaterEqual = Two binary.GreaterEqual a b ∷ Choose (Made 0) (Number 0xffff_ffff) (Number 0) ∷ []
steps_of formula.Less = Two binary.Less a b ∷ Choose (Made 0) (Number 0xffff_ffff) (Number 0) ∷ []
steps_of formula.IsZero = Two binary.Equal a (Number 0) ∷ []
steps_of formula.IsNonzero = Two binary.NotEqual a (Number 0) ∷ []
-- a constant buffer of b words has the vector a
steps_of formula.VectorInside = Two binary.Divide b (Number 4) ∷ Two binary.Less a (Made 0) ∷ []
-- the place of the vector a's component b
steps_of formula.VectorPlace = Two binary.Multiply a (Number 4) ∷ Two binary.Add (Made 0) b ∷ []
-- a constant buffer of c words has the vector a + b
steps_of formula.RelativeInside = Two binary.Add a b ∷ Two binary.Divide c (Number 4) ∷ Two binary.Less (Made 0) (Made 1) ∷ []
-- the place of the vector a + b's component c
steps_of formula.RelativePlace = Two binary.Add a b ∷ Two binary.Multiply (Made 0) (Number 4) ∷ Two binary.Add (Made 1) c ∷ []
-- a view of c words has the b-th word from byte a on. The first comparison is there so that no sum wraps.
steps_of formula.RawInside = Two binary.ShiftRight a (Number 2) ∷ Two binary.Less (Made 0) c ∷ Two binary.Add (Made 0) b ∷ Two binary.Less (Made 2) c ∷ Two binary.LogicalAnd (Made 1) (Made 3) ∷ []
steps_of formula.RawPlace = Two binary.ShiftRight a (Number 2) ∷ Two binary.Add (Made 0) b ∷ []
-- a view of e words has the element a of d words, and that has the c-th word from byte b on
steps_of formula.StructuredInside = Two binary.Divide e d ∷ Two binary.Less a (Made 0) ∷ Two binary.ShiftRight b (Number 2) ∷ Two binary.Less (Made 2) d ∷ Two binary.Add (Made 2) c ∷ Two binary.Less (Made 4) d ∷ Two binary.LogicalAnd (Made 1) (Made 3) ∷ Two binary.LogicalAnd (Made 6) (Made 5) ∷ []
steps_of formula.StructuredPlace = Two binary.Multiply a d ∷ Two binary.ShiftRight b (Number 2) ∷ Two binary.Add (Made 1) c ∷ Two binary.Add (Made 0) (Made 2) ∷ []
-- a view of c words has the element a of b words
steps_of formula.TypedInside = Two binary.Divide c b ∷ Two binary.Less a (Made 0) ∷ []
-- the place of the component c of the element a of b words
steps_of formula.TypedPlace = Two binary.Multiply a b ∷ Two binary.Add (Made 0) c ∷ []
-- 1 where a view of c words has the element a of b words, else 0
steps_of formula.TypedOne = Two binary.Divide c b ∷ Two binary.Less a (Made 0) ∷ Choose (Made 1) (Number 1) (Number 0) ∷ []
steps_of formula.OneLess = Two binary.Subtract a (Number 1) ∷ []
