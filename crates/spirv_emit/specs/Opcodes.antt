-- The formulas of the instructions, by their opcodes.
use Rattle.std.specs.Prelude.{ℕ, ◌==◌, if◌then◌else◌}
use Rattle.spirv_model.specs.declared.code.AtomicCode.{AtomicCode}
use Rattle.spirv_model.specs.declared.code.AtomicCode.TheVariants as atomic
use Rattle.spirv_emit.specs.declared.formula.Formula.{Formula}
use Rattle.spirv_emit.specs.declared.formula.Formula.TheVariants as formula

-- of the first destination of an instruction that computes
abbrev pub first_formula : (opcode : ℕ) → Formula
first_formula k =
    -- mov
    if k == 16 then formula.Same else
    -- movc
    if k == 17 then formula.Pick else
    -- iadd
    if k == 18 then formula.Sum else
    -- ineg
    if k == 19 then formula.Negative else
    -- imad
    if k == 20 then formula.ProductAndSum else
    -- imul
    if k == 21 then formula.SignedHigh else
    -- umul
    if k == 22 then formula.UnsignedHigh else
    -- udiv
    if k == 23 then formula.Quotient else
    -- imin
    if k == 24 then formula.SignedMin else
    -- imax
    if k == 25 then formula.SignedMax else
    -- umin
    if k == 26 then formula.UnsignedMin else
    -- umax
    if k == 27 then formula.UnsignedMax else
    -- and
    if k == 28 then formula.BitAnd else
    -- or
    if k == 29 then formula.BitOr else
    -- xor
    if k == 30 then formula.BitXor else
    -- not
    if k == 31 then formula.Complement else
    -- ishl
    if k == 32 then formula.ShiftLeft else
    -- ishr
    if k == 33 then formula.SignedShiftRight else
    -- ushr
    if k == 34 then formula.ShiftRight else
    -- ieq
    if k == 35 then formula.Equal else
    -- ine
    if k == 36 then formula.NotEqual else
    -- ige
    if k == 37 then formula.SignedGreaterEqual else
    -- ilt
    if k == 38 then formula.SignedLess else
    -- uge
    if k == 39 then formula.GreaterEqual else
    -- ult
    if k == 40 then formula.Less else
    -- ubfe
    if k == 41 then formula.Field else
    -- ibfe
    if k == 42 then formula.SignedField else
    -- bfi
    if k == 43 then formula.Inserted else
    -- bfrev
    if k == 44 then formula.BitReverse else
    -- countbits
    if k == 45 then formula.BitCount else formula.Same

-- of the second: udiv has the remainder, imul and umul the low half of the product
abbrev pub second_formula : (opcode : ℕ) → Formula
second_formula k = if k == 23 then formula.Remainder else formula.ProductLow

-- what an atomic instruction does with the word; a compare and exchange is none of these
abbrev pub atomic_of : (opcode : ℕ) → AtomicCode
atomic_of k =
    if k == 56 then atomic.Add
    else if k == 57 then atomic.And
    else if k == 58 then atomic.Or
    else if k == 59 then atomic.Xor
    else if k == 60 then atomic.SignedMin
    else if k == 61 then atomic.SignedMax
    else if k == 62 then atomic.UnsignedMin
    else if k == 63 then atomic.UnsignedMax
    else atomic.Exchange
