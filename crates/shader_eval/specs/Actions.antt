-- What the plain instructions do, in groups by their sources and destinations.
use Rattle.std.specs.Prelude.{ℕ, ◌==◌, not, if◌then◌else◌, nat_lt, min, max, bit_and, bit_or, bit_xor, count_ones, Option, Some, None}
use Rattle.std.specs.Int.{reverse_bits, w32}
use Rattle.dx_types.specs.declared.shape.Form.TheVariants.{Raw, Structured, Typed}
use Rattle.shader_model.specs.declared.opcode.Opcode.{Opcode}
use Rattle.shader_model.specs.declared.opcode.Opcode.TheVariants as op
use Rattle.shader_model.specs.declared.opcode.Row.{Row}
use Rattle.shader_model.specs.Opcodes.{row_of}
use Rattle.shader_model.specs.Arithmetic.{added, negated, inverted, multiplied_and_added, unsigned_high, signed_high, product_low, quotient, remainder, signed_min, signed_max, signed_lt, left, right, signed_right, five, field, inserted, truth}
use Rattle.shader_eval.specs.declared.action.One.{One}
use Rattle.shader_eval.specs.declared.action.One.TheVariants as one
use Rattle.shader_eval.specs.declared.action.Two.{Two}
use Rattle.shader_eval.specs.declared.action.Two.TheVariants as two
use Rattle.shader_eval.specs.declared.action.Three.{Three}
use Rattle.shader_eval.specs.declared.action.Three.TheVariants as three
use Rattle.shader_eval.specs.declared.action.Pair.{Pair}
use Rattle.shader_eval.specs.declared.action.Pair.TheVariants as pair
use Rattle.shader_eval.specs.declared.action.Change.TheVariants.{Combine, Exchange, CompareExchange}
use Rattle.shader_eval.specs.declared.action.Action.{Action}
use Rattle.shader_eval.specs.declared.action.Action.TheVariants as does

-- ## Which function an instruction is

abbrev pub action_by : Opcode → Option Action
action_by op.Mov = Some (does.One one.Mov)
action_by op.Movc = Some (does.Three three.Movc)
action_by op.Iadd = Some (does.Two two.Iadd)
action_by op.Ineg = Some (does.One one.Ineg)
action_by op.Imad = Some (does.Three three.Imad)
action_by op.Imul = Some (does.Pair pair.Imul)
action_by op.Umul = Some (does.Pair pair.Umul)
action_by op.Udiv = Some (does.Pair pair.Udiv)
action_by op.Imin = Some (does.Two two.Imin)
action_by op.Imax = Some (does.Two two.Imax)
action_by op.Umin = Some (does.Two two.Umin)
action_by op.Umax = Some (does.Two two.Umax)
action_by op.And = Some (does.Two two.And)
action_by op.Or = Some (does.Two two.Or)
action_by op.Xor = Some (does.Two two.Xor)
action_by op.Not = Some (does.One one.Not)
action_by op.Ishl = Some (does.Two two.Ishl)
action_by op.Ishr = Some (does.Two two.Ishr)
action_by op.Ushr = Some (does.Two two.Ushr)
action_by op.Ieq = Some (does.Two two.Ieq)
action_by op.Ine = Some (does.Two two.Ine)
action_by op.Ige = Some (does.Two two.Ige)
action_by op.Ilt = Some (does.Two two.Ilt)
action_by op.Uge = Some (does.Two two.Uge)
action_by op.Ult = Some (does.Two two.Ult)
action_by op.Ubfe = Some (does.Three three.Ubfe)
action_by op.Ibfe = Some (does.Three three.Ibfe)
action_by op.Bfi = Some does.Insert
action_by op.Bfrev = Some (does.One one.Bfrev)
action_by op.Countbits = Some (does.One one.Countbits)
action_by op.LdRaw = Some (does.Load Raw)
action_by op.StoreRaw = Some (does.Store Raw)
action_by op.LdStructured = Some (does.Load Structured)
action_by op.StoreStructured = Some (does.Store Structured)
action_by op.LdTyped = Some (does.Load Typed)
action_by op.StoreTyped = Some (does.Store Typed)
action_by op.AtomicIadd = Some (does.Change (Combine two.Iadd))
action_by op.AtomicAnd = Some (does.Change (Combine two.And))
action_by op.AtomicOr = Some (does.Change (Combine two.Or))
action_by op.AtomicXor = Some (does.Change (Combine two.Xor))
action_by op.AtomicImin = Some (does.Change (Combine two.Imin))
action_by op.AtomicImax = Some (does.Change (Combine two.Imax))
action_by op.AtomicUmin = Some (does.Change (Combine two.Umin))
action_by op.AtomicUmax = Some (does.Change (Combine two.Umax))
action_by op.AtomicExch = Some (does.Change Exchange)
action_by op.AtomicCmpExch = Some (does.Change CompareExchange)
action_by op.IfNz = None
action_by op.IfZ = None
action_by op.Else = None
action_by op.Endif = None
action_by op.Loop = None
action_by op.Endloop = None
action_by op.Break = None
action_by op.BreakNz = None
action_by op.BreakZ = None
action_by op.Continue = None
action_by op.ContinueNz = None
action_by op.ContinueZ = None
action_by op.Ret = None
action_by op.RetNz = None
action_by op.RetZ = None

abbrev pub action_in : Option Row → Option Action
action_in None = None
action_in (Some r) = action_by r.name

-- what the instruction of an opcode does
abbrev pub action_at : ℕ → Option Action
action_at n = action_in (row_of n)

-- ## The functions

abbrev pub one_of : One → ℕ → ℕ
one_of one.Mov x = x
one_of one.Ineg x = negated x
one_of one.Not x = inverted x
one_of one.Bfrev x = reverse_bits w32 x
one_of one.Countbits x = count_ones x

abbrev pub two_of : Two → ℕ → ℕ → ℕ
two_of two.Iadd x y = added x y
two_of two.Imin x y = signed_min x y
two_of two.Imax x y = signed_max x y
two_of two.Umin x y = min x y
two_of two.Umax x y = max x y
two_of two.And x y = bit_and x y
two_of two.Or x y = bit_or x y
two_of two.Xor x y = bit_xor x y
two_of two.Ishl x y = left x (five y)
two_of two.Ishr x y = signed_right x (five y)
two_of two.Ushr x y = right x (five y)
two_of two.Ieq x y = truth (x == y)
two_of two.Ine x y = truth (not (x == y))
two_of two.Ige x y = truth (not (signed_lt x y))
two_of two.Ilt x y = truth (signed_lt x y)
two_of two.Uge x y = truth (not (nat_lt x y))
two_of two.Ult x y = truth (nat_lt x y)

abbrev pub three_of : Three → ℕ → ℕ → ℕ → ℕ
three_of three.Movc x y z = if x == 0 then z else y
three_of three.Imad x y z = multiplied_and_added x y z
three_of three.Ubfe w o v = field right (five w) (five o) v
three_of three.Ibfe w o v = field signed_right (five w) (five o) v

-- a field put into a number
abbrev pub field_in : ℕ → ℕ → ℕ → ℕ → ℕ
field_in w o a b = inserted (five w) (five o) a b

abbrev pub first_of_pair : Pair → ℕ → ℕ → ℕ
first_of_pair pair.Imul x y = signed_high x y
first_of_pair pair.Umul x y = unsigned_high x y
first_of_pair pair.Udiv x y = quotient x y

abbrev pub second_of_pair : Pair → ℕ → ℕ → ℕ
second_of_pair pair.Imul x y = product_low x y
second_of_pair pair.Umul x y = product_low x y
second_of_pair pair.Udiv x y = remainder x y
