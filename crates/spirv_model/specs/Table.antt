-- The table of the instructions: the opcode and the operands of each, both ways.
use Rattle.std.specs.Prelude.{ℕ, ◌==◌, if◌then◌else◌, Bool, true, ◌&&◌, nat_le, List, [], ◌∷◌, length, find, Option, Some, None, option_map}
use Rattle.spirv_model.specs.declared.opcodes.TheConstants as opcodes
use Rattle.spirv_model.specs.declared.code.Opcode.{Opcode}
use Rattle.spirv_model.specs.declared.code.Opcode.TheVariants as opcode
use Rattle.spirv_model.specs.declared.code.Row.{Row}
use Rattle.spirv_model.specs.declared.code.UnaryCode.{UnaryCode}
use Rattle.spirv_model.specs.declared.code.UnaryCode.TheVariants as unary
use Rattle.spirv_model.specs.declared.code.BinaryCode.{BinaryCode}
use Rattle.spirv_model.specs.declared.code.BinaryCode.TheVariants as binary
use Rattle.spirv_model.specs.declared.code.AtomicCode.{AtomicCode}
use Rattle.spirv_model.specs.declared.code.AtomicCode.TheVariants as atomic
use Rattle.spirv_model.specs.Decoration.{values_of}
use Rattle.spirv_model.specs.Op.{Op}
use Rattle.spirv_model.specs.Op as op

abbrev pub unary_code : UnaryCode → ℕ
unary_code unary.Negate = opcodes.S_NEGATE
unary_code unary.LogicalNot = opcodes.LOGICAL_NOT
unary_code unary.Complement = opcodes.NOT
unary_code unary.BitReverse = opcodes.BIT_REVERSE
unary_code unary.BitCount = opcodes.BIT_COUNT

abbrev pub binary_code : BinaryCode → ℕ
binary_code binary.Add = opcodes.I_ADD
binary_code binary.Subtract = opcodes.I_SUB
binary_code binary.Multiply = opcodes.I_MUL
binary_code binary.Divide = opcodes.U_DIV
binary_code binary.Modulo = opcodes.U_MOD
binary_code binary.WideMultiply = opcodes.U_MUL_EXTENDED
binary_code binary.SignedWideMultiply = opcodes.S_MUL_EXTENDED
binary_code binary.LogicalAnd = opcodes.LOGICAL_AND
binary_code binary.Equal = opcodes.I_EQUAL
binary_code binary.NotEqual = opcodes.I_NOT_EQUAL
binary_code binary.GreaterEqual = opcodes.U_GREATER_THAN_EQUAL
binary_code binary.SignedGreaterEqual = opcodes.S_GREATER_THAN_EQUAL
binary_code binary.Less = opcodes.U_LESS_THAN
binary_code binary.SignedLess = opcodes.S_LESS_THAN
binary_code binary.ShiftRight = opcodes.SHIFT_RIGHT_LOGICAL
binary_code binary.SignedShiftRight = opcodes.SHIFT_RIGHT_ARITHMETIC
binary_code binary.ShiftLeft = opcodes.SHIFT_LEFT_LOGICAL
binary_code binary.BitOr = opcodes.BITWISE_OR
binary_code binary.BitXor = opcodes.BITWISE_XOR
binary_code binary.BitAnd = opcodes.BITWISE_AND

abbrev pub atomic_code : AtomicCode → ℕ
atomic_code atomic.Exchange = opcodes.ATOMIC_EXCHANGE
atomic_code atomic.Add = opcodes.ATOMIC_I_ADD
atomic_code atomic.SignedMin = opcodes.ATOMIC_S_MIN
atomic_code atomic.UnsignedMin = opcodes.ATOMIC_U_MIN
atomic_code atomic.SignedMax = opcodes.ATOMIC_S_MAX
atomic_code atomic.UnsignedMax = opcodes.ATOMIC_U_MAX
atomic_code atomic.And = opcodes.ATOMIC_AND
atomic_code atomic.Or = opcodes.ATOMIC_OR
atomic_code atomic.Xor = opcodes.ATOMIC_XOR

-- the opcode
abbrev pub code_of : Op → ℕ
code_of (op.MemoryModel a m) = opcodes.MEMORY_MODEL
code_of (op.EntryPoint m f n n' is) = opcodes.ENTRY_POINT
code_of (op.ExecutionMode f m x y z) = opcodes.EXECUTION_MODE
code_of (op.Capability c) = opcodes.CAPABILITY
code_of (op.TypeVoid r) = opcodes.TYPE_VOID
code_of (op.TypeBool r) = opcodes.TYPE_BOOL
code_of (op.TypeInt r w s) = opcodes.TYPE_INT
code_of (op.TypeVector r t n) = opcodes.TYPE_VECTOR
code_of (op.TypeRuntimeArray r t) = opcodes.TYPE_RUNTIME_ARRAY
code_of (op.TypeStruct r ms) = opcodes.TYPE_STRUCT
code_of (op.TypePointer r c t) = opcodes.TYPE_POINTER
code_of (op.TypeFunction r t) = opcodes.TYPE_FUNCTION
code_of (op.Constant t r v) = opcodes.CONSTANT
code_of (op.Function t r c f) = opcodes.FUNCTION
code_of op.FunctionEnd = opcodes.FUNCTION_END
code_of (op.Variable t r c vs) = opcodes.VARIABLE
code_of (op.Load t r p) = opcodes.LOAD
code_of (op.Store p v) = opcodes.STORE
code_of (op.AccessChain t r b is) = opcodes.ACCESS_CHAIN
code_of (op.Decorate x d vs) = opcodes.DECORATE
code_of (op.MemberDecorate x m d vs) = opcodes.MEMBER_DECORATE
code_of (op.CompositeExtract t r v i) = opcodes.COMPOSITE_EXTRACT
code_of (op.Unary o t r a) = unary_code o
code_of (op.Binary o t r a b) = binary_code o
code_of (op.Select t r c a b) = opcodes.SELECT
code_of (op.Atomic o t r p s m v) = atomic_code o
code_of (op.AtomicCompareExchange t r p s e u v c) = opcodes.ATOMIC_COMPARE_EXCHANGE
code_of (op.LoopMerge m n c) = opcodes.LOOP_MERGE
code_of (op.SelectionMerge m c) = opcodes.SELECTION_MERGE
code_of (op.Label r) = opcodes.LABEL
code_of (op.Branch l) = opcodes.BRANCH
code_of (op.BranchConditional c a b) = opcodes.BRANCH_CONDITIONAL
code_of op.Return = opcodes.RETURN

-- the words after the first
abbrev pub operands_of : Op → List ℕ
operands_of (op.Capability c) = c ∷ []
operands_of (op.MemoryModel a m) = a ∷ m ∷ []
operands_of (op.EntryPoint m f n n' is) = m ∷ f ∷ n ∷ n' ∷ is
operands_of (op.ExecutionMode f m x y z) = f ∷ m ∷ x ∷ y ∷ z ∷ []
operands_of (op.Decorate x d vs) = x ∷ d ∷ vs
operands_of (op.MemberDecorate x m d vs) = x ∷ m ∷ d ∷ vs
operands_of (op.TypeVoid r) = r ∷ []
operands_of (op.TypeBool r) = r ∷ []
operands_of (op.TypeInt r w s) = r ∷ w ∷ s ∷ []
operands_of (op.TypeVector r t n) = r ∷ t ∷ n ∷ []
operands_of (op.TypeRuntimeArray r t) = r ∷ t ∷ []
operands_of (op.TypeStruct r ms) = r ∷ ms
operands_of (op.TypePointer r c t) = r ∷ c ∷ t ∷ []
operands_of (op.TypeFunction r t) = r ∷ t ∷ []
operands_of (op.Constant t r v) = t ∷ r ∷ v ∷ []
operands_of (op.Variable t r c vs) = t ∷ r ∷ c ∷ vs
operands_of (op.Function t r c f) = t ∷ r ∷ c ∷ f ∷ []
operands_of op.FunctionEnd = []
operands_of (op.Load t r p) = t ∷ r ∷ p ∷ []
operands_of (op.Store p v) = p ∷ v ∷ []
operands_of (op.AccessChain t r b is) = t ∷ r ∷ b ∷ is
operands_of (op.CompositeExtract t r v i) = t ∷ r ∷ v ∷ i ∷ []
operands_of (op.Unary o t r a) = t ∷ r ∷ a ∷ []
operands_of (op.Binary o t r a b) = t ∷ r ∷ a ∷ b ∷ []
operands_of (op.Select t r c a b) = t ∷ r ∷ c ∷ a ∷ b ∷ []
operands_of (op.Atomic o t r p s m v) = t ∷ r ∷ p ∷ s ∷ m ∷ v ∷ []
operands_of (op.AtomicCompareExchange t r p s e u v c) = t ∷ r ∷ p ∷ s ∷ e ∷ u ∷ v ∷ c ∷ []
operands_of (op.LoopMerge m n c) = m ∷ n ∷ c ∷ []
operands_of (op.SelectionMerge m c) = m ∷ c ∷ []
operands_of (op.Label r) = r ∷ []
operands_of (op.Branch l) = l ∷ []
operands_of (op.BranchConditional c a b) = c ∷ a ∷ b ∷ []
operands_of op.Return = []

-- an instruction made of operands, None where there are too few or too many
abbrev pub Makes : Type 0
Makes = List ℕ → Option Op

abbrev pub from_0 : Op → Makes
from_0 o [] = Some o
from_0 o _ = None

abbrev pub from_1 : (ℕ → Op) → Makes
from_1 f (a ∷ []) = Some (f a)
from_1 f _ = None

abbrev pub from_2 : (ℕ → ℕ → Op) → Makes
from_2 f (a ∷ b ∷ []) = Some (f a b)
from_2 f _ = None

abbrev pub from_3 : (ℕ → ℕ → ℕ → Op) → Makes
from_3 f (a ∷ b ∷ c ∷ []) = Some (f a b c)
from_3 f _ = None

abbrev pub from_4 : (ℕ → ℕ → ℕ → ℕ → Op) → Makes
from_4 f (a ∷ b ∷ c ∷ d ∷ []) = Some (f a b c d)
from_4 f _ = None

abbrev pub from_5 : (ℕ → ℕ → ℕ → ℕ → ℕ → Op) → Makes
from_5 f (a ∷ b ∷ c ∷ d ∷ e ∷ []) = Some (f a b c d e)
from_5 f _ = None

abbrev pub from_6 : (ℕ → ℕ → ℕ → ℕ → ℕ → ℕ → Op) → Makes
from_6 f (a ∷ b ∷ c ∷ d ∷ e ∷ g ∷ []) = Some (f a b c d e g)
from_6 f _ = None

abbrev pub from_8 : (ℕ → ℕ → ℕ → ℕ → ℕ → ℕ → ℕ → ℕ → Op) → Makes
from_8 f (a ∷ b ∷ c ∷ d ∷ e ∷ g ∷ h ∷ i ∷ []) = Some (f a b c d e g h i)
from_8 f _ = None

-- so many operands, and then any number
abbrev pub from_1_and : (ℕ → List ℕ → Op) → Makes
from_1_and f (a ∷ xs) = Some (f a xs)
from_1_and f _ = None

abbrev pub from_4_and : (ℕ → ℕ → ℕ → ℕ → List ℕ → Op) → Makes
from_4_and f (a ∷ b ∷ c ∷ d ∷ xs) = Some (f a b c d xs)
from_4_and f _ = None

-- a decoration has the number of values that is its own
abbrev pub is_counted : Option ℕ → (count : ℕ) → Bool
is_counted None n = true
is_counted (Some k) n = n == k

abbrev pub decorate_from : Makes
decorate_from (x ∷ d ∷ vs) = if is_counted (values_of d) (length vs) then Some (op.Decorate x d vs) else None
decorate_from _ = None

abbrev pub member_decorate_from : Makes
member_decorate_from (x ∷ m ∷ d ∷ vs) = if is_counted (values_of d) (length vs) then Some (op.MemberDecorate x m d vs) else None
member_decorate_from _ = None

-- an access chain has one index or two
abbrev pub chain_from : Makes
chain_from (t ∷ r ∷ b ∷ is) = if nat_le 1 (length is) && nat_le (length is) 2 then Some (op.AccessChain t r b is) else None
chain_from _ = None

-- a variable has no first value or one
abbrev pub variable_from : Makes
variable_from (t ∷ r ∷ c ∷ vs) = if nat_le (length vs) 1 then Some (op.Variable t r c vs) else None
variable_from _ = None

abbrev pub row : ℕ → Opcode → Row
row n o = record { number = n; opcode = o }

-- the table, by rising number
abbrev pub rows : List Row
rows =
    row opcodes.MEMORY_MODEL opcode.MemoryModel
    ∷ row opcodes.ENTRY_POINT opcode.EntryPoint
    ∷ row opcodes.EXECUTION_MODE opcode.ExecutionMode
    ∷ row opcodes.CAPABILITY opcode.Capability
    ∷ row opcodes.TYPE_VOID opcode.TypeVoid
    ∷ row opcodes.TYPE_BOOL opcode.TypeBool
    ∷ row opcodes.TYPE_INT opcode.TypeInt
    ∷ row opcodes.TYPE_VECTOR opcode.TypeVector
    ∷ row opcodes.TYPE_RUNTIME_ARRAY opcode.TypeRuntimeArray
    ∷ row opcodes.TYPE_STRUCT opcode.TypeStruct
    ∷ row opcodes.TYPE_POINTER opcode.TypePointer
    ∷ row opcodes.TYPE_FUNCTION opcode.TypeFunction
    ∷ row opcodes.CONSTANT opcode.Constant
    ∷ row opcodes.FUNCTION opcode.Function
    ∷ row opcodes.FUNCTION_END opcode.FunctionEnd
    ∷ row opcodes.VARIABLE opcode.Variable
    ∷ row opcodes.LOAD opcode.Load
    ∷ row opcodes.STORE opcode.Store
    ∷ row opcodes.ACCESS_CHAIN opcode.AccessChain
    ∷ row opcodes.DECORATE opcode.Decorate
    ∷ row opcodes.MEMBER_DECORATE opcode.MemberDecorate
    ∷ row opcodes.COMPOSITE_EXTRACT opcode.CompositeExtract
    ∷ row opcodes.S_NEGATE (opcode.Unary unary.Negate)
    ∷ row opcodes.I_ADD (opcode.Binary binary.Add)
    ∷ row opcodes.I_SUB (opcode.Binary binary.Subtract)
    ∷ row opcodes.I_MUL (opcode.Binary binary.Multiply)
    ∷ row opcodes.U_DIV (opcode.Binary binary.Divide)
    ∷ row opcodes.U_MOD (opcode.Binary binary.Modulo)
    ∷ row opcodes.U_MUL_EXTENDED (opcode.Binary binary.WideMultiply)
    ∷ row opcodes.S_MUL_EXTENDED (opcode.Binary binary.SignedWideMultiply)
    ∷ row opcodes.LOGICAL_AND (opcode.Binary binary.LogicalAnd)
    ∷ row opcodes.LOGICAL_NOT (opcode.Unary unary.LogicalNot)
    ∷ row opcodes.SELECT opcode.Select
    ∷ row opcodes.I_EQUAL (opcode.Binary binary.Equal)
    ∷ row opcodes.I_NOT_EQUAL (opcode.Binary binary.NotEqual)
    ∷ row opcodes.U_GREATER_THAN_EQUAL (opcode.Binary binary.GreaterEqual)
    ∷ row opcodes.S_GREATER_THAN_EQUAL (opcode.Binary binary.SignedGreaterEqual)
    ∷ row opcodes.U_LESS_THAN (opcode.Binary binary.Less)
    ∷ row opcodes.S_LESS_THAN (opcode.Binary binary.SignedLess)
    ∷ row opcodes.SHIFT_RIGHT_LOGICAL (opcode.Binary binary.ShiftRight)
    ∷ row opcodes.SHIFT_RIGHT_ARITHMETIC (opcode.Binary binary.SignedShiftRight)
    ∷ row opcodes.SHIFT_LEFT_LOGICAL (opcode.Binary binary.ShiftLeft)
    ∷ row opcodes.BITWISE_OR (opcode.Binary binary.BitOr)
    ∷ row opcodes.BITWISE_XOR (opcode.Binary binary.BitXor)
    ∷ row opcodes.BITWISE_AND (opcode.Binary binary.BitAnd)
    ∷ row opcodes.NOT (opcode.Unary unary.Complement)
    ∷ row opcodes.BIT_REVERSE (opcode.Unary unary.BitReverse)
    ∷ row opcodes.BIT_COUNT (opcode.Unary unary.BitCount)
    ∷ row opcodes.ATOMIC_EXCHANGE (opcode.Atomic atomic.Exchange)
    ∷ row opcodes.ATOMIC_COMPARE_EXCHANGE opcode.AtomicCompareExchange
    ∷ row opcodes.ATOMIC_I_ADD (opcode.Atomic atomic.Add)
    ∷ row opcodes.ATOMIC_S_MIN (opcode.Atomic atomic.SignedMin)
    ∷ row opcodes.ATOMIC_U_MIN (opcode.Atomic atomic.UnsignedMin)
    ∷ row opcodes.ATOMIC_S_MAX (opcode.Atomic atomic.SignedMax)
    ∷ row opcodes.ATOMIC_U_MAX (opcode.Atomic atomic.UnsignedMax)
    ∷ row opcodes.ATOMIC_AND (opcode.Atomic atomic.And)
    ∷ row opcodes.ATOMIC_OR (opcode.Atomic atomic.Or)
    ∷ row opcodes.ATOMIC_XOR (opcode.Atomic atomic.Xor)
    ∷ row opcodes.LOOP_MERGE opcode.LoopMerge
    ∷ row opcodes.SELECTION_MERGE opcode.SelectionMerge
    ∷ row opcodes.LABEL opcode.Label
    ∷ row opcodes.BRANCH opcode.Branch
    ∷ row opcodes.BRANCH_CONDITIONAL opcode.BranchConditional
    ∷ row opcodes.RETURN opcode.Return
    ∷ []

-- the opcode of a number, None where the table doesn't have it
unfoldable pub opcode_of : ℕ → Option Opcode
opcode_of n = option_map (λ r. r.opcode) (find (λ r. r.number == n) rows)

-- what an opcode makes of its operands
abbrev pub made_by : Opcode → Makes
made_by opcode.MemoryModel = from_2 op.MemoryModel
made_by opcode.EntryPoint = from_4_and op.EntryPoint
made_by opcode.ExecutionMode = from_5 op.ExecutionMode
made_by opcode.Capability = from_1 op.Capability
made_by opcode.TypeVoid = from_1 op.TypeVoid
made_by opcode.TypeBool = from_1 op.TypeBool
made_by opcode.TypeInt = from_3 op.TypeInt
made_by opcode.TypeVector = from_3 op.TypeVector
made_by opcode.TypeRuntimeArray = from_2 op.TypeRuntimeArray
made_by opcode.TypeStruct = from_1_and op.TypeStruct
made_by opcode.TypePointer = from_3 op.TypePointer
made_by opcode.TypeFunction = from_2 op.TypeFunction
made_by opcode.Constant = from_3 op.Constant
made_by opcode.Function = from_4 op.Function
made_by opcode.FunctionEnd = from_0 op.FunctionEnd
made_by opcode.Variable = variable_from
made_by opcode.Load = from_3 op.Load
made_by opcode.Store = from_2 op.Store
made_by opcode.AccessChain = chain_from
made_by opcode.Decorate = decorate_from
made_by opcode.MemberDecorate = member_decorate_from
made_by opcode.CompositeExtract = from_4 op.CompositeExtract
made_by opcode.Select = from_5 op.Select
made_by opcode.AtomicCompareExchange = from_8 op.AtomicCompareExchange
made_by opcode.LoopMerge = from_3 op.LoopMerge
made_by opcode.SelectionMerge = from_2 op.SelectionMerge
made_by opcode.Label = from_1 op.Label
made_by opcode.Branch = from_1 op.Branch
made_by opcode.BranchConditional = from_3 op.BranchConditional
made_by opcode.Return = from_0 op.Return
made_by (opcode.Unary o) = from_3 (op.Unary o)
made_by (opcode.Binary o) = from_4 (op.Binary o)
made_by (opcode.Atomic o) = from_6 (op.Atomic o)
