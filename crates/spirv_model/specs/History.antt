-- What stands before an instruction of a module: a list of instructions, the latest first.
use Rattle.std.specs.Prelude.{ℕ, ◌==◌, if◌then◌else◌, Bool, true, false, ◌||◌, List, [], ◌∷◌, Option, Some, None}
use Rattle.spirv_model.specs.Op.{Op}
use Rattle.spirv_model.specs.Op as op

-- the id that it makes, its result
abbrev pub result_of : Op → Option ℕ
result_of (op.TypeVoid r) = Some r
result_of (op.TypeBool r) = Some r
result_of (op.TypeInt r w s) = Some r
result_of (op.TypeVector r t n) = Some r
result_of (op.TypeRuntimeArray r t) = Some r
result_of (op.TypeStruct r ms) = Some r
result_of (op.TypePointer r c t) = Some r
result_of (op.TypeFunction r t) = Some r
result_of (op.Constant t r v) = Some r
result_of (op.Variable t r c vs) = Some r
result_of (op.Function t r c f) = Some r
result_of (op.Load t r p) = Some r
result_of (op.AccessChain t r b is) = Some r
result_of (op.CompositeExtract t r v i) = Some r
result_of (op.Unary o t r a) = Some r
result_of (op.Binary o t r a b) = Some r
result_of (op.Select t r c a b) = Some r
result_of (op.Atomic o t r p s m v) = Some r
result_of (op.AtomicCompareExchange t r p s e u v c) = Some r
result_of (op.Label r) = Some r
result_of _ = None

-- the id of its value's type; a type, a label and a function are no values
abbrev pub value_type : Op → Option ℕ
value_type (op.Constant t r v) = Some t
value_type (op.Variable t r c vs) = Some t
value_type (op.Load t r p) = Some t
value_type (op.AccessChain t r b is) = Some t
value_type (op.CompositeExtract t r v i) = Some t
value_type (op.Unary o t r a) = Some t
value_type (op.Binary o t r a b) = Some t
value_type (op.Select t r c a b) = Some t
value_type (op.Atomic o t r p s m v) = Some t
value_type (op.AtomicCompareExchange t r p s e u v c) = Some t
value_type _ = None

abbrev pub is_id : ℕ → Option ℕ → Bool
is_id x None = false
is_id x (Some r) = r == x

-- the instruction that makes an id
abbrev pub maker : ℕ → List Op → Option Op
maker x [] = None
maker x (o ∷ h) = if is_id x (result_of o) then Some o else maker x h

-- whether a function was begun
abbrev pub in_function : List Op → Bool
in_function [] = false
in_function (op.Function t r c f ∷ h) = true
in_function (_ ∷ h) = in_function h

-- whether a block is open: a label opens it, and a branch or a return ends it
abbrev pub block_is_open : List Op → Bool
block_is_open [] = false
block_is_open (op.Label r ∷ h) = true
block_is_open (op.Branch l ∷ h) = false
block_is_open (op.BranchConditional c a b ∷ h) = false
block_is_open (op.Return ∷ h) = false
block_is_open (op.Function t r c f ∷ h) = false
block_is_open (op.FunctionEnd ∷ h) = false
block_is_open (_ ∷ h) = block_is_open h

-- whether a branch names a label
abbrev pub branches_to : ℕ → Op → Bool
branches_to l (op.Branch x) = x == l
branches_to l (op.BranchConditional c a b) = (a == l) || (b == l)
branches_to l _ = false

abbrev pub is_branched_to : ℕ → List Op → Bool
is_branched_to l [] = false
is_branched_to l (o ∷ h) = branches_to l o || is_branched_to l h

-- the module's entry point is this function
abbrev pub is_entry : ℕ → List Op → Bool
is_entry f [] = false
is_entry f (op.EntryPoint m g n n' is ∷ h) = g == f
is_entry f (_ ∷ h) = is_entry f h

-- the history after some instructions more
abbrev pub after : List Op → List Op → List Op
after [] h = h
after (o ∷ os) h = after os (o ∷ h)
