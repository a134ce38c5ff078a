-- The words of instructions are read back as these instructions.
use Rattle.std.proofs.Common.{◌≡◌, ℕ, zero, suc, ◌+◌, ◌-◌, ◌*◌, ◌/◌, ◌%◌, ◌<◌, ◌≤◌, true, if◌then◌else◌, List, [], ◌∷◌, ◌++◌, length, take, drop, Some, None, refl, ap, ◌∙◌, arith, length-append}
use Rattle.std.specs.Prelude.{◌||◌, ◌&&◌, nat_lt, nat_le}
use Rattle.std.proofs.lemmas.Bool.{ne_eqb, le-ltb}
use Rattle.spirv_model.specs.declared.code.Opcode.{Opcode}
use Rattle.spirv_model.specs.declared.code.Opcode.TheVariants as opcode
use Rattle.spirv_model.specs.declared.code.UnaryCode.{UnaryCode}
use Rattle.spirv_model.specs.declared.code.UnaryCode.TheVariants as unary
use Rattle.spirv_model.specs.declared.code.BinaryCode.{BinaryCode}
use Rattle.spirv_model.specs.declared.code.BinaryCode.TheVariants as binary
use Rattle.spirv_model.specs.declared.code.AtomicCode.{AtomicCode}
use Rattle.spirv_model.specs.declared.code.AtomicCode.TheVariants as atomic
use Rattle.spirv_model.specs.Op.{Op}
use Rattle.spirv_model.specs.Op as op
use Rattle.spirv_model.specs.Decoration.{values_of}
use Rattle.spirv_model.specs.Table.{code_of, operands_of, unary_code, binary_code, atomic_code, opcode_of, made_by, is_counted}
use Rattle.spirv_model.specs.Words.{op_words, words_of, front, front_of_count, front_of_opcode, front_of_made, Instruction, BadCount}
use Rattle.spirv_model.specs.FirstBad.{Reading, reading, read_front, read_more}

-- ## The opcode of an instruction

abbrev opcode_for : Op → Opcode
opcode_for (op.MemoryModel a m) = opcode.MemoryModel
opcode_for (op.EntryPoint m f n n' is) = opcode.EntryPoint
opcode_for (op.ExecutionMode f m x y z) = opcode.ExecutionMode
opcode_for (op.Capability c) = opcode.Capability
opcode_for (op.TypeVoid r) = opcode.TypeVoid
opcode_for (op.TypeBool r) = opcode.TypeBool
opcode_for (op.TypeInt r w s) = opcode.TypeInt
opcode_for (op.TypeVector r t n) = opcode.TypeVector
opcode_for (op.TypeRuntimeArray r t) = opcode.TypeRuntimeArray
opcode_for (op.TypeStruct r ms) = opcode.TypeStruct
opcode_for (op.TypePointer r c t) = opcode.TypePointer
opcode_for (op.TypeFunction r t) = opcode.TypeFunction
opcode_for (op.Constant t r v) = opcode.Constant
opcode_for (op.Function t r c f) = opcode.Function
opcode_for op.FunctionEnd = opcode.FunctionEnd
opcode_for (op.Variable t r c vs) = opcode.Variable
opcode_for (op.Load t r p) = opcode.Load
opcode_for (op.Store p v) = opcode.Store
opcode_for (op.AccessChain t r b is) = opcode.AccessChain
opcode_for (op.Decorate x d vs) = opcode.Decorate
opcode_for (op.MemberDecorate x m d vs) = opcode.MemberDecorate
opcode_for (op.CompositeExtract t r v i) = opcode.CompositeExtract
opcode_for (op.Unary o t r a) = opcode.Unary o
opcode_for (op.Binary o t r a b) = opcode.Binary o
opcode_for (op.Select t r c a b) = opcode.Select
opcode_for (op.Atomic o t r p s m v) = opcode.Atomic o
opcode_for (op.AtomicCompareExchange t r p s e u v c) = opcode.AtomicCompareExchange
opcode_for (op.LoopMerge m n c) = opcode.LoopMerge
opcode_for (op.SelectionMerge m c) = opcode.SelectionMerge
opcode_for (op.Label r) = opcode.Label
opcode_for (op.Branch l) = opcode.Branch
opcode_for (op.BranchConditional c a b) = opcode.BranchConditional
opcode_for op.Return = opcode.Return

unary_known : (o : UnaryCode) → (unary_code o < 65536) × (opcode_of (unary_code o) ≡ Some (opcode.Unary o))
unfolding opcode_of
unary_known unary.Negate = (omega arith, refl)
unary_known unary.LogicalNot = (omega arith, refl)
unary_known unary.Complement = (omega arith, refl)
unary_known unary.BitReverse = (omega arith, refl)
unary_known unary.BitCount = (omega arith, refl)

binary_known : (o : BinaryCode) → (binary_code o < 65536) × (opcode_of (binary_code o) ≡ Some (opcode.Binary o))
unfolding opcode_of
binary_known binary.Add = (omega arith, refl)
binary_known binary.Subtract = (omega arith, refl)
binary_known binary.Multiply = (omega arith, refl)
binary_known binary.Divide = (omega arith, refl)
binary_known binary.Modulo = (omega arith, refl)
binary_known binary.WideMultiply = (omega arith, refl)
binary_known binary.SignedWideMultiply = (omega arith, refl)
binary_known binary.LogicalAnd = (omega arith, refl)
binary_known binary.Equal = (omega arith, refl)
binary_known binary.NotEqual = (omega arith, refl)
binary_known binary.GreaterEqual = (omega arith, refl)
binary_known binary.SignedGreaterEqual = (omega arith, refl)
binary_known binary.Less = (omega arith, refl)
binary_known binary.SignedLess = (omega arith, refl)
binary_known binary.ShiftRight = (omega arith, refl)
binary_known binary.SignedShiftRight = (omega arith, refl)
binary_known binary.ShiftLeft = (omega arith, refl)
binary_known binary.BitOr = (omega arith, refl)
binary_known binary.BitXor = (omega arith, refl)
binary_known binary.BitAnd = (omega arith, refl)

atomic_known : (o : AtomicCode) → (atomic_code o < 65536) × (opcode_of (atomic_code o) ≡ Some (opcode.Atomic o))
unfolding opcode_of
atomic_known atomic.Exchange = (omega arith, refl)
atomic_known atomic.Add = (omega arith, refl)
atomic_known atomic.SignedMin = (omega arith, refl)
atomic_known atomic.UnsignedMin = (omega arith, refl)
atomic_known atomic.SignedMax = (omega arith, refl)
atomic_known atomic.UnsignedMax = (omega arith, refl)
atomic_known atomic.And = (omega arith, refl)
atomic_known atomic.Or = (omega arith, refl)
atomic_known atomic.Xor = (omega arith, refl)

known : (o : Op) → (code_of o < 65536) × (opcode_of (code_of o) ≡ Some (opcode_for o))
unfolding opcode_of
known (op.MemoryModel a m) = (omega arith, refl)
known (op.EntryPoint m f n n' is) = (omega arith, refl)
known (op.ExecutionMode f m x y z) = (omega arith, refl)
known (op.Capability c) = (omega arith, refl)
known (op.TypeVoid r) = (omega arith, refl)
known (op.TypeBool r) = (omega arith, refl)
known (op.TypeInt r w s) = (omega arith, refl)
known (op.TypeVector r t n) = (omega arith, refl)
known (op.TypeRuntimeArray r t) = (omega arith, refl)
known (op.TypeStruct r ms) = (omega arith, refl)
known (op.TypePointer r c t) = (omega arith, refl)
known (op.TypeFunction r t) = (omega arith, refl)
known (op.Constant t r v) = (omega arith, refl)
known (op.Function t r c f) = (omega arith, refl)
known op.FunctionEnd = (omega arith, refl)
known (op.Variable t r c vs) = (omega arith, refl)
known (op.Load t r p) = (omega arith, refl)
known (op.Store p v) = (omega arith, refl)
known (op.AccessChain t r b is) = (omega arith, refl)
known (op.Decorate x d vs) = (omega arith, refl)
known (op.MemberDecorate x m d vs) = (omega arith, refl)
known (op.CompositeExtract t r v i) = (omega arith, refl)
known (op.Unary o t r a) = unary_known o
known (op.Binary o t r a b) = binary_known o
known (op.Select t r c a b) = (omega arith, refl)
known (op.Atomic o t r p s m v) = atomic_known o
known (op.AtomicCompareExchange t r p s e u v c) = (omega arith, refl)
known (op.LoopMerge m n c) = (omega arith, refl)
known (op.SelectionMerge m c) = (omega arith, refl)
known (op.Label r) = (omega arith, refl)
known (op.Branch l) = (omega arith, refl)
known (op.BranchConditional c a b) = (omega arith, refl)
known op.Return = (omega arith, refl)

-- what an instruction's own counts are: of the values of decorations and variables, and of the indexes of chains
abbrev pub IsSpelled : Op → Type 0
IsSpelled (op.EntryPoint m f n n' is) = length is < 60000
IsSpelled (op.TypeStruct r ms) = length ms < 60000
IsSpelled (op.Decorate x d vs) = (is_counted (values_of d) (length vs) ≡ true) × (length vs < 60000)
IsSpelled (op.MemberDecorate x m d vs) = (is_counted (values_of d) (length vs) ≡ true) × (length vs < 60000)
IsSpelled (op.Variable t r c vs) = (nat_le (length vs) 1 ≡ true) × (length vs < 60000)
IsSpelled (op.AccessChain t r b is) = (nat_le 1 (length is) && nat_le (length is) 2 ≡ true) × (length is < 60000)
IsSpelled o = Unit {0}

made : (o : Op) → IsSpelled o → made_by (opcode_for o) (operands_of o) ≡ Some o
made (op.MemoryModel a m) h = refl
made (op.EntryPoint m f n n' is) h = refl
made (op.ExecutionMode f m x y z) h = refl
made (op.Capability c) h = refl
made (op.TypeVoid r) h = refl
made (op.TypeBool r) h = refl
made (op.TypeInt r w s) h = refl
made (op.TypeVector r t n) h = refl
made (op.TypeRuntimeArray r t) h = refl
made (op.TypeStruct r ms) h = refl
made (op.TypePointer r c t) h = refl
made (op.TypeFunction r t) h = refl
made (op.Constant t r v) h = refl
made (op.Function t r c f) h = refl
made op.FunctionEnd h = refl
made (op.Variable t r c vs) h = ap (λ ok. if ok then Some (op.Variable t r c vs) else None) h.0
made (op.Load t r p) h = refl
made (op.Store p v) h = refl
made (op.AccessChain t r b is) h = ap (λ ok. if ok then Some (op.AccessChain t r b is) else None) h.0
made (op.Decorate x d vs) h = ap (λ ok. if ok then Some (op.Decorate x d vs) else None) h.0
made (op.MemberDecorate x m d vs) h = ap (λ ok. if ok then Some (op.MemberDecorate x m d vs) else None) h.0
made (op.CompositeExtract t r v i) h = refl
made (op.Unary o t r a) h = refl
made (op.Binary o t r a b) h = refl
made (op.Select t r c a b) h = refl
made (op.Atomic o t r p s m v) h = refl
made (op.AtomicCompareExchange t r p s e u v c) h = refl
made (op.LoopMerge m n c) h = refl
made (op.SelectionMerge m c) h = refl
made (op.Label r) h = refl
made (op.Branch l) h = refl
made (op.BranchConditional c a b) h = refl
made op.Return h = refl

short : (o : Op) → IsSpelled o → length (operands_of o) < 65535
short (op.MemoryModel a m) h = omega arith
short (op.EntryPoint m f n n' is) h = omega arith
short (op.ExecutionMode f m x y z) h = omega arith
short (op.Capability c) h = omega arith
short (op.TypeVoid r) h = omega arith
short (op.TypeBool r) h = omega arith
short (op.TypeInt r w s) h = omega arith
short (op.TypeVector r t n) h = omega arith
short (op.TypeRuntimeArray r t) h = omega arith
short (op.TypeStruct r ms) h = omega arith
short (op.TypePointer r c t) h = omega arith
short (op.TypeFunction r t) h = omega arith
short (op.Constant t r v) h = omega arith
short (op.Function t r c f) h = omega arith
short op.FunctionEnd h = omega arith
short (op.Variable t r c vs) h = let k = h.1 in omega arith
short (op.Load t r p) h = omega arith
short (op.Store p v) h = omega arith
short (op.AccessChain t r b is) h = let k = h.1 in omega arith
short (op.Decorate x d vs) h = let k = h.1 in omega arith
short (op.MemberDecorate x m d vs) h = let k = h.1 in omega arith
short (op.CompositeExtract t r v i) h = omega arith
short (op.Unary o t r a) h = omega arith
short (op.Binary o t r a b) h = omega arith
short (op.Select t r c a b) h = omega arith
short (op.Atomic o t r p s m v) h = omega arith
short (op.AtomicCompareExchange t r p s e u v c) h = omega arith
short (op.LoopMerge m n c) h = omega arith
short (op.SelectionMerge m c) h = omega arith
short (op.Label r) h = omega arith
short (op.Branch l) h = omega arith
short (op.BranchConditional c a b) h = omega arith
short op.Return h = omega arith

-- ## One instruction

taken : (a b : List ℕ) → take (length a) (a ++ b) ≡ a
taken [] b = refl
taken (x ∷ a) b = ap (λ z. x ∷ z) (taken a b)

dropped : (a b : List ℕ) → drop (length a) (a ++ b) ≡ b
dropped [] b = refl
dropped (x ∷ a) b = dropped a b

count_is : (n code : ℕ) → code < 65536 → (suc n * 65536 + code) / 65536 ≡ suc n
count_is n code lt = omega arith

code_is : (n code : ℕ) → code < 65536 → (suc n * 65536 + code) % 65536 ≡ code
code_is n code lt = omega arith

front_at : (o : Op) (operands rest : List ℕ) (code : ℕ) → opcode_of code ≡ Some (opcode_for o) → made_by (opcode_for o) operands ≡ Some o → front_of_count (suc (length operands)) code (operands ++ rest) ≡ Instruction o rest
front_at o operands rest code ec em =
    let ws = operands ++ rest in
    let n = length operands in
    let len = length-append operands rest in
    ap (λ t. if t || nat_lt (length ws + 1) (suc n) then BadCount else front_of_opcode (opcode_of code) (take (suc n - 1) ws) (drop (suc n - 1) ws)) (ne_eqb (suc n) 0 (λ e. absurd (omega arith)))
    ∙ ap (λ t. if t then BadCount else front_of_opcode (opcode_of code) (take (suc n - 1) ws) (drop (suc n - 1) ws)) (le-ltb (length ws + 1) (suc n) (omega (arith, len)))
    ∙ ap (λ k. front_of_opcode (opcode_of code) (take k ws) (drop k ws)) (let z : suc n - 1 ≡ n = omega arith in z)
    ∙ ap (λ q. front_of_opcode q (take n ws) (drop n ws)) ec
    ∙ ap (λ q. front_of_made (made_by (opcode_for o) q) (drop n ws)) (taken operands rest)
    ∙ ap (λ q. front_of_made q (drop n ws)) em
    ∙ ap (λ q. Instruction o q) (dropped operands rest)

front_is : (o : Op) (rest : List ℕ) → IsSpelled o → front (suc (length (operands_of o)) * 65536 + code_of o) (operands_of o ++ rest) ≡ Instruction o rest
unfolding front
front_is o rest h =
    let k = known o in
    let n = length (operands_of o) in
    ap (λ c. front_of_count c ((suc n * 65536 + code_of o) % 65536) (operands_of o ++ rest)) (count_is n (code_of o) k.0)
    ∙ ap (λ c. front_of_count (suc n) c (operands_of o ++ rest)) (code_is n (code_of o) k.0)
    ∙ front_at o (operands_of o) rest (code_of o) k.1 (made o h)

-- ## All instructions

abbrev pub AreSpelled : List Op → Type 0
AreSpelled [] = Unit {0}
AreSpelled (o ∷ os) = IsSpelled o × AreSpelled os

abbrev pub whole : List Op → Reading
whole os = record { ops = os; stop = None }

pub reads_back : (os : List Op) (n : ℕ) → length (words_of os) ≤ n → AreSpelled os → reading n (words_of os) ≡ whole os
unfolding reading
reads_back [] n le h = refl
reads_back (o ∷ os) zero le h = absurd (omega (arith, length-append (op_words o) (words_of os)))
reads_back (o ∷ os) (suc n) le h =
    ap (λ q. read_front q (reading n)) (front_is o (words_of os) h.0)
    ∙ ap (λ r. read_more o r) (reads_back os n (omega (arith, le, length-append (operands_of o) (words_of os))) h.1)

-- each instruction has at least one word
pub ops_fewer : (os : List Op) → length os ≤ length (words_of os)
ops_fewer [] = omega arith
ops_fewer (o ∷ os) = let h = ops_fewer os in omega (arith, length-append (op_words o) (words_of os))
