-- Instructions that are refused, and ids and labels that are never made, worked out by computation.
use Rattle.std.specs.Prelude.{◌≡◌, ℕ, ◌+◌, List, [], ◌∷◌, ◌++◌, map, length, take, Option, refl}
use Rattle.spirv_model.specs.declared.fault.ModuleFault.{ModuleFault}
use Rattle.spirv_model.specs.declared.fault.ModuleKind.{ModuleKind}
use Rattle.spirv_model.specs.declared.fault.ModuleKind.TheVariants as kind
use Rattle.spirv_model.specs.declared.code.UnaryCode.TheVariants as unary
use Rattle.spirv_model.specs.declared.code.BinaryCode.TheVariants as binary
use Rattle.spirv_model.specs.declared.code.AtomicCode.TheVariants as atomic
use Rattle.spirv_model.specs.Op.{Op}
use Rattle.spirv_model.specs.Op as op
use Rattle.spirv_model.specs.Table.{opcode_of}
use Rattle.spirv_model.specs.Words.{front, words_of}
use Rattle.spirv_model.specs.FirstBad.{first_bad, header_fault, reading}
use Rattle.spirv_model.proofs.Examples.{fault, setup, types, begun, values, body, finish, bad}

-- what stands before, the instruction, which of its words is refused, and of which kind
record Case : Type 0 where
  before : List Op
  instruction : Op
  place : ℕ
  kind : ModuleKind

abbrev case : List Op → Op → ℕ → ModuleKind → Case
case before o place k = record { before = before; instruction = o; place = place; kind = k }

abbrev judged : Case → Option ModuleFault
unfolding first_bad header_fault reading front opcode_of
judged c = bad (c.before ++ c.instruction ∷ [])

abbrev expected : Case → Option ModuleFault
expected c = fault (5 + length (words_of c.before) + c.place) c.kind

-- sections: left out, twice, or too late; behind the function's end; a variable that isn't first in its function
abbrev order_cases : List Case
order_cases =
    case [] (op.MemoryModel 0 1) 0 kind.Order
    ∷ case (take 1 setup) (op.EntryPoint 5 24 0x6e69_616d 0 []) 0 kind.Order
    ∷ case (take 2 setup) (op.MemoryModel 0 1) 0 kind.Order
    ∷ case (take 2 setup) (op.TypeVoid 1) 0 kind.Order
    ∷ case (take 3 setup) (op.EntryPoint 5 24 0x6e69_616d 0 []) 0 kind.Order
    ∷ case (take 3 setup) (op.Capability 1) 0 kind.Order
    ∷ case (take 5 setup) (op.ExecutionMode 24 17 1 1 1) 0 kind.Order
    ∷ case (setup ++ take 1 types) (op.Decorate 7 6 (4 ∷ [])) 0 kind.Order
    ∷ case (setup ++ types) (op.Label 25) 0 kind.Order
    ∷ case (setup ++ types) op.FunctionEnd 0 kind.Order
    ∷ case begun (op.Constant 3 28 0) 0 kind.Order
    ∷ case begun (op.Function 1 24 0 2) 0 kind.Order
    ∷ case (begun ++ take 1 values) (op.Variable 12 28 7 []) 0 kind.Order
    ∷ case (body ++ (op.Return ∷ op.Label 84 ∷ [])) (op.Variable 12 28 7 []) 0 kind.Order
    ∷ case (setup ++ types ++ (op.Function 1 24 0 2 ∷ [])) (op.Variable 12 28 7 []) 0 kind.Order
    ∷ case (body ++ finish) op.Return 0 kind.Order
    ∷ case (body ++ finish) (op.Function 1 84 0 2) 0 kind.Order
    ∷ []

-- ids made twice, from the bound on, used before they are made
abbrev ident_cases : List Case
ident_cases =
    case (take 2 setup) (op.EntryPoint 5 100 0x6e69_616d 0 []) 2 kind.Ident
    ∷ case (take 2 setup) (op.EntryPoint 5 24 0x6e69_616d 0 (17 ∷ 100 ∷ [])) 6 kind.Ident
    ∷ case (take 3 setup) (op.ExecutionMode 100 17 1 1 1) 1 kind.Ident
    ∷ case (take 4 setup) (op.Decorate 100 2 []) 1 kind.Ident
    ∷ case (take 4 setup) (op.MemberDecorate 100 0 35 (0 ∷ [])) 1 kind.Ident
    ∷ case (setup ++ types) (op.TypeStruct 23 (3 ∷ [])) 1 kind.Ident
    ∷ case (setup ++ types) (op.TypeStruct 28 (3 ∷ 28 ∷ [])) 3 kind.Ident
    ∷ case (setup ++ types) (op.TypeRuntimeArray 100 3) 1 kind.Ident
    ∷ case (setup ++ types) (op.TypePointer 28 12 29) 3 kind.Ident
    ∷ case (setup ++ types) (op.Constant 28 29 0) 1 kind.Ident
    ∷ case (setup ++ types) (op.Function 1 24 0 28) 4 kind.Ident
    ∷ case (setup ++ types ++ (op.Function 1 24 0 2 ∷ [])) (op.Label 24) 1 kind.Ident
    ∷ case begun (op.Load 3 26 26) 2 kind.Ident
    ∷ case begun (op.Load 3 30 31) 3 kind.Ident
    ∷ case begun (op.Binary binary.Add 3 30 21 30) 4 kind.Ident
    ∷ case begun (op.Store 28 21) 1 kind.Ident
    ∷ case begun (op.Store 26 28) 2 kind.Ident
    ∷ case (begun ++ values) (op.SelectionMerge 100 0) 1 kind.Ident
    ∷ case begun (op.Branch 100) 1 kind.Ident
    ∷ []

-- literals of the setup, of decorations and of types
abbrev literal_cases : List Case
literal_cases =
    case [] (op.Capability 2) 1 kind.Shape
    ∷ case (take 1 setup) (op.MemoryModel 1 1) 1 kind.Shape
    ∷ case (take 1 setup) (op.MemoryModel 0 2) 2 kind.Shape
    ∷ case (take 2 setup) (op.EntryPoint 4 24 0x6e69_616d 0 []) 1 kind.Shape
    ∷ case (take 2 setup) (op.EntryPoint 5 24 0x6e69_616e 0 []) 3 kind.Shape
    ∷ case (take 2 setup) (op.EntryPoint 5 24 0x6e69_616d 1 []) 4 kind.Shape
    ∷ case (take 3 setup) (op.ExecutionMode 23 17 1 1 1) 1 kind.Shape
    ∷ case (take 3 setup) (op.ExecutionMode 24 18 1 1 1) 2 kind.Shape
    ∷ case (take 4 setup) (op.Decorate 7 35 (0 ∷ [])) 2 kind.Shape
    ∷ case (take 4 setup) (op.Decorate 7 24 []) 2 kind.Shape
    ∷ case (take 4 setup) (op.Decorate 7 6 (8 ∷ [])) 3 kind.Shape
    ∷ case (take 4 setup) (op.Decorate 17 11 (25 ∷ [])) 3 kind.Shape
    ∷ case (take 4 setup) (op.Decorate 17 11 (30 ∷ [])) 3 kind.Shape
    ∷ case (take 4 setup) (op.Decorate 20 33 (38 ∷ [])) 3 kind.Shape
    ∷ case (take 4 setup) (op.Decorate 20 34 (1 ∷ [])) 3 kind.Shape
    ∷ case (take 4 setup) (op.MemberDecorate 9 1 11 (28 ∷ [])) 3 kind.Shape
    ∷ case (take 4 setup) (op.MemberDecorate 9 1 35 (8 ∷ [])) 4 kind.Shape
    ∷ case (setup ++ take 2 types) (op.TypeInt 3 64 0) 2 kind.Shape
    ∷ case (setup ++ take 2 types) (op.TypeInt 3 32 1) 3 kind.Shape
    ∷ case (setup ++ take 4 types) (op.TypeVector 5 3 5) 3 kind.Shape
    ∷ case (setup ++ take 4 types) (op.TypeVector 5 3 1) 3 kind.Shape
    ∷ case (setup ++ types) (op.TypePointer 28 2 3) 2 kind.Shape
    ∷ case (setup ++ types) (op.Function 1 24 1 2) 3 kind.Shape
    ∷ case (begun ++ values) (op.SelectionMerge 63 1) 2 kind.Shape
    ∷ case (begun ++ values) (op.LoopMerge 63 64 1) 3 kind.Shape
    ∷ case (begun ++ take 1 values) (op.CompositeExtract 3 31 30 3) 4 kind.Shape
    ∷ []

-- types declared twice or made of the wrong ones, and variables and functions of the wrong types
abbrev type_cases : List Case
type_cases =
    case (setup ++ types) (op.TypeVoid 28) 1 kind.Shape
    ∷ case (setup ++ types) (op.TypeInt 28 32 0) 1 kind.Shape
    ∷ case (setup ++ types) (op.TypeInt 28 16 0) 2 kind.Shape
    ∷ case (setup ++ types) (op.TypeVector 28 3 3) 1 kind.Shape
    ∷ case (setup ++ types) (op.TypeVector 28 4 3) 2 kind.Shape
    ∷ case (setup ++ types) (op.TypeFunction 28 1) 1 kind.Shape
    ∷ case (setup ++ types) (op.TypeFunction 28 3) 2 kind.Shape
    ∷ case (setup ++ types) (op.TypeRuntimeArray 28 4) 2 kind.Shape
    ∷ case (setup ++ types) (op.TypeStruct 28 (3 ∷ 7 ∷ [])) 3 kind.Shape
    ∷ case (setup ++ types) (op.TypeStruct 28 (4 ∷ [])) 2 kind.Shape
    ∷ case (setup ++ types) (op.TypePointer 28 1 9) 3 kind.Shape
    ∷ case (setup ++ types) (op.TypePointer 28 7 5) 3 kind.Shape
    ∷ case (setup ++ types) (op.TypePointer 28 9 8) 3 kind.Shape
    ∷ case (setup ++ types) (op.TypePointer 28 12 9) 3 kind.Shape
    ∷ case (setup ++ types) (op.Constant 4 28 0) 1 kind.Shape
    ∷ case (setup ++ types) (op.Variable 3 28 1 []) 1 kind.Shape
    ∷ case (setup ++ types) (op.Variable 16 28 12 []) 1 kind.Shape
    ∷ case (setup ++ types) (op.Variable 14 28 9 []) 1 kind.Shape
    ∷ case (setup ++ types) (op.Variable 15 28 9 []) 3 kind.Shape
    ∷ case (setup ++ types) (op.Variable 12 28 7 []) 3 kind.Shape
    ∷ case (setup ++ types) (op.Variable 11 28 1 (21 ∷ [])) 4 kind.Shape
    ∷ case (setup ++ types ++ (op.Function 1 24 0 2 ∷ op.Label 25 ∷ [])) (op.Variable 11 28 1 []) 3 kind.Shape
    ∷ case begun (op.Variable 12 28 7 (26 ∷ [])) 4 kind.Shape
    ∷ case (setup ++ types) (op.Function 3 24 0 2) 1 kind.Shape
    ∷ case (setup ++ types) (op.Function 1 28 0 2) 2 kind.Shape
    ∷ case (setup ++ types) (op.Function 1 24 0 3) 4 kind.Shape
    ∷ []

-- values of the wrong types
abbrev value_cases : List Case
value_cases =
    case begun (op.Load 4 30 18) 1 kind.Shape
    ∷ case begun (op.Load 3 30 17) 3 kind.Shape
    ∷ case begun (op.Load 3 30 21) 3 kind.Shape
    ∷ case (begun ++ values) (op.Store 18 32) 1 kind.Shape
    ∷ case (begun ++ values) (op.Store 33 32) 1 kind.Shape
    ∷ case (begun ++ values) (op.Store 26 51) 2 kind.Shape
    ∷ case begun (op.AccessChain 12 30 20 (21 ∷ 21 ∷ [])) 1 kind.Shape
    ∷ case begun (op.AccessChain 14 30 20 (21 ∷ 21 ∷ [])) 3 kind.Shape
    ∷ case begun (op.AccessChain 16 30 20 (21 ∷ [])) 3 kind.Shape
    ∷ case begun (op.AccessChain 14 30 19 (21 ∷ 21 ∷ [])) 3 kind.Shape
    ∷ case begun (op.AccessChain 14 30 17 (21 ∷ [])) 3 kind.Shape
    ∷ case begun (op.AccessChain 16 30 20 (22 ∷ 21 ∷ [])) 4 kind.Shape
    ∷ case (begun ++ values) (op.AccessChain 16 63 20 (34 ∷ 21 ∷ [])) 4 kind.Shape
    ∷ case (begun ++ values) (op.AccessChain 16 63 20 (21 ∷ 51 ∷ [])) 5 kind.Shape
    ∷ case begun (op.AccessChain 14 30 19 (23 ∷ [])) 4 kind.Shape
    ∷ case (begun ++ values) (op.CompositeExtract 3 63 45 2) 4 kind.Shape
    ∷ case (begun ++ values) (op.CompositeExtract 3 63 46 0) 3 kind.Shape
    ∷ case (begun ++ values) (op.CompositeExtract 4 63 45 0) 1 kind.Shape
    ∷ case (begun ++ values) (op.Unary unary.LogicalNot 4 63 46) 3 kind.Shape
    ∷ case (begun ++ values) (op.Unary unary.Complement 4 63 46) 1 kind.Shape
    ∷ case (begun ++ values) (op.Binary binary.Add 3 63 46 51) 4 kind.Shape
    ∷ case (begun ++ values) (op.Binary binary.Add 3 63 46 30) 4 kind.Shape
    ∷ case (begun ++ values) (op.Binary binary.Less 3 63 46 46) 1 kind.Shape
    ∷ case (begun ++ values) (op.Binary binary.LogicalAnd 4 63 46 51) 3 kind.Shape
    ∷ case (begun ++ values) (op.Binary binary.WideMultiply 3 63 46 46) 1 kind.Shape
    ∷ case (begun ++ values) (op.Select 5 63 51 30 30) 1 kind.Shape
    ∷ case (begun ++ values) (op.Select 3 63 46 46 46) 3 kind.Shape
    ∷ case (begun ++ values) (op.Select 3 63 51 51 46) 4 kind.Shape
    ∷ case (begun ++ values) (op.Atomic atomic.Add 3 63 26 22 21 46) 3 kind.Shape
    ∷ case (body) (op.Atomic atomic.Add 3 84 66 46 21 46) 4 kind.Shape
    ∷ case (body) (op.Atomic atomic.Add 3 84 66 22 46 46) 5 kind.Shape
    ∷ case (body) (op.AtomicCompareExchange 3 84 66 22 21 21 51 46) 7 kind.Shape
    ∷ case (begun ++ values ++ (op.SelectionMerge 65 0 ∷ [])) (op.BranchConditional 46 63 64) 1 kind.Shape
    ∷ []

-- blocks, branches and merges
abbrev flow_cases : List Case
flow_cases =
    case (setup ++ types ++ (op.Function 1 24 0 2 ∷ [])) op.Return 0 kind.Flow
    ∷ case (setup ++ types ++ (op.Function 1 24 0 2 ∷ [])) op.FunctionEnd 0 kind.Flow
    ∷ case begun op.FunctionEnd 0 kind.Flow
    ∷ case begun (op.Label 28) 0 kind.Flow
    ∷ case (begun ++ (op.Return ∷ [])) (op.Store 26 21) 0 kind.Flow
    ∷ case (begun ++ values) (op.BranchConditional 51 63 64) 0 kind.Flow
    ∷ case (begun ++ values ++ (op.SelectionMerge 63 0 ∷ [])) (op.Branch 63) 0 kind.Flow
    ∷ case (begun ++ values ++ (op.LoopMerge 63 64 0 ∷ [])) op.Return 0 kind.Flow
    ∷ case begun (op.Branch 25) 1 kind.Flow
    ∷ case begun (op.Branch 23) 1 kind.Flow
    ∷ case body (op.SelectionMerge 80 0) 1 kind.Flow
    ∷ case body (op.LoopMerge 84 80 0) 2 kind.Flow
    ∷ []

refused_order : map judged order_cases ≡ map expected order_cases
unfolding first_bad header_fault reading front opcode_of
refused_order = refl

refused_ident : map judged ident_cases ≡ map expected ident_cases
unfolding first_bad header_fault reading front opcode_of
refused_ident = refl

refused_literals : map judged literal_cases ≡ map expected literal_cases
unfolding first_bad header_fault reading front opcode_of
refused_literals = refl

refused_types : map judged type_cases ≡ map expected type_cases
unfolding first_bad header_fault reading front opcode_of
refused_types = refl

refused_values : map judged value_cases ≡ map expected value_cases
unfolding first_bad header_fault reading front opcode_of
refused_values = refl

refused_flow : map judged flow_cases ≡ map expected flow_cases
unfolding first_bad header_fault reading front opcode_of
refused_flow = refl

-- ## What is never made

-- a label that a branch names, of which the block never comes, and one that is made as a value
never_made_label : bad (begun ++ (op.Branch 30 ∷ op.FunctionEnd ∷ [])) ≡ fault (5 + length (words_of begun) + 1) kind.Flow
unfolding first_bad header_fault reading front opcode_of
never_made_label = refl

label_made_as_value : bad (begun ++ (op.Branch 30 ∷ op.Label 31 ∷ op.Load 3 30 26 ∷ op.Return ∷ op.FunctionEnd ∷ [])) ≡ fault (5 + length (words_of begun) + 1) kind.Flow
unfolding first_bad header_fault reading front opcode_of
label_made_as_value = refl

-- an id of the interface, before a label that is never made too
never_made_interface : bad (op.Capability 1 ∷ op.MemoryModel 0 1 ∷ op.EntryPoint 5 3 0x6e69_616d 0 (9 ∷ []) ∷ op.TypeVoid 1 ∷ op.TypeFunction 2 1 ∷ op.Function 1 3 0 2 ∷ op.Label 4 ∷ op.Branch 5 ∷ op.FunctionEnd ∷ []) ≡ fault 15 kind.Ident
unfolding first_bad header_fault reading front opcode_of
never_made_interface = refl

-- an id that a decoration names, but only where no other word is bad
never_made_decorated : bad (op.Capability 1 ∷ op.MemoryModel 0 1 ∷ op.EntryPoint 5 3 0x6e69_616d 0 [] ∷ op.Decorate 9 2 [] ∷ op.TypeVoid 1 ∷ op.TypeFunction 2 1 ∷ op.Function 1 3 0 2 ∷ op.Label 4 ∷ op.Return ∷ op.FunctionEnd ∷ []) ≡ fault 16 kind.Ident
unfolding first_bad header_fault reading front opcode_of
never_made_decorated = refl

open_block_first : bad (op.Capability 1 ∷ op.MemoryModel 0 1 ∷ op.EntryPoint 5 3 0x6e69_616d 0 [] ∷ op.Decorate 9 2 [] ∷ op.TypeVoid 1 ∷ op.TypeFunction 2 1 ∷ op.Function 1 3 0 2 ∷ op.Label 4 ∷ []) ≡ fault 29 kind.Flow
unfolding first_bad header_fault reading front opcode_of
open_block_first = refl
