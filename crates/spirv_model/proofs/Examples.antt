-- Modules whose first refused word is worked out here by computation.
use Rattle.std.specs.Prelude.{◌≡◌, ℕ, ◌-◌, List, [], ◌∷◌, ◌++◌, map, take, slice_set, Option, Some, None, refl}
use Rattle.spirv_model.specs.declared.fault.ModuleFault.{ModuleFault}
use Rattle.spirv_model.specs.declared.fault.ModuleKind.{ModuleKind}
use Rattle.spirv_model.specs.declared.fault.ModuleKind.TheVariants as kind
use Rattle.spirv_model.specs.declared.code.UnaryCode.TheVariants as unary
use Rattle.spirv_model.specs.declared.code.BinaryCode.TheVariants as binary
use Rattle.spirv_model.specs.declared.code.AtomicCode.TheVariants as atomic
use Rattle.spirv_model.specs.Op.{Op}
use Rattle.spirv_model.specs.Op as op
use Rattle.spirv_model.specs.Table.{opcode_of}
use Rattle.spirv_model.specs.Words.{front, module_words}
use Rattle.spirv_model.specs.FirstBad.{first_bad, header_fault, reading}

abbrev pub fault : ℕ → ModuleKind → Option ModuleFault
fault w k = Some (record { word = w; kind = k })

-- ## Words: the smallest module, an entry point, two types and one block that returns

abbrev smallest : List ℕ
smallest =
    (0x0723_0203 ∷ 0x0001_0600 ∷ 0 ∷ 5 ∷ 0 ∷ [])
    ++ (0x0002_0011 ∷ 1 ∷ [])
    ++ (0x0003_000e ∷ 0 ∷ 1 ∷ [])
    ++ (0x0005_000f ∷ 5 ∷ 3 ∷ 0x6e69_616d ∷ 0 ∷ [])
    ++ (0x0002_0013 ∷ 1 ∷ [])
    ++ (0x0003_0021 ∷ 2 ∷ 1 ∷ [])
    ++ (0x0005_0036 ∷ 1 ∷ 3 ∷ 0 ∷ 2 ∷ [])
    ++ (0x0002_00f8 ∷ 4 ∷ [])
    ++ (0x0001_00fd ∷ [])
    ++ (0x0001_0038 ∷ [])

good_smallest : first_bad smallest ≡ None
unfolding first_bad header_fault reading front opcode_of
good_smallest = refl

wrong_version : first_bad (0x0723_0203 ∷ 0x0001_0500 ∷ 0 ∷ 1 ∷ 0 ∷ []) ≡ fault 1 kind.Header
unfolding first_bad header_fault reading front opcode_of
wrong_version = refl

-- the smallest module with another word at a place
abbrev with : (at word : ℕ) → Option ModuleFault
unfolding first_bad header_fault reading front opcode_of
with at word = first_bad (slice_set smallest at word)

wrong_headers : with 0 0x0302_2307 ∷ with 1 0x0001_0700 ∷ with 2 8 ∷ with 4 1 ∷ [] ≡ fault 0 kind.Header ∷ fault 1 kind.Header ∷ fault 2 kind.Header ∷ fault 4 kind.Header ∷ []
unfolding first_bad header_fault reading front opcode_of
wrong_headers = refl

-- the first words of the instructions
abbrev first_words : List ℕ
first_words = 5 ∷ 7 ∷ 10 ∷ 15 ∷ 17 ∷ 20 ∷ 25 ∷ 27 ∷ 28 ∷ []

-- a word count of 0, one that passes the end, and one that is wrong for the opcode, of every instruction
no_counts : map (λ at. with at 0) first_words ≡ map (λ at. fault at kind.Count) first_words
unfolding first_bad header_fault reading front opcode_of
no_counts = refl

long_counts : map (λ at. with at 0xffff_0011) first_words ≡ map (λ at. fault at kind.Count) first_words
unfolding first_bad header_fault reading front opcode_of
long_counts = refl

wrong_counts : map (λ at. with at 0x0001_0015) first_words ≡ map (λ at. fault at kind.Count) first_words
unfolding first_bad header_fault reading front opcode_of
wrong_counts = refl

-- OpNop is not in the table
wrong_opcodes : map (λ at. with at 0x0001_0000) first_words ≡ map (λ at. fault at kind.Opcode) first_words
unfolding first_bad header_fault reading front opcode_of
wrong_opcodes = refl

-- so many words of the smallest module
abbrev first_ones : ℕ → Option ModuleFault
unfolding first_bad header_fault reading front opcode_of
first_ones n = first_bad (take n smallest)

missing_header_words : map first_ones (0 ∷ 1 ∷ 2 ∷ 3 ∷ 4 ∷ []) ≡ map (λ n. fault n kind.Header) (0 ∷ 1 ∷ 2 ∷ 3 ∷ 4 ∷ [])
unfolding first_bad header_fault reading front opcode_of
missing_header_words = refl

-- cut between two instructions, the last word is refused
cut_between : map first_ones first_words ≡ map (λ n. fault (n - 1) kind.Flow) first_words
unfolding first_bad header_fault reading front opcode_of
cut_between = refl

-- cut inside of one, its first word
cut_inside : map first_ones (6 ∷ 8 ∷ 9 ∷ 14 ∷ 24 ∷ 26 ∷ []) ≡ fault 5 kind.Count ∷ fault 7 kind.Count ∷ fault 7 kind.Count ∷ fault 10 kind.Count ∷ fault 20 kind.Count ∷ fault 25 kind.Count ∷ []
unfolding first_bad header_fault reading front opcode_of
cut_inside = refl

-- ## Instructions: a module that has each of them

abbrev pub setup : List Op
setup =
    op.Capability 1
    ∷ op.MemoryModel 0 1
    ∷ op.EntryPoint 5 24 0x6e69_616d 0 (17 ∷ 18 ∷ 19 ∷ 20 ∷ [])
    ∷ op.ExecutionMode 24 17 64 1 1
    ∷ op.Decorate 7 6 (4 ∷ [])
    ∷ op.Decorate 8 2 []
    ∷ op.MemberDecorate 8 0 35 (0 ∷ [])
    ∷ op.Decorate 9 2 []
    ∷ op.MemberDecorate 9 0 35 (0 ∷ [])
    ∷ op.MemberDecorate 9 1 35 (4 ∷ [])
    ∷ op.Decorate 17 11 (28 ∷ [])
    ∷ op.Decorate 18 11 (29 ∷ [])
    ∷ op.Decorate 20 34 (0 ∷ [])
    ∷ op.Decorate 20 33 (37 ∷ [])
    ∷ []

abbrev pub types : List Op
types =
    op.TypeVoid 1
    ∷ op.TypeFunction 2 1
    ∷ op.TypeInt 3 32 0
    ∷ op.TypeBool 4
    ∷ op.TypeVector 5 3 3
    ∷ op.TypeStruct 6 (3 ∷ 3 ∷ [])
    ∷ op.TypeRuntimeArray 7 3
    ∷ op.TypeStruct 8 (7 ∷ [])
    ∷ op.TypeStruct 9 (3 ∷ 3 ∷ [])
    ∷ op.TypePointer 10 1 5
    ∷ op.TypePointer 11 1 3
    ∷ op.TypePointer 12 7 3
    ∷ op.TypePointer 13 9 9
    ∷ op.TypePointer 14 9 3
    ∷ op.TypePointer 15 12 8
    ∷ op.TypePointer 16 12 3
    ∷ op.Variable 10 17 1 []
    ∷ op.Variable 11 18 1 []
    ∷ op.Variable 13 19 9 []
    ∷ op.Variable 15 20 12 []
    ∷ op.Constant 3 21 0
    ∷ op.Constant 3 22 1
    ∷ op.Constant 3 23 64
    ∷ []

abbrev pub begun : List Op
begun = setup ++ types ++ (op.Function 1 24 0 2 ∷ op.Label 25 ∷ op.Variable 12 26 7 (21 ∷ []) ∷ op.Variable 12 27 7 [] ∷ [])

-- loads of a built-in, of its component and of the push constants, and each operation on values
abbrev pub values : List Op
values =
    op.Load 5 30 17
    ∷ op.CompositeExtract 3 31 30 0
    ∷ op.Load 3 32 18
    ∷ op.AccessChain 14 33 19 (22 ∷ [])
    ∷ op.Load 3 34 33
    ∷ op.Unary unary.Negate 3 35 32
    ∷ op.Unary unary.Complement 3 36 35
    ∷ op.Unary unary.BitReverse 3 37 36
    ∷ op.Unary unary.BitCount 3 38 37
    ∷ op.Binary binary.Add 3 39 31 32
    ∷ op.Binary binary.Subtract 3 40 39 32
    ∷ op.Binary binary.Multiply 3 41 40 32
    ∷ op.Binary binary.Divide 3 42 41 23
    ∷ op.Binary binary.Modulo 3 43 41 23
    ∷ op.Binary binary.WideMultiply 6 44 41 43
    ∷ op.Binary binary.SignedWideMultiply 6 45 41 43
    ∷ op.CompositeExtract 3 46 45 1
    ∷ op.Binary binary.Equal 4 47 46 41
    ∷ op.Binary binary.NotEqual 4 48 46 41
    ∷ op.Binary binary.GreaterEqual 4 49 46 41
    ∷ op.Binary binary.SignedGreaterEqual 4 50 46 41
    ∷ op.Binary binary.Less 4 51 31 34
    ∷ op.Binary binary.SignedLess 4 52 46 41
    ∷ op.Binary binary.LogicalAnd 4 53 47 51
    ∷ op.Unary unary.LogicalNot 4 54 53
    ∷ op.Select 3 55 54 21 46
    ∷ op.Select 4 56 54 53 54
    ∷ op.Binary binary.ShiftRight 3 57 55 22
    ∷ op.Binary binary.SignedShiftRight 3 58 55 22
    ∷ op.Binary binary.ShiftLeft 3 59 55 22
    ∷ op.Binary binary.BitOr 3 60 55 59
    ∷ op.Binary binary.BitXor 3 61 55 59
    ∷ op.Binary binary.BitAnd 3 62 55 59
    ∷ []

-- a store to a word of a buffer and each atomic instruction on it, guarded
abbrev pub guarded : List Op
guarded =
    op.SelectionMerge 65 0
    ∷ op.BranchConditional 51 63 64
    ∷ op.Label 63
    ∷ op.AccessChain 16 66 20 (21 ∷ 31 ∷ [])
    ∷ op.Store 66 62
    ∷ op.Atomic atomic.Exchange 3 67 66 22 21 62
    ∷ op.Atomic atomic.Add 3 68 66 22 21 62
    ∷ op.Atomic atomic.SignedMin 3 69 66 22 21 62
    ∷ op.Atomic atomic.UnsignedMin 3 70 66 22 21 62
    ∷ op.Atomic atomic.SignedMax 3 71 66 22 21 62
    ∷ op.Atomic atomic.UnsignedMax 3 72 66 22 21 62
    ∷ op.Atomic atomic.And 3 73 66 22 21 62
    ∷ op.Atomic atomic.Or 3 74 66 22 21 62
    ∷ op.Atomic atomic.Xor 3 75 66 22 21 62
    ∷ op.AtomicCompareExchange 3 76 66 22 21 21 62 75
    ∷ op.Store 26 76
    ∷ op.Branch 65
    ∷ op.Label 64
    ∷ op.Branch 65
    ∷ op.Label 65
    ∷ []

-- a loop whose way out is a test at its head
abbrev pub looped : List Op
looped =
    op.Branch 80
    ∷ op.Label 80
    ∷ op.LoopMerge 82 81 0
    ∷ op.BranchConditional 56 83 82
    ∷ op.Label 83
    ∷ op.Branch 81
    ∷ op.Label 81
    ∷ op.Branch 80
    ∷ op.Label 82
    ∷ []

abbrev pub body : List Op
body = begun ++ values ++ guarded ++ looped

abbrev pub finish : List Op
finish = op.Return ∷ op.FunctionEnd ∷ []

abbrev pub bound : ℕ
bound = 100

abbrev pub bad : List Op → Option ModuleFault
unfolding first_bad header_fault reading front opcode_of
bad ops = first_bad (module_words bound ops)

good_each_instruction : bad (body ++ finish) ≡ None
unfolding first_bad header_fault reading front opcode_of
good_each_instruction = refl
