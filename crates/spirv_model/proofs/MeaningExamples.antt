-- Modules whose outcome is worked out here by computation.
use Rattle.std.specs.Prelude.{◌≡◌, ℕ, List, [], ◌∷◌, ◌++◌, replicate, slice_set, Option, Some, None, option_map, refl}
use Rattle.shader_model.specs.declared.ids.Ids.{Ids}
use Rattle.shader_model.specs.Invocation.{Slots, words_in}
use Rattle.spirv_model.specs.declared.code.BinaryCode.TheVariants as binary
use Rattle.spirv_model.specs.declared.code.AtomicCode.TheVariants as atomic
use Rattle.spirv_model.specs.Op.{Op}
use Rattle.spirv_model.specs.Op as op
use Rattle.spirv_model.specs.Table.{opcode_of}
use Rattle.spirv_model.specs.Words.{front, module_words}
use Rattle.spirv_model.specs.FirstBad.{first_bad, header_fault, reading}
use Rattle.spirv_model.specs.Meaning.ModuleMeaning.{module_meaning}
use Rattle.spirv_model.specs.Meaning.ModuleDispatch.{group_of, module_dispatched}
use Rattle.spirv_model.proofs.Examples.{begun, bound, finish}

-- ## Words: a module of one block that returns

abbrev pub minimal : List ℕ
minimal =
    (0x0723_0203 ∷ 0x0001_0600 ∷ 0 ∷ 5 ∷ 0 ∷ [])
    ++ (0x0002_0011 ∷ 1 ∷ [])
    ++ (0x0003_000e ∷ 0 ∷ 1 ∷ [])
    ++ (0x0005_000f ∷ 5 ∷ 3 ∷ 0x6e69_616d ∷ 0 ∷ [])
    ++ (0x0006_0010 ∷ 3 ∷ 17 ∷ 4 ∷ 2 ∷ 1 ∷ [])
    ++ (0x0002_0013 ∷ 1 ∷ [])
    ++ (0x0003_0021 ∷ 2 ∷ 1 ∷ [])
    ++ (0x0005_0036 ∷ 1 ∷ 3 ∷ 0 ∷ 2 ∷ [])
    ++ (0x0002_00f8 ∷ 4 ∷ [])
    ++ (0x0001_00fd ∷ [])
    ++ (0x0001_0038 ∷ [])

abbrev pub thread : (x : ℕ) → Ids
thread x = record { group = 0 ∷ 0 ∷ 0 ∷ []; thread = x ∷ 0 ∷ 0 ∷ []; size = 64 ∷ 1 ∷ 1 ∷ [] }

-- these words in the last unordered access view, and two in the first constant buffer
abbrev pub slots : List ℕ → Slots
slots words = record { constants = slice_set (replicate 14 []) 0 (5 ∷ 6 ∷ []); reads = replicate 16 []; writes = slice_set (replicate 8 []) 7 words }

minimal_leaves_all : module_meaning minimal (thread 3) (slots (1 ∷ 2 ∷ [])) ≡ Some (slots (1 ∷ 2 ∷ []))
unfolding module_meaning reading front opcode_of
minimal_leaves_all = refl

minimal_group : group_of minimal ≡ 4 ∷ 2 ∷ 1 ∷ []
unfolding group_of reading front opcode_of
minimal_group = refl

-- without the return, a step onto the function's end; and a word that is no instruction
no_return : module_meaning (slice_set minimal 33 0x0001_0038) (thread 3) (slots []) ≡ None
unfolding module_meaning reading front opcode_of
no_return = refl

no_instruction : module_meaning (minimal ++ (0 ∷ [])) (thread 3) (slots []) ≡ None
unfolding module_meaning reading front opcode_of
no_instruction = refl

-- ## Instructions: the thread's x is 31, the view is at binding 37

abbrev thread_x : List Op
thread_x = op.Load 5 30 17 ∷ op.CompositeExtract 3 31 30 0 ∷ []

-- counts up to x in the variable 26, at least to 1
abbrev counting : List Op
counting =
    op.Branch 40
    ∷ op.Label 40
    ∷ op.Load 3 32 26
    ∷ op.Binary binary.Add 3 33 32 22
    ∷ op.Store 26 33
    ∷ op.Binary binary.Less 4 34 33 31
    ∷ op.LoopMerge 42 41 0
    ∷ op.BranchConditional 34 41 42
    ∷ op.Label 41
    ∷ op.Branch 40
    ∷ op.Label 42
    ∷ []

-- stores 64 divided by the count into the word x of the view, and adds 64 to it
abbrev dividing : List Op
dividing =
    op.Load 3 50 26
    ∷ op.Binary binary.Divide 3 51 23 50
    ∷ op.AccessChain 16 52 20 (21 ∷ 31 ∷ [])
    ∷ op.Store 52 51
    ∷ op.Atomic atomic.Add 3 53 52 22 21 23
    ∷ []

abbrev whole : List Op → List ℕ
whole ops = module_words bound (begun ++ ops ++ finish)

abbrev view_after : List Op → (x : ℕ) → List ℕ → Option (List ℕ)
unfolding module_meaning reading front opcode_of
view_after ops x words = option_map (λ s. words_in s.writes 7) (module_meaning (whole ops) (thread x) (slots words))

good_counting : first_bad (whole (thread_x ++ counting ++ dividing)) ≡ None
unfolding first_bad header_fault reading front opcode_of
good_counting = refl

-- 64 / 3 + 64, and 64 / 1 + 64
counts_to_three : view_after (thread_x ++ counting ++ dividing) 3 (9 ∷ 9 ∷ 9 ∷ 9 ∷ []) ≡ Some (9 ∷ 9 ∷ 9 ∷ 85 ∷ [])
unfolding module_meaning reading front opcode_of
counts_to_three = refl

counts_to_one : view_after (thread_x ++ counting ++ dividing) 0 (9 ∷ 9 ∷ 9 ∷ 9 ∷ []) ≡ Some (128 ∷ 9 ∷ 9 ∷ 9 ∷ [])
unfolding module_meaning reading front opcode_of
counts_to_one = refl

-- an access out of range; a division by the count where nothing is counted
out_of_range : view_after (thread_x ++ counting ++ dividing) 4 (9 ∷ 9 ∷ 9 ∷ 9 ∷ []) ≡ None
unfolding module_meaning reading front opcode_of
out_of_range = refl

division_by_zero : view_after (thread_x ++ dividing) 3 (9 ∷ 9 ∷ 9 ∷ 9 ∷ []) ≡ None
unfolding module_meaning reading front opcode_of
division_by_zero = refl

-- a shift of 64 by x
abbrev shifting : List Op
shifting = op.Binary binary.ShiftRight 3 50 23 31 ∷ op.AccessChain 16 52 20 (21 ∷ 21 ∷ []) ∷ op.Store 52 50 ∷ []

shift_by_four : view_after (thread_x ++ shifting) 4 (9 ∷ []) ≡ Some (4 ∷ [])
unfolding module_meaning reading front opcode_of
shift_by_four = refl

shift_by_32 : view_after (thread_x ++ shifting) 32 (9 ∷ []) ≡ None
unfolding module_meaning reading front opcode_of
shift_by_32 = refl

-- the length of the first constant buffer, as the first push constant, stored into the view
abbrev measuring : List Op
measuring = op.AccessChain 14 50 19 (21 ∷ []) ∷ op.Load 3 51 50 ∷ op.AccessChain 16 52 20 (21 ∷ 21 ∷ []) ∷ op.Store 52 51 ∷ []

length_of_constants : view_after measuring 0 (9 ∷ []) ≡ Some (2 ∷ [])
unfolding module_meaning reading front opcode_of
length_of_constants = refl

-- a load of a variable that was given nothing, and of one that was
load_of_nothing : view_after (op.Load 3 50 27 ∷ []) 0 [] ≡ None
unfolding module_meaning reading front opcode_of
load_of_nothing = refl

load_of_something : view_after (op.Store 27 23 ∷ op.Load 3 50 27 ∷ []) 0 [] ≡ Some []
unfolding module_meaning reading front opcode_of
load_of_something = refl

-- a branch to its own block never ends
endless : view_after (op.Branch 40 ∷ op.Label 40 ∷ op.Branch 40 ∷ []) 0 [] ≡ None
unfolding module_meaning reading front opcode_of
endless = refl

-- three threads, one after another, each adds 64 to the same word
abbrev adding : List ℕ
adding =
    module_words bound
    (begun ++ (op.AccessChain 16 52 20 (21 ∷ 21 ∷ []) ∷ op.Atomic atomic.Add 3 53 52 22 21 23 ∷ []) ++ finish)

all_threads_add : option_map (λ s. words_in s.writes 7) (module_dispatched adding (1 ∷ 2 ∷ 1 ∷ []) (slots (1 ∷ []))) ≡ Some (8193 ∷ [])
unfolding group_of module_meaning reading front opcode_of
all_threads_add = refl
