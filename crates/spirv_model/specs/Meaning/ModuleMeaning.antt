-- What one invocation of a module does, by a small machine over the module's words. It has no outcome where an
-- operation is undefined: a division by 0, a shift by 32 or more, an access chain out of range, a load of nothing, a store
-- to what can't be written; where the words are no instructions of the profile; and once more than 8,192 instructions
-- per word of the module were run.
use Rattle.std.specs.Prelude.{ℕ, zero, suc, ◌*◌, ◌==◌, if◌then◌else◌, List, [], ◌∷◌, length, Option, Some, None}
use Rattle.shader_model.specs.declared.ids.Ids.{Ids}
use Rattle.shader_model.specs.Invocation.{Slots}
use Rattle.spirv_model.specs.Op.{Op}
use Rattle.spirv_model.specs.Op as op
use Rattle.spirv_model.specs.declared.limits.TheConstants.{STEPS_A_WORD}
use Rattle.spirv_model.specs.declared.storage_classes.TheConstants as class
use Rattle.spirv_model.specs.Operands.{Verdict}
use Rattle.spirv_model.specs.FirstBad.{Reading, reading}
use Rattle.spirv_model.specs.Meaning.Values.{Value, Nothing, Word, Truth, At, ToVariable, of_one, of_two, selected, component, new_word, new_if_equal}
use Rattle.spirv_model.specs.Meaning.Memory.{Memory, empty, with_result, with_variable, values_of, outer_variable, chained, loaded, stored, changed}

-- what is left to run goes from a memory to the slots at the end; the machine stands before a list of instructions
abbrev pub Run : Type 0
Run = List Op → Memory → Option Slots

-- ## Steps

-- an instruction that gives this value
abbrev pub results_in : Option Value → (r : ℕ) → List Op → Run → Memory → Option Slots
results_in None r rest go m = None
results_in (Some v) r rest go m = go rest (with_result r v m)

-- an instruction that leaves this memory
abbrev pub leaves : Option Memory → List Op → Run → Option Slots
leaves None rest go = None
leaves (Some m) rest go = go rest m

-- a variable of the function: its result points to it, and it has its first value
abbrev pub variable : (r : ℕ) → Option Value → List Op → Run → Memory → Option Slots
variable r None rest go m = None
variable r (Some v) rest go m = go rest (with_result r (At (ToVariable r)) (with_variable r v m))

abbrev pub first_value : Memory → List ℕ → Option Value
first_value m [] = Some Nothing
first_value m (x ∷ xs) = m.results x

-- a variable, of the function or outside of it
abbrev pub declares : (all : List Op) → (r c : ℕ) → List ℕ → List Op → Run → Memory → Option Slots
declares all r c vs rest go m =
    if c == class.FUNCTION then variable r (first_value m vs) rest go m
    else results_in (outer_variable c r all) r rest go m

-- what stands behind a label
abbrev pub after_label : ℕ → List Op → Option (List Op)
after_label l [] = None
after_label l (op.Label x ∷ rest) = if x == l then Some rest else after_label l rest
after_label l (o ∷ rest) = after_label l rest

abbrev pub goes_to : Option (List Op) → Run → Memory → Option Slots
goes_to None go m = None
goes_to (Some rest) go m = go rest m

-- on at a label of the module
abbrev pub jumps : (all : List Op) → ℕ → Run → Memory → Option Slots
jumps all l go m = goes_to (after_label l all) go m

abbrev pub chooses : (all : List Op) → (condition : Option Value) → (taken other : ℕ) → Run → Memory → Option Slots
chooses all (Some (Truth b)) taken other go m = if b then jumps all taken go m else jumps all other go m
chooses all _ taken other go m = None

-- into the function's first block
abbrev pub enters : List Op → Run → Memory → Option Slots
enters (op.Label l ∷ rest) go m = go rest m
enters _ go m = None

-- One instruction, with those behind it. Types and all that stands before them do nothing. A step onto a label has no
-- outcome, since a block ends by a branch or a return.
abbrev pub step : Ids → (all : List Op) → Op → (rest : List Op) → Run → Memory → Option Slots
step ids all (op.Constant t r v) rest go m = results_in (Some (Word v)) r rest go m
step ids all (op.Variable t r c vs) rest go m = declares all r c vs rest go m
step ids all (op.Function t r c f) rest go m = enters rest go m
step ids all op.FunctionEnd rest go m = None
step ids all (op.Load t r p) rest go m = results_in (loaded ids m (m.results p)) r rest go m
step ids all (op.Store p v) rest go m = leaves (stored (m.results p) (m.results v) m) rest go
step ids all (op.AccessChain t r b is) rest go m = results_in (chained m.slots (m.results b) (values_of m.results is)) r rest go m
step ids all (op.CompositeExtract t r v i) rest go m = results_in (component i (m.results v)) r rest go m
step ids all (op.Unary o t r a) rest go m = results_in (of_one o (m.results a)) r rest go m
step ids all (op.Binary o t r a b) rest go m = results_in (of_two o (m.results a) (m.results b)) r rest go m
step ids all (op.Select t r c a b) rest go m = results_in (selected (m.results c) (m.results a) (m.results b)) r rest go m
step ids all (op.Atomic o t r p s w v) rest go m = leaves (changed r (m.results p) (new_word o (m.results v)) m) rest go
step ids all (op.AtomicCompareExchange t r p s e u v c) rest go m = leaves (changed r (m.results p) (new_if_equal (m.results v) (m.results c)) m) rest go
step ids all (op.Label l) rest go m = None
step ids all (op.Branch l) rest go m = jumps all l go m
step ids all (op.BranchConditional c a b) rest go m = chooses all (m.results c) a b go m
step ids all op.Return rest go m = Some m.slots
step ids all o rest go m = go rest m

-- ## Runs

abbrev pub steps : Ids → (all : List Op) → List Op → Run → Memory → Option Slots
steps ids all [] go m = None
steps ids all (o ∷ rest) go m = step ids all o rest go m

-- at most so many instructions
abbrev pub runs : Ids → (all : List Op) → ℕ → Run
runs ids all zero rest m = None
runs ids all (suc n) rest m = steps ids all rest (runs ids all n) m

abbrev pub begun : Slots → Memory
begun slots = record { results = empty; variables = empty; slots = slots }

-- the instructions of a module's words, only where the words have nothing else
abbrev pub run_whole : Ids → (limit : ℕ) → Verdict → List Op → Slots → Option Slots
run_whole ids limit None all slots = runs ids all limit all (begun slots)
run_whole ids limit (Some k) all slots = None

-- the words behind the header
abbrev pub behind_header : List ℕ → List ℕ
behind_header (m ∷ v ∷ g ∷ b ∷ s ∷ ws) = ws
behind_header _ = []

abbrev pub reading_of : List ℕ → Reading
reading_of words = reading (length (behind_header words)) (behind_header words)

-- how many instructions may be run
abbrev pub limit_of : List ℕ → ℕ
limit_of words = STEPS_A_WORD * length words

-- the slots' words after one invocation of the module
unfoldable pub module_meaning : (words : List ℕ) → Ids → Slots → Option Slots
module_meaning words ids slots = let r = reading_of words in run_whole ids (limit_of words) r.stop r.ops slots
