-- The pieces of each instruction.
use Rattle.std.specs.Prelude.{ℕ, ◌+◌, ◌*◌, ◌/◌, ◌==◌, if◌then◌else◌, nat_lt, Bool, true, ◌&&◌, List, [], ◌∷◌, ◌++◌, slice_index, slice_index_or, Option, Some, None}
use Rattle.dx_types.specs.declared.shape.Form.{Form}
use Rattle.dx_types.specs.declared.shape.Form.TheVariants.{Raw, Structured, Typed}
use Rattle.shader_model.specs.declared.tree.Declared.{Declared}
use Rattle.shader_model.specs.declared.tree.Target.{Target}
use Rattle.shader_model.specs.declared.tree.Operand.{Operand}
use Rattle.shader_model.specs.declared.tree.SlotUse.{SlotUse}
use Rattle.shader_model.specs.declared.tree.Instr.{Instr}
use Rattle.shader_model.specs.declared.tree.Test.{Test}
use Rattle.shader_model.specs.Words.{bit, index_in, swizzle_in, picked}
use Rattle.shader_model.specs.Fields.{used_as}
use Rattle.spirv_model.specs.Meaning.Bindings.{first_read, first_write}
use Rattle.spirv_emit.specs.declared.formula.Formula.{Formula}
use Rattle.spirv_emit.specs.declared.formula.Formula.TheVariants as formula
use Rattle.spirv_emit.specs.declared.piece.Vector.TheVariants.{Group, Thread, Global}
use Rattle.spirv_emit.specs.declared.piece.Leaf.{Leaf}
use Rattle.spirv_emit.specs.declared.piece.Leaf.TheVariants.{Number, Variable, Length, Component, Flattened}
use Rattle.spirv_emit.specs.declared.piece.Calculation.{Calculation}
use Rattle.spirv_emit.specs.declared.piece.Action.{Action}
use Rattle.spirv_emit.specs.declared.piece.Action.TheVariants.{Fetch, Write, Change, Swap}
use Rattle.spirv_emit.specs.declared.piece.Piece.{Piece}
use Rattle.spirv_emit.specs.declared.piece.Piece.TheVariants.{Assign, Reach}
use Rattle.spirv_emit.specs.declared.piece.Spot.{Spot}
use Rattle.spirv_emit.specs.Opcodes.{first_formula, second_formula, atomic_of}

-- ## The function's variables

-- the turns left, four words for each source that is fetched from a constant buffer, four for the result of each
-- destination, and four for each temporary
abbrev pub turns : ℕ
turns = 0

abbrev pub fetched : (source component : ℕ) → ℕ
fetched j c = 1 + 4 * j + c

abbrev pub result : (destination component : ℕ) → ℕ
result k c = 17 + 4 * k + c

abbrev pub temporary : (index component : ℕ) → ℕ
temporary r c = 25 + 4 * r + c

abbrev pub variable_count : (temps : ℕ) → ℕ
variable_count n = 25 + 4 * n

-- ## Calculations

abbrev pub nought : Leaf
nought = Number 0

abbrev pub calculation : Formula → (a b c d e : Leaf) → Calculation
calculation f a b c d e = record { leaves = a ∷ b ∷ c ∷ d ∷ e ∷ []; formula = f }

-- the word itself
abbrev pub same : Leaf → Calculation
same a = calculation formula.Same a nought nought nought nought

-- ## Sources

-- a built-in vector has 0 as its fourth component
abbrev pub three : (ℕ → Leaf) → (component : ℕ) → Leaf
three f c = if nat_lt c 3 then f c else nought

-- what a source names at a component, before its swizzle; one from a constant buffer was fetched before
abbrev pub named : (source place : ℕ) → Operand → (component : ℕ) → Leaf
named j i o c =
    if o.file == 0 then Variable (temporary o.index c)
    else if o.file == 1 then Number (slice_index o.words c)
    else if o.file == 2 then Variable (fetched j i)
    else if o.file == 3 then three (Component Global) c
    else if o.file == 4 then three (Component Group) c
    else if o.file == 5 then three (Component Thread) c
    else Flattened

-- a component of the source j
abbrev pub leaf_of : (source : ℕ) → Operand → (component : ℕ) → Leaf
leaf_of j o i = named j i o (picked o.swizzle i)

abbrev pub leaf_of_some : (source : ℕ) → Option Operand → (component : ℕ) → Leaf
leaf_of_some j None i = nought
leaf_of_some j (Some o) i = leaf_of j o i

-- a component of the j-th source of an instruction, 0 where there is none
abbrev pub source : Instr → (source component : ℕ) → Leaf
source i j c = leaf_of_some j (slice_index_or i.sources j None) c

-- the temporary's word that a flagged source adds to the number of its vector
abbrev pub relative : Operand → Leaf
relative o = let w = slice_index o.words 1 in Variable (temporary (index_in w) (picked (swizzle_in w) 0))

-- a component of a constant buffer's vector, 0 outside of the buffer
abbrev pub fetch : (source : ℕ) → Operand → (component : ℕ) → Piece
fetch j o i =
    let base = Number (slice_index o.words 0) in
    let c = Number (picked o.swizzle i) in
    if o.flag
    then Reach (calculation formula.RelativeInside base (relative o) (Length o.index) nought nought) o.index (calculation formula.RelativePlace base (relative o) c nought nought) (Fetch (fetched j i))
    else Reach (calculation formula.VectorInside base (Length o.index) nought nought nought) o.index (calculation formula.VectorPlace base c nought nought nought) (Fetch (fetched j i))

abbrev pub fetches : (source : ℕ) → Option Operand → List Piece
fetches j None = []
fetches j (Some o) = if o.file == 2 then fetch j o 0 ∷ fetch j o 1 ∷ fetch j o 2 ∷ fetch j o 3 ∷ [] else []

-- all sources of an instruction that are in constant buffers
abbrev pub all_fetches : Instr → List Piece
all_fetches i =
    fetches 0 (slice_index_or i.sources 0 None)
    ++ (fetches 1 (slice_index_or i.sources 1 None) ++ (fetches 2 (slice_index_or i.sources 2 None) ++ fetches 3 (slice_index_or i.sources 3 None)))

-- ## Destinations

abbrev pub only_if : Bool → Piece → List Piece
only_if b p = if b then p ∷ [] else []

-- the pieces of the components that a mask has
abbrev pub masked : (mask : ℕ) → (x y z w : Piece) → List Piece
masked m x y z w = only_if (bit 0 m) x ++ (only_if (bit 1 m) y ++ (only_if (bit 2 m) z ++ only_if (bit 3 m) w))

abbrev pub each_masked : (mask : ℕ) → (ℕ → Piece) → List Piece
each_masked m f = masked m (f 0) (f 1) (f 2) (f 3)

abbrev pub assigned : (variable : ℕ → ℕ) → (ℕ → Calculation) → (component : ℕ) → Piece
assigned variable f c = Assign (variable c) (f c)

-- the values of a destination, before anything is written
abbrev pub computed : Option Target → (destination : ℕ) → (ℕ → Calculation) → List Piece
computed None k f = []
computed (Some t) k f = each_masked t.mask (assigned (result k) f)

-- what was computed, into the destination
abbrev pub taken : Option Target → (ℕ → Leaf) → List Piece
taken None f = []
taken (Some t) f = each_masked t.mask (assigned (temporary t.index) (λ c. same (f c)))

-- ## Instructions that compute

abbrev pub computes : Formula → Instr → (component : ℕ) → Calculation
computes f i c = calculation f (source i 0 c) (source i 1 c) (source i 2 c) (source i 3 c) nought

-- All components are computed before one is written; of two destinations the second is written last.
abbrev pub plain_pieces : Instr → List Piece
plain_pieces i =
    computed i.first 0 (computes (first_formula i.opcode) i)
    ++ (computed i.second 1 (computes (second_formula i.opcode) i)
    ++ (taken i.first (λ c. Variable (result 0 c)) ++ taken i.second (λ c. Variable (result 1 c))))

-- ## Words of views

-- constant buffers have the bindings from 0 on
abbrev pub binding_of : SlotUse → ℕ
binding_of u = if u.writable then first_write + u.slot else first_read + u.slot

-- an access may reach this component at all
abbrev pub may_reach : (form : Form) (parameter component : ℕ) → Bool
may_reach Raw p c = true
may_reach Structured p c = nat_lt 0 (p / 4)
may_reach Typed p c = nat_lt c p

-- whether the word of a component is there, and its place
abbrev pub inside_by : Form → Spot → (component : ℕ) → Calculation
inside_by Raw s c = calculation formula.RawInside s.address (Number c) (Length s.binding) nought nought
inside_by Structured s c = calculation formula.StructuredInside s.address s.offset (Number c) (Number (s.parameter / 4)) (Length s.binding)
inside_by Typed s c = calculation formula.TypedInside s.address (Number s.parameter) (Length s.binding) nought nought

abbrev pub place_by : Form → Spot → (component : ℕ) → Calculation
place_by Raw s c = calculation formula.RawPlace s.address (Number c) nought nought nought
place_by Structured s c = calculation formula.StructuredPlace s.address s.offset (Number c) (Number (s.parameter / 4)) nought
place_by Typed s c = calculation formula.TypedPlace s.address (Number s.parameter) (Number c) nought nought

abbrev pub reach : Spot → (component : ℕ) → Action → Piece
reach s c a = Reach (inside_by s.form s c) s.binding (place_by s.form s c) a

-- what a load gives for a component that no access reaches: 1 in the fourth of a typed element that is there, else 0
abbrev pub missing : Form → Spot → (component : ℕ) → Calculation
missing Typed s c =
    if nat_lt 0 s.parameter && (c == 3)
    then calculation formula.TypedOne s.address (Number s.parameter) (Length s.binding) nought nought
    else same nought
missing form s c = same nought

abbrev pub load_piece : Spot → (component : ℕ) → Piece
load_piece s c = if may_reach s.form s.parameter c then reach s c (Fetch (result 0 c)) else Assign (result 0 c) (missing s.form s c)

abbrev pub loads : Spot → Option Target → List Piece
loads s None = []
loads s (Some t) = each_masked t.mask (load_piece s) ++ taken (Some t) (λ c. Variable (result 0 c))

abbrev pub store_piece : Spot → (value : Leaf) → (extra component : ℕ) → List Piece
store_piece s v m c = only_if (bit c m && may_reach s.form s.parameter c) (reach s c (Write v))

-- the components that the extra has
abbrev pub stores : Spot → (extra : ℕ) → (ℕ → Leaf) → List Piece
stores s m value = store_piece s (value 0) m 0 ++ (store_piece s (value 1) m 1 ++ (store_piece s (value 2) m 2 ++ store_piece s (value 3) m 3))

abbrev pub atomic_piece : Spot → Action → Piece
atomic_piece s a = if may_reach s.form s.parameter 0 then reach s 0 a else Assign (result 0 0) (same nought)

-- An atomic happens once, whatever the mask; the old word goes to each component of it.
abbrev pub atomics : Spot → Option Target → Action → List Piece
atomics s t a = atomic_piece s a ∷ taken t (λ c. Variable (result 0 0))

abbrev pub spot : SlotUse → Declared → (address offset : Leaf) → Spot
spot u d a o = record { binding = binding_of u; form = d.form; parameter = d.parameter; address = a; offset = o }

-- loads and stores have an even and an odd opcode from 48 to 53: raw, structured, typed; the structured ones have an
-- offset. Atomics have the opcodes from 56 to 65.
abbrev pub memory_pieces : SlotUse → Declared → Instr → List Piece
memory_pieces u d i =
    if i.opcode == 48 then loads (spot u d (source i 0 0) nought) i.first
    else if i.opcode == 49 then stores (spot u d (source i 0 0) nought) i.extra (source i 1)
    else if i.opcode == 50 then loads (spot u d (source i 0 0) (source i 1 0)) i.first
    else if i.opcode == 51 then stores (spot u d (source i 0 0) (source i 1 0)) i.extra (source i 2)
    else if i.opcode == 52 then loads (spot u d (source i 0 0) nought) i.first
    else if i.opcode == 53 then stores (spot u d (source i 0 0) nought) i.extra (source i 1)
    else if i.opcode == 65 then atomics (spot u d (source i 0 0) (source i 1 0)) i.first (Swap (source i 3 0) (source i 2 0) (result 0 0))
    else atomics (spot u d (source i 0 0) (source i 1 0)) i.first (Change (atomic_of i.opcode) (source i 2 0) (result 0 0))

abbrev pub slot_pieces : Instr → SlotUse → Option Declared → List Piece
slot_pieces i u None = []
slot_pieces i u (Some d) = memory_pieces u d i

abbrev pub done_pieces : List Declared → Instr → Option SlotUse → List Piece
done_pieces ds i None = plain_pieces i
done_pieces ds i (Some u) = slot_pieces i u (used_as u ds)

-- the pieces of an instruction: first what it takes from constant buffers
abbrev pub instr_pieces : List Declared → Instr → List Piece
instr_pieces ds i = all_fetches i ++ done_pieces ds i i.slot

-- ## Tests

abbrev pub test_pieces : Test → List Piece
test_pieces t = fetches 0 (Some t.value)

abbrev pub test_calculation : Test → Calculation
test_calculation t = calculation (if t.nonzero then formula.IsNonzero else formula.IsZero) (leaf_of 0 t.value 0) nought nought nought nought
