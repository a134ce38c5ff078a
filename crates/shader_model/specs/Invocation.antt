-- What one invocation of a shader does.
use Rattle.std.specs.Prelude.{ℕ, zero, suc, ◌+◌, ◌*◌, ◌/◌, ◌==◌, Bool, true, not, ◌&&◌, if◌then◌else◌, nat_lt, min, max, bit_and, bit_or, bit_xor, count_ones, List, [], length, replicate, Option, Some, None, slice_index, slice_index_or, slice_set}
use Rattle.std.specs.Int.{reverse_bits, w32}
use Rattle.dx_types.specs.declared.shape.Form.{Form}
use Rattle.dx_types.specs.declared.shape.Form.TheVariants.{Raw, Structured, Typed}
use Rattle.dx_types.specs.declared.limits.TheConstants.{LOOP_TURNS}
use Rattle.shader_model.specs.declared.tree.Declared.{Declared}
use Rattle.shader_model.specs.declared.tree.Target.{Target}
use Rattle.shader_model.specs.declared.tree.Operand.{Operand}
use Rattle.shader_model.specs.declared.tree.SlotUse.{SlotUse}
use Rattle.shader_model.specs.declared.tree.Instr.{Instr}
use Rattle.shader_model.specs.declared.tree.Test.{Test}
use Rattle.shader_model.specs.declared.opcode.Opcode.{Opcode}
use Rattle.shader_model.specs.declared.opcode.Opcode.TheVariants as op
use Rattle.shader_model.specs.declared.ids.Ids.{Ids}
use Rattle.shader_model.specs.Words.{bit, index_in, swizzle_in, picked}
use Rattle.shader_model.specs.declared.opcode.Row.{Row}
use Rattle.shader_model.specs.Opcodes.{row_of}
use Rattle.shader_model.specs.Fields.{used_as}
use Rattle.shader_model.specs.Body.{Body, End, Plain, If, Loop, Break, Continue, Return}
use Rattle.shader_model.specs.Shader.{Program}
use Rattle.shader_model.specs.Arithmetic.{added, negated, inverted, multiplied_and_added, unsigned_high, signed_high, product_low, quotient, remainder, signed_min, signed_max, signed_lt, left, right, signed_right, five, field, inserted, truth}

-- the words of each slot: of constant buffers, resources and unordered access views. A slot that is not
-- bound, or bound to what the shader does not declare, has none.
pub record Slots : Type 0 where
  pub constants : List (List ℕ)
  pub reads : List (List ℕ)
  pub writes : List (List ℕ)

-- an invocation under way: its temporaries' words, four each, the slots' words and the turns left
pub record State : Type 0 where
  pub temps : List ℕ
  pub slots : Slots
  pub turns : ℕ

-- how a block ends: at its end, by a break, by a continue, or with the whole invocation
pub data Flow : Type 0 where
  Falls : (s : State) → Flow
  Breaks : (s : State) → Flow
  Continues : (s : State) → Flow
  Ends : (s : State) → Flow

abbrev pub words_in : List (List ℕ) → ℕ → List ℕ
words_in slots n = slice_index_or slots n []

-- ## Sources

-- a component of a constant buffer's vector, 0 outside
abbrev pub vector_word : List ℕ → (vector component : ℕ) → ℕ
vector_word words v c = if nat_lt v (length words / 4) then slice_index words (4 * v + c) else 0

-- the place of the thread in its group, counted through all
abbrev pub flattened : Ids → ℕ
flattened ids = slice_index ids.thread 0 + slice_index ids.size 0 * (slice_index ids.thread 1 + slice_index ids.size 1 * slice_index ids.thread 2)

-- the place of the thread in the dispatch
abbrev pub global : Ids → ℕ → ℕ
global ids c = slice_index ids.group c * slice_index ids.size c + slice_index ids.thread c

-- the x of a temporary source's word
abbrev pub relative : ℕ → State → ℕ
relative w s = slice_index s.temps (4 * index_in w + picked (swizzle_in w) 0)

-- the number of a constant's vector
abbrev pub vector_of : Operand → State → ℕ
vector_of o s = if o.flag then added (slice_index o.words 0) (relative (slice_index o.words 1) s) else slice_index o.words 0

-- a component of what a source names, before its swizzle. The three identities have 0 as w.
abbrev pub named : Ids → State → Operand → ℕ → ℕ
named ids s o c =
    if o.file == 0 then slice_index s.temps (4 * o.index + c)
    else if o.file == 1 then slice_index o.words c
    else if o.file == 2 then vector_word (words_in s.slots.constants o.index) (vector_of o s) c
    else if o.file == 3 then global ids c
    else if o.file == 4 then slice_index ids.group c
    else if o.file == 5 then slice_index ids.thread c
    else flattened ids

-- a component of a source
abbrev pub value_of : Ids → State → Operand → ℕ → ℕ
value_of ids s o c = named ids s o (picked o.swizzle c)

abbrev pub value_of_some : Ids → State → Option Operand → ℕ → ℕ
value_of_some ids s None c = 0
value_of_some ids s (Some o) c = value_of ids s o c

-- a component of the k-th source of an instruction
abbrev pub source : Ids → State → Instr → ℕ → ℕ → ℕ
source ids s i k c = value_of_some ids s (slice_index_or i.sources k None) c

-- ## Destinations

-- one component of a temporary, where the mask has it
abbrev pub with_component : Target → (ℕ → ℕ) → ℕ → List ℕ → List ℕ
with_component t value c temps = if bit c t.mask then slice_set temps (4 * t.index + c) (value c) else temps

-- the components of a destination that the mask has
abbrev pub with_target : Option Target → (ℕ → ℕ) → List ℕ → List ℕ
with_target None value temps = temps
with_target (Some t) value temps = with_component t value 3 (with_component t value 2 (with_component t value 1 (with_component t value 0 temps)))

abbrev pub with_first : Instr → (ℕ → ℕ) → State → State
with_first i value s = record s { temps = with_target i.first value s.temps }

-- both destinations, the second last
abbrev pub with_both : Instr → (ℕ → ℕ) → (ℕ → ℕ) → State → State
with_both i first second s = record s { temps = with_target i.second second (with_target i.first first s.temps) }

-- a function of one, two, three or four sources in each component
abbrev pub by_one : (ℕ → ℕ) → Ids → Instr → State → State
by_one f ids i s = with_first i (λ c. f (source ids s i 0 c)) s

abbrev pub by_two : (ℕ → ℕ → ℕ) → Ids → Instr → State → State
by_two f ids i s = with_first i (λ c. f (source ids s i 0 c) (source ids s i 1 c)) s

abbrev pub by_three : (ℕ → ℕ → ℕ → ℕ) → Ids → Instr → State → State
by_three f ids i s = with_first i (λ c. f (source ids s i 0 c) (source ids s i 1 c) (source ids s i 2 c)) s

abbrev pub by_four : (ℕ → ℕ → ℕ → ℕ → ℕ) → Ids → Instr → State → State
by_four f ids i s = with_first i (λ c. f (source ids s i 0 c) (source ids s i 1 c) (source ids s i 2 c) (source ids s i 3 c)) s

-- two functions of two sources, for two destinations
abbrev pub by_pair : (ℕ → ℕ → ℕ) → (ℕ → ℕ → ℕ) → Ids → Instr → State → State
by_pair f g ids i s = with_both i (λ c. f (source ids s i 0 c) (source ids s i 1 c)) (λ c. g (source ids s i 0 c) (source ids s i 1 c)) s

-- ## Views

-- The word of a view that an access names, None outside: of a raw view the c-th from address a on, of a
-- structured one the c-th from offset o of element a on, of a typed one the c-th of element a.
abbrev pub place_by : Form → (parameter length a o c : ℕ) → Option ℕ
place_by Raw p n a o c = if nat_lt (a / 4 + c) n then Some (a / 4 + c) else None
place_by Structured p n a o c = if nat_lt a (n / (p / 4)) && nat_lt (o / 4 + c) (p / 4) then Some (a * (p / 4) + (o / 4 + c)) else None
place_by Typed p n a o c = if nat_lt a (n / p) && nat_lt c p then Some (a * p + c) else None

abbrev pub place : Declared → List ℕ → (a o c : ℕ) → Option ℕ
place d words a o c = place_by d.form d.parameter (length words) a o c

abbrev pub word_at : List ℕ → Option ℕ → ℕ
word_at words None = 0
word_at words (Some at) = slice_index words at

abbrev pub with_word : List ℕ → Option ℕ → ℕ → List ℕ
with_word words None v = words
with_word words (Some at) v = slice_set words at v

-- the words of the view that a slot word names
abbrev pub view_words : SlotUse → Slots → List ℕ
view_words u slots = if u.writable then words_in slots.writes u.slot else words_in slots.reads u.slot

-- only an unordered access view takes other words
abbrev pub with_view : SlotUse → List ℕ → State → State
with_view u words s = if u.writable then record s { slots = record (s.slots) { writes = slice_set s.slots.writes u.slot words } } else s

-- a slot that an instruction names, with what it is declared as
pub record View : Type 0 where
  pub name : SlotUse
  pub declared : Declared

abbrev pub view_by : SlotUse → Option Declared → Option View
view_by u None = None
view_by u (Some d) = Some (record { name = u; declared = d })

abbrev pub view_of : List Declared → Option SlotUse → Option View
view_of ds None = None
view_of ds (Some u) = view_by u (used_as u ds)

-- a load: each component has its own check; a typed element that is there has 0, 0, 0, 1 in the components
-- that it lacks
abbrev pub missing : ℕ → ℕ
missing c = if c == 3 then 1 else 0

abbrev pub loaded : Form → Declared → List ℕ → (a o c : ℕ) → ℕ
loaded Raw d words a o c = word_at words (place d words a o c)
loaded Structured d words a o c = word_at words (place d words a o c)
loaded Typed d words a o c = if nat_lt a (length words / d.parameter) then (if nat_lt c d.parameter then word_at words (place d words a o c) else missing c) else 0

abbrev pub load : Option View → (a o : ℕ) → Instr → State → State
load None a o i s = s
load (Some v) a o i s = with_first i (loaded v.declared.form v.declared (view_words v.name s.slots) a o) s

-- a store of the components that the extra has, each with its own check
abbrev pub stored : Declared → (extra a o : ℕ) → (ℕ → ℕ) → ℕ → List ℕ → List ℕ
stored d extra a o value c words = if bit c extra then with_word words (place d words a o c) (value c) else words

abbrev pub store : Option View → (a o : ℕ) → (ℕ → ℕ) → Instr → State → State
store None a o value i s = s
store (Some v) a o value i s =
    let put = stored v.declared i.extra a o value in
    with_view v.name (put 3 (put 2 (put 1 (put 0 (view_words v.name s.slots))))) s

-- an atomic: once for the instruction, whatever its mask; the old word in each component of the mask, 0 outside
abbrev pub change : Option View → (a o : ℕ) → (ℕ → ℕ) → Instr → State → State
change None a o f i s = s
change (Some v) a o f i s =
    let words = view_words v.name s.slots in
    let at = place v.declared words a o 0 in
    with_first i (λ c. word_at words at) (with_view v.name (with_word words at (f (word_at words at))) s)

-- the new word of a compare and exchange
abbrev pub exchanged : (compare v old : ℕ) → ℕ
exchanged compare v old = if old == compare then v else old

-- an atomic of an address, an offset and a value
abbrev pub atomic : (ℕ → ℕ → ℕ) → List Declared → Ids → Instr → State → State
atomic f ds ids i s = change (view_of ds i.slot) (source ids s i 0 0) (source ids s i 1 0) (λ old. f old (source ids s i 2 0)) i s

-- ## Instructions

-- a plain instruction by its name; the others change nothing here
abbrev pub done_by : Opcode → List Declared → Ids → Instr → State → State
done_by op.Mov ds ids i s = by_one (λ a. a) ids i s
done_by op.Movc ds ids i s = by_three (λ a b c. if a == 0 then c else b) ids i s
done_by op.Iadd ds ids i s = by_two added ids i s
done_by op.Ineg ds ids i s = by_one negated ids i s
done_by op.Imad ds ids i s = by_three multiplied_and_added ids i s
done_by op.Imul ds ids i s = by_pair signed_high product_low ids i s
done_by op.Umul ds ids i s = by_pair unsigned_high product_low ids i s
done_by op.Udiv ds ids i s = by_pair quotient remainder ids i s
done_by op.Imin ds ids i s = by_two signed_min ids i s
done_by op.Imax ds ids i s = by_two signed_max ids i s
done_by op.Umin ds ids i s = by_two min ids i s
done_by op.Umax ds ids i s = by_two max ids i s
done_by op.And ds ids i s = by_two bit_and ids i s
done_by op.Or ds ids i s = by_two bit_or ids i s
done_by op.Xor ds ids i s = by_two bit_xor ids i s
done_by op.Not ds ids i s = by_one inverted ids i s
done_by op.Ishl ds ids i s = by_two (λ a b. left a (five b)) ids i s
done_by op.Ishr ds ids i s = by_two (λ a b. signed_right a (five b)) ids i s
done_by op.Ushr ds ids i s = by_two (λ a b. right a (five b)) ids i s
done_by op.Ieq ds ids i s = by_two (λ a b. truth (a == b)) ids i s
done_by op.Ine ds ids i s = by_two (λ a b. truth (not (a == b))) ids i s
done_by op.Ige ds ids i s = by_two (λ a b. truth (not (signed_lt a b))) ids i s
done_by op.Ilt ds ids i s = by_two (λ a b. truth (signed_lt a b)) ids i s
done_by op.Uge ds ids i s = by_two (λ a b. truth (not (nat_lt a b))) ids i s
done_by op.Ult ds ids i s = by_two (λ a b. truth (nat_lt a b)) ids i s
done_by op.Ubfe ds ids i s = by_three (λ w o v. field right (five w) (five o) v) ids i s
done_by op.Ibfe ds ids i s = by_three (λ w o v. field signed_right (five w) (five o) v) ids i s
done_by op.Bfi ds ids i s = by_four (λ w o a b. inserted (five w) (five o) a b) ids i s
done_by op.Bfrev ds ids i s = by_one (reverse_bits w32) ids i s
done_by op.Countbits ds ids i s = by_one count_ones ids i s
done_by op.LdRaw ds ids i s = load (view_of ds i.slot) (source ids s i 0 0) 0 i s
done_by op.StoreRaw ds ids i s = store (view_of ds i.slot) (source ids s i 0 0) 0 (source ids s i 1) i s
done_by op.LdStructured ds ids i s = load (view_of ds i.slot) (source ids s i 0 0) (source ids s i 1 0) i s
done_by op.StoreStructured ds ids i s = store (view_of ds i.slot) (source ids s i 0 0) (source ids s i 1 0) (source ids s i 2) i s
done_by op.LdTyped ds ids i s = load (view_of ds i.slot) (source ids s i 0 0) 0 i s
done_by op.StoreTyped ds ids i s = store (view_of ds i.slot) (source ids s i 0 0) 0 (source ids s i 1) i s
done_by op.AtomicIadd ds ids i s = atomic added ds ids i s
done_by op.AtomicAnd ds ids i s = atomic bit_and ds ids i s
done_by op.AtomicOr ds ids i s = atomic bit_or ds ids i s
done_by op.AtomicXor ds ids i s = atomic bit_xor ds ids i s
done_by op.AtomicImin ds ids i s = atomic signed_min ds ids i s
done_by op.AtomicImax ds ids i s = atomic signed_max ds ids i s
done_by op.AtomicUmin ds ids i s = atomic min ds ids i s
done_by op.AtomicUmax ds ids i s = atomic max ds ids i s
done_by op.AtomicExch ds ids i s = atomic (λ old v. v) ds ids i s
done_by op.AtomicCmpExch ds ids i s = change (view_of ds i.slot) (source ids s i 0 0) (source ids s i 1 0) (exchanged (source ids s i 2 0) (source ids s i 3 0)) i s
done_by op.IfNz ds ids i s = s
done_by op.IfZ ds ids i s = s
done_by op.Else ds ids i s = s
done_by op.Endif ds ids i s = s
done_by op.Loop ds ids i s = s
done_by op.Endloop ds ids i s = s
done_by op.Break ds ids i s = s
done_by op.BreakNz ds ids i s = s
done_by op.BreakZ ds ids i s = s
done_by op.Continue ds ids i s = s
done_by op.ContinueNz ds ids i s = s
done_by op.ContinueZ ds ids i s = s
done_by op.Ret ds ids i s = s
done_by op.RetNz ds ids i s = s
done_by op.RetZ ds ids i s = s

abbrev pub done_with : Option Row → List Declared → Ids → Instr → State → State
done_with None ds ids i s = s
done_with (Some r) ds ids i s = done_by r.name ds ids i s

abbrev pub done : List Declared → Ids → Instr → State → State
done ds ids i s = done_with (row_of i.opcode) ds ids i s

-- ## Blocks

-- a test of the x of its source
abbrev pub holds : Ids → Test → State → Bool
holds ids t s = if t.nonzero then not (value_of ids s t.value 0 == 0) else value_of ids s t.value 0 == 0

-- no test always holds
abbrev pub holds_maybe : Ids → Option Test → State → Bool
holds_maybe ids None s = true
holds_maybe ids (Some t) s = holds ids t s

abbrev pub then_do : Flow → (State → Flow) → Flow
then_do (Falls s) go = go s
then_do (Breaks s) go = Breaks s
then_do (Continues s) go = Continues s
then_do (Ends s) go = Ends s

-- what follows a loop's body
abbrev pub next_turn : Flow → (State → Flow) → Flow
next_turn (Falls s) again = again s
next_turn (Continues s) again = again s
next_turn (Breaks s) again = Falls s
next_turn (Ends s) again = Ends s

-- a loop's body is entered where a turn is left, and else the invocation ends
abbrev pub entered : ℕ → State → (State → Flow) → Flow
entered zero s go = Ends s
entered (suc t) s go = go (record s { turns = t })

-- a loop of at most so many turns
abbrev pub looped : ℕ → (State → Flow) → State → Flow
looped zero inner s = Ends s
looped (suc m) inner s = entered s.turns s (λ s2. next_turn (inner s2) (looped m inner))

-- what a block does from a node on
abbrev pub meaning : List Declared → Ids → Body → State → Flow
meaning ds ids End s = Falls s
meaning ds ids (Plain i rest) s = meaning ds ids rest (done ds ids i s)
meaning ds ids (If t taken other rest) s = then_do (if holds ids t s then meaning ds ids taken s else meaning ds ids other s) (meaning ds ids rest)
meaning ds ids (Loop inner rest) s = then_do (looped s.turns (meaning ds ids inner) s) (meaning ds ids rest)
meaning ds ids (Break t rest) s = if holds_maybe ids t s then Breaks s else meaning ds ids rest s
meaning ds ids (Continue t rest) s = if holds_maybe ids t s then Continues s else meaning ds ids rest s
meaning ds ids (Return t rest) s = if holds_maybe ids t s then Ends s else meaning ds ids rest s

abbrev pub state_of : Flow → State
state_of (Falls s) = s
state_of (Breaks s) = s
state_of (Continues s) = s
state_of (Ends s) = s

-- an invocation begins with temporaries of 0 and 4,096 turns
abbrev pub begun : Program → Slots → State
begun p slots = record { temps = replicate (4 * p.temps) 0; slots = slots; turns = LOOP_TURNS }

-- the slots' words after one invocation
abbrev pub invoked : Program → Ids → Slots → Slots
invoked p ids slots = (state_of (meaning p.declared ids p.body (begun p slots))).slots
