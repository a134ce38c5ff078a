-- The first bad word of a shader, and the rule that it breaks.
use Rattle.std.specs.Prelude.{ℕ, ◌+◌, ◌*◌, ◌/◌, ◌%◌, ◌==◌, Bool, true, false, not, ◌&&◌, ◌||◌, if◌then◌else◌, nat_lt, nat_le, List, [], ◌∷◌, ◌++◌, length, reverse, Option, Some, None, is_some, is_none, slice_index, unwrap_or, flat_map}
use Rattle.dx_types.specs.declared.shape.Form.{Form}
use Rattle.dx_types.specs.declared.shape.Form.TheVariants.{Raw, Structured, Typed}
use Rattle.dx_types.specs.declared.limits.TheConstants.{CONSTANT_SLOTS, MAX_SHADER_WORDS, MAX_STRIDE, MAX_TEMPORARIES, MAX_THREADS, MAX_THREADS_Z, MIN_STRIDE, SRV_SLOTS, UAV_SLOTS}
use Rattle.shader_model.specs.declared.fault.ShaderFault.{ShaderFault}
use Rattle.shader_model.specs.declared.fault.ShaderKind.{ShaderKind}
use Rattle.shader_model.specs.declared.fault.ShaderKind.TheVariants as kind
use Rattle.shader_model.specs.declared.tree.Declared.{Declared}
use Rattle.shader_model.specs.declared.statement.Statement.{Statement}
use Rattle.shader_model.specs.declared.opcode.Kind.{Kind}
use Rattle.shader_model.specs.declared.opcode.Kind.TheVariants.{Destination, Source, SlotWord}
use Rattle.shader_model.specs.declared.opcode.Row.{Row}
use Rattle.shader_model.specs.declared.opcode.Access.{Access}
use Rattle.shader_model.specs.declared.opcode.Access.TheVariants.{Loads, Stores, Changes, ReachesNone}
use Rattle.shader_model.specs.Words.{bits, file_in, mask_in, index_in, flag_in, writable_in, extra_in}
use Rattle.base_lemmas.specs.ByteWords.{words_of}
use Rattle.shader_model.specs.Opcodes.{row_of}
use Rattle.shader_model.specs.Items.{Item, Part, opcode, items_of, parts_of, is_declaration, is_known, has_its_length}
use Rattle.shader_model.specs.Fields.{form_of, statement_of, statements, declarations, declared_among, used_as, slot_use_of, temps_said}
use Rattle.shader_model.specs.Nesting.{Block, opened, has_place}

-- ## Rules

-- a rule at one word: whether it is broken there, and its kind
pub record Rule : Type 0 where
  pub broken : Bool
  pub word : ℕ
  pub kind : ShaderKind

abbrev pub rule : Bool → ℕ → ShaderKind → Rule
rule b w k = record { broken = b; word = w; kind = k }

-- the fault of the first rule that is broken
abbrev pub first_broken : List Rule → Option ShaderFault
first_broken [] = None
first_broken (r ∷ rs) = if r.broken then Some (record { word = r.word; kind = r.kind }) else first_broken rs

module _ {A : Type 0} where
  abbrev pub is_empty : List A → Bool
  is_empty [] = true
  is_empty (x ∷ xs) = false

  abbrev pub or_else : Option A → Option A → Option A
  or_else None later = later
  or_else (Some x) later = Some x

-- ## What earlier items say

-- an instruction stands among these items
abbrev pub has_begun : List Item → Bool
has_begun [] = false
has_begun (item ∷ items) = not (is_declaration item) || has_begun items

-- what the items before an item say that its rules ask for: the slots that they declare, in order; the number
-- of temporaries, if one is said; whether there is an item, and whether there is an instruction; and the blocks
-- that are open after them, innermost first
pub record Said : Type 0 where
  pub declared : List Declared
  pub temps : Option ℕ
  pub any : Bool
  pub begun : Bool
  pub blocks : List Block

-- what these items say, the latest first
abbrev pub said_by : List Item → Said
said_by earlier = record {
  declared = reverse (declarations earlier);
  temps = temps_said earlier;
  any = not (is_empty earlier);
  begun = has_begun earlier;
  blocks = opened (statements earlier);
}

-- the number of temporaries, 0 where none is said
abbrev pub temps_of : Said → ℕ
temps_of said = unwrap_or said.temps 0

-- ## Declarations

-- how many slots an opcode declares from: constant buffers, resources, unordered access views
abbrev pub slots_of : ℕ → ℕ
slots_of n = if n == 3 then CONSTANT_SLOTS else if n == 4 then SRV_SLOTS else UAV_SLOTS

-- a size from 1 to its limit
abbrev pub is_size : ℕ → ℕ → Bool
is_size limit n = nat_lt 0 n && nat_le n limit

-- x and y are at most 1,024, z at most 64, and a group has at most 1,024 threads
abbrev pub is_group : List ℕ → Bool
is_group sizes =
    is_size MAX_THREADS (slice_index sizes 0) && is_size MAX_THREADS (slice_index sizes 1) && is_size MAX_THREADS_Z (slice_index sizes 2)
    && nat_le (slice_index sizes 0 * slice_index sizes 1 * slice_index sizes 2) MAX_THREADS

-- the parameter that a form takes: none, a stride, a number of components
abbrev pub takes_parameter : Form → (parameter : ℕ) → Bool
takes_parameter Raw p = p == 0
takes_parameter Structured p = (p % 4 == 0) && nat_le MIN_STRIDE p && nat_le p MAX_STRIDE
takes_parameter Typed p = (p == 1) || (p == 2) || (p == 4)

-- the rules of a declaration's words after its first
abbrev pub declaration_rules : Said → Item → List Rule
declaration_rules said item =
    let n = opcode item in
    let slot = slice_index item.more 0 in
    let form = slice_index item.more 1 in
    let slot_rule = rule (nat_le (slots_of n) slot || is_some (declared_among n slot said.declared)) (item.at + 1) kind.Slot in
    if n == 1 then rule (not (is_group item.more)) (item.at + 1) kind.Group ∷ []
    else if n == 2 then rule (nat_lt MAX_TEMPORARIES slot) (item.at + 1) kind.Register ∷ []
    else if n == 3 then slot_rule ∷ []
    else slot_rule
    ∷ rule (nat_lt 2 form) (item.at + 2) kind.Slot
    ∷ rule (not (takes_parameter (form_of form) (slice_index item.more 2))) (item.at + 3) kind.Slot
    ∷ []

-- ## Operands

-- a temporary that is not among so many
abbrev pub lacks_register : ℕ → ℕ → Bool
lacks_register temps w = (file_in w == 0) && nat_le temps (index_in w)

-- a temporary with some component, or null with neither mask nor index; bits 8 to 15 are 0
abbrev pub is_destination : ℕ → Bool
is_destination w =
    (bits 8 8 w == 0)
    && ((file_in w == 0) && not (mask_in w == 0) || (file_in w == 7) && (mask_in w == 0) && (index_in w == 0))

-- a file of a source; the flag on a constant alone, an index on a temporary or a constant; bits 13 to 15 are 0
abbrev pub is_source : ℕ → Bool
is_source w =
    (bits 13 3 w == 0) && nat_le (file_in w) 6
    && (not (flag_in w) || (file_in w == 2))
    && ((index_in w == 0) || (file_in w == 0) || (file_in w == 2))

-- the index of a constant's vector: a temporary without flag; bits 12 to 15 are 0
abbrev pub is_relative : ℕ → Bool
is_relative w = (file_in w == 0) && (bits 12 4 w == 0)

abbrev pub same_form : Form → Form → Bool
same_form Raw Raw = true
same_form Raw Structured = false
same_form Raw Typed = false
same_form Structured Raw = false
same_form Structured Structured = true
same_form Structured Typed = false
same_form Typed Raw = false
same_form Typed Structured = false
same_form Typed Typed = true

-- an access takes a slot of this form: a load its own; a store its own, of an unordered access view;
-- an atomic any unordered access view whose element is one word where it is typed
abbrev pub takes_slot : Access → Bool → Option Declared → Bool
takes_slot a writable None = false
takes_slot (Loads f) writable (Some d) = same_form f d.form
takes_slot (Stores f) writable (Some d) = writable && same_form f d.form
takes_slot Changes writable (Some d) = writable && (not (same_form d.form Typed) || (d.parameter == 1))
takes_slot ReachesNone writable (Some d) = false

-- the rules of an operand's words, in their order
abbrev pub operand_rules : Kind → Said → Access → Part → List Rule
operand_rules Destination said a p =
    rule (lacks_register (temps_of said) p.word) p.at kind.Register
    ∷ rule (not (is_destination p.word)) p.at kind.Operand
    ∷ []
operand_rules Source said a p =
    let relative = slice_index p.more 1 in
    let is_relative_here = (file_in p.word == 2) && flag_in p.word in
    rule ((file_in p.word == 2) && is_none (declared_among 3 (index_in p.word) said.declared)) p.at kind.Slot
    ∷ rule (lacks_register (temps_of said) p.word) p.at kind.Register
    ∷ rule (not (is_source p.word)) p.at kind.Operand
    ∷ rule (is_relative_here && lacks_register (temps_of said) relative) (p.at + 2) kind.Register
    ∷ rule (is_relative_here && not (is_relative relative)) (p.at + 2) kind.Operand
    ∷ []
operand_rules SlotWord said a p =
    rule (not (takes_slot a (writable_in p.word) (used_as (slot_use_of p.word) said.declared))) p.at kind.Slot
    ∷ rule (not (bits 9 23 p.word == 0)) p.at kind.Operand
    ∷ []

abbrev pub parts_rules : Said → Option Row → Option (List Part) → List Rule
parts_rules said None ps = []
parts_rules said (Some r) None = []
parts_rules said (Some r) (Some ps) = flat_map (λ p. operand_rules p.kind said r.access p) ps

-- ## Items

-- the extra that an item may have: a mask of the first components for a store, else none
abbrev pub takes_extra : ℕ → ℕ → Bool
takes_extra n e =
    if n == 49 then (e == 1) || (e == 3) || (e == 7) || (e == 15)
    else if n == 51 then (e == 1) || (e == 3) || (e == 7) || (e == 15)
    else if n == 53 then e == 15
    else e == 0

abbrev pub placed : Option Statement → List Block → Bool
placed None bs = true
placed (Some s) bs = has_place s bs

-- the rules of an item's first word but its place, after what the earlier items say
abbrev pub first_word_rules : Said → Item → List Rule
first_word_rules said item =
    rule (not (has_its_length item)) item.at kind.Length
    ∷ rule (not said.any && not (opcode item == 1)) item.at kind.Group
    ∷ rule (not (is_known item)) item.at kind.Opcode
    ∷ rule (is_declaration item && said.begun) item.at kind.Opcode
    ∷ rule ((opcode item == 1) && said.any) item.at kind.Opcode
    ∷ rule ((opcode item == 2) && is_some said.temps) item.at kind.Register
    ∷ rule (not (takes_extra (opcode item) (extra_in item.first))) item.at kind.Operand
    ∷ []

-- the rules of an instruction's place, at its first word, and of its operands
abbrev pub instruction_rules : Said → Item → List Rule
instruction_rules said item =
    rule (not (placed (statement_of item) said.blocks)) item.at kind.Nesting
    ∷ parts_rules said (row_of (opcode item)) (parts_of item)

-- all rules of an item, by rising word
abbrev pub item_rules : Said → Item → List Rule
item_rules said item = first_word_rules said item ++ (if is_declaration item then declaration_rules said item else instruction_rules said item)

-- the first fault of an item, after what the earlier items say
abbrev pub item_fault : Said → Item → Option ShaderFault
item_fault said item = first_broken (item_rules said item)

-- ## Shaders

abbrev pub fault_at : ℕ → ShaderKind → ShaderFault
fault_at w k = record { word = w; kind = k }

-- an if or a loop is left open after all items
abbrev pub left_open : List Item → Option ShaderFault
left_open items = if is_empty (opened (statements items)) then None else Some (fault_at 1 kind.Nesting)

-- the first fault of the later items, where the earlier ones, the latest first, have none
abbrev pub items_fault : (earlier later : List Item) → Option ShaderFault
items_fault earlier [] = left_open earlier
items_fault earlier (item ∷ later) = or_else (item_fault (said_by earlier) item) (items_fault (item ∷ earlier) later)

-- the rules of the first two words, and that there is an item
abbrev pub header_rules : List ℕ → List Rule
header_rules words =
    rule (not (slice_index words 0 == 1)) 0 kind.Length
    ∷ rule (not (slice_index words 1 == length words)) 1 kind.Length
    ∷ rule (length words == 2) 2 kind.Group
    ∷ []

-- the first bad word of at least two words, None where they are a shader
abbrev pub first_bad : List ℕ → Option ShaderFault
first_bad words = or_else (first_broken (header_rules words)) (items_fault [] (items_of words))

-- the rules of the number of bytes
abbrev pub bytes_rules : List ℕ → List Rule
bytes_rules bytes =
    rule (nat_lt MAX_SHADER_WORDS (length bytes / 4)) 0 kind.TooLong
    ∷ rule (not (length bytes % 4 == 0) || nat_lt (length bytes) 8) 0 kind.Length
    ∷ []

-- the first bad word of a shader's bytes
abbrev pub first_bad_of_bytes : List ℕ → Option ShaderFault
first_bad_of_bytes bytes = or_else (first_broken (bytes_rules bytes)) (first_bad (words_of bytes))
