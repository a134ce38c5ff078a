-- What the words of an item say: a declaration, or a statement with its typed operands.
use Rattle.std.specs.Prelude.{ℕ, zero, suc, ◌==◌, Bool, if◌then◌else◌, List, [], ◌∷◌, Option, Some, None, slice_index, option_map, filter_map}
use Rattle.dx_types.specs.declared.shape.Form.{Form}
use Rattle.dx_types.specs.declared.shape.Form.TheVariants.{Raw, Structured, Typed}
use Rattle.shader_model.specs.declared.tree.Declared.{Declared}
use Rattle.shader_model.specs.declared.tree.Target.{Target}
use Rattle.shader_model.specs.declared.tree.Operand.{Operand}
use Rattle.shader_model.specs.declared.tree.SlotUse.{SlotUse}
use Rattle.shader_model.specs.declared.tree.Instr.{Instr}
use Rattle.shader_model.specs.declared.tree.Test.{Test}
use Rattle.shader_model.specs.declared.opcode.Kind.{Kind}
use Rattle.shader_model.specs.declared.opcode.Kind.TheVariants.{Destination, Source, SlotWord}
use Rattle.shader_model.specs.declared.opcode.Row.{Row}
use Rattle.shader_model.specs.declared.opcode.Role.{Role}
use Rattle.shader_model.specs.declared.opcode.Role.TheVariants as role
use Rattle.shader_model.specs.declared.statement.Statement.{Statement}
use Rattle.shader_model.specs.declared.statement.Statement.TheVariants as word
use Rattle.shader_model.specs.Words.{file_in, mask_in, index_in, swizzle_in, flag_in, slot_in, writable_in, extra_in}
use Rattle.shader_model.specs.Opcodes.{row_of}
use Rattle.shader_model.specs.Items.{Item, Part, opcode, parts_of}

-- ## Operands

abbrev pub target_of : ℕ → Target
target_of w = record { file = file_in w; mask = mask_in w; index = index_in w }

-- four words, 0 in the places that are left
abbrev pub four : List ℕ → List ℕ
four ws = slice_index ws 0 ∷ slice_index ws 1 ∷ slice_index ws 2 ∷ slice_index ws 3 ∷ []

abbrev pub operand_of : ℕ → List ℕ → Operand
operand_of w more = record { file = file_in w; swizzle = swizzle_in w; flag = flag_in w; index = index_in w; words = four more }

abbrev pub slot_use_of : ℕ → SlotUse
slot_use_of w = record { slot = slot_in w; writable = writable_in w }

abbrev pub target_in : Kind → Part → Option Target
target_in Destination p = Some (target_of p.word)
target_in Source p = None
target_in SlotWord p = None

abbrev pub operand_in : Kind → Part → Option Operand
operand_in Destination p = None
operand_in Source p = Some (operand_of p.word p.more)
operand_in SlotWord p = None

abbrev pub slot_use_in : Kind → Part → Option SlotUse
slot_use_in Destination p = None
slot_use_in Source p = None
slot_use_in SlotWord p = Some (slot_use_of p.word)

-- the destinations, sources and slot words among operands, in order
abbrev pub targets : List Part → List Target
targets ps = filter_map (λ p. target_in p.kind p) ps

abbrev pub sources : List Part → List Operand
sources ps = filter_map (λ p. operand_in p.kind p) ps

abbrev pub slot_uses : List Part → List SlotUse
slot_uses ps = filter_map (λ p. slot_use_in p.kind p) ps

module _ {A : Type 0} where
  -- the element at a place, if the list reaches there
  abbrev pub nth : List A → ℕ → Option A
  nth [] n = None
  nth (x ∷ xs) zero = Some x
  nth (x ∷ xs) (suc n) = nth xs n

-- ## Statements

abbrev pub instr_of : Item → List Part → Instr
instr_of item ps = record {
  opcode = opcode item;
  extra = extra_in item.first;
  first = nth (targets ps) 0;
  second = nth (targets ps) 1;
  slot = nth (slot_uses ps) 0;
  sources = nth (sources ps) 0 ∷ nth (sources ps) 1 ∷ nth (sources ps) 2 ∷ nth (sources ps) 3 ∷ [];
}

-- the test of the first source
abbrev pub test_of : Bool → List Part → Option Test
test_of nonzero ps = option_map (λ o. record { value = o; nonzero = nonzero }) (nth (sources ps) 0)

abbrev pub branching : Option Test → Option Statement
branching t = option_map (λ x. word.If x) t

-- the test of the first source where there is one
abbrev pub maybe_test : Option Bool → List Part → Option Test
maybe_test None ps = None
maybe_test (Some nonzero) ps = test_of nonzero ps

-- the statement that an instruction is, by its role
abbrev pub statement_by : Role → Item → List Part → Option Statement
statement_by role.Plain item ps = Some (word.Plain (instr_of item ps))
statement_by (role.If nonzero) item ps = branching (test_of nonzero ps)
statement_by role.Else item ps = Some word.Else
statement_by role.Endif item ps = Some word.Endif
statement_by role.Loop item ps = Some word.Loop
statement_by role.Endloop item ps = Some word.Endloop
statement_by (role.Break test) item ps = Some (word.Break (maybe_test test ps))
statement_by (role.Continue test) item ps = Some (word.Continue (maybe_test test ps))
statement_by (role.Return test) item ps = Some (word.Return (maybe_test test ps))

abbrev pub statement_from : Item → Option Row → Option (List Part) → Option Statement
statement_from item None ps = None
statement_from item (Some r) None = None
statement_from item (Some r) (Some ps) = statement_by r.role item ps

-- the statement of an instruction whose words fit, None for all other items
abbrev pub statement_of : Item → Option Statement
statement_of item = statement_from item (row_of (opcode item)) (parts_of item)

abbrev pub statements : List Item → List Statement
statements items = filter_map statement_of items

-- ## Declarations

-- the form of a number: 0 raw, 1 structured, 2 typed
abbrev pub form_of : ℕ → Form
form_of n = if n == 0 then Raw else if n == 1 then Structured else Typed

-- the slot that an item declares
abbrev pub declared_of : Item → Option Declared
declared_of item =
    if opcode item == 3 then Some (record { opcode = 3; slot = slice_index item.more 0; form = Raw; parameter = 0 })
    else if opcode item == 4 then Some (record { opcode = 4; slot = slice_index item.more 0; form = form_of (slice_index item.more 1); parameter = slice_index item.more 2 })
    else if opcode item == 5 then Some (record { opcode = 5; slot = slice_index item.more 0; form = form_of (slice_index item.more 1); parameter = slice_index item.more 2 })
    else None

-- the slots that items declare, in order
abbrev pub declarations : List Item → List Declared
declarations items = filter_map declared_of items

-- the declaration of a slot by an opcode (3 constant buffer, 4 resource, 5 unordered access view) among these
abbrev pub declared_among : (declares slot : ℕ) → List Declared → Option Declared
declared_among n slot [] = None
declared_among n slot (d ∷ ds) = if d.opcode == n then (if d.slot == slot then Some d else declared_among n slot ds) else declared_among n slot ds

-- what a use of a slot is declared as
abbrev pub used_as : SlotUse → List Declared → Option Declared
used_as u ds = declared_among (if u.writable then 5 else 4) u.slot ds

-- how many temporaries items declare, None where they do not say
abbrev pub temps_said : List Item → Option ℕ
temps_said [] = None
temps_said (item ∷ items) = if opcode item == 2 then Some (slice_index item.more 0) else temps_said items
