-- The words cut into items, and an item into its operands.
use Rattle.std.specs.Prelude.{ℕ, zero, suc, ◌+◌, ◌-◌, ◌==◌, Bool, not, ◌&&◌, ◌||◌, if◌then◌else◌, nat_lt, nat_le, List, [], ◌∷◌, length, take, drop, Option, Some, None, option_map, is_some}
use Rattle.shader_model.specs.Words.{count_in, opcode_in, file_in, flag_in}
use Rattle.shader_model.specs.declared.opcode.Kind.{Kind}
use Rattle.shader_model.specs.declared.opcode.Kind.TheVariants.{Destination, Source, SlotWord}
use Rattle.shader_model.specs.declared.opcode.Row.{Row}
use Rattle.shader_model.specs.Opcodes.{kinds, row_of}

-- a declaration or an instruction: the place of its first word, that word, and the words after it
pub record Item : Type 0 where
  pub at : ℕ
  pub first : ℕ
  pub more : List ℕ

abbrev pub opcode : Item → ℕ
opcode item = opcode_in item.first

-- the items of words whose first stands at a place, where so many words still belong to an earlier item;
-- an item that says that it has no words is taken as one of one word, and one that passes the end has fewer
abbrev pub items_from : (at skip : ℕ) → List ℕ → List Item
items_from at skip [] = []
items_from at zero (w ∷ ws) = record { at = at; first = w; more = take (count_in w - 1) ws } ∷ items_from (at + 1) (count_in w - 1) ws
items_from at (suc k) (w ∷ ws) = items_from (at + 1) k ws

-- all items of a shader's words
abbrev pub items_of : List ℕ → List Item
items_of words = items_from 2 0 (drop 2 words)

-- ## Operands

-- an operand: its place, its first word and the words that follow
pub record Part : Type 0 where
  pub kind : Kind
  pub at : ℕ
  pub word : ℕ
  pub more : List ℕ

-- how many words follow a source's first one: an immediate's four, a constant's vector and its relative index
abbrev pub source_more : ℕ → ℕ
source_more w = if file_in w == 1 then 4 else if file_in w == 2 then (if flag_in w then 2 else 1) else 0

abbrev pub more_of : Kind → ℕ → ℕ
more_of Destination w = 0
more_of Source w = source_more w
more_of SlotWord w = 0

-- these words as operands of these kinds, None where they are too few or too many
abbrev pub parts_from : ℕ → List Kind → List ℕ → Option (List Part)
parts_from at [] [] = Some []
parts_from at [] (w ∷ ws) = None
parts_from at (k ∷ ks) [] = None
parts_from at (k ∷ ks) (w ∷ ws) =
    if nat_le (more_of k w) (length ws)
    then option_map (λ ps. record { kind = k; at = at; word = w; more = take (more_of k w) ws } ∷ ps) (parts_from (at + 1 + more_of k w) ks (drop (more_of k w) ws))
    else None

abbrev pub parts_by : Item → Option Row → Option (List Part)
parts_by item None = None
parts_by item (Some r) = parts_from (item.at + 1) (kinds r.layout) item.more

-- an instruction's operands, None where its words do not fit them
abbrev pub parts_of : Item → Option (List Part)
parts_of item = parts_by item (row_of (opcode item))

-- ## Lengths

-- how many words a declaration has after its first, None where the opcode is none of a declaration
abbrev pub declares : ℕ → Option ℕ
declares n = if n == 1 then Some 3 else if n == 2 then Some 1 else if n == 3 then Some 1 else if n == 4 then Some 3 else if n == 5 then Some 3 else None

abbrev pub is_declaration : Item → Bool
is_declaration item = is_some (declares (opcode item))

abbrev pub is_known : Item → Bool
is_known item = is_declaration item || is_some (row_of (opcode item))

-- the item has all the words that it says it has, and at least one
abbrev pub is_all_there : Item → Bool
is_all_there item = nat_lt 0 (count_in item.first) && (length item.more == count_in item.first - 1)

abbrev pub declares_fit : Item → Option ℕ → Bool
declares_fit item None = not (is_some (row_of (opcode item))) || is_some (parts_of item)
declares_fit item (Some n) = length item.more == n

-- the item is there, and its words are what its operands take; an unknown opcode takes any
abbrev pub has_its_length : Item → Bool
has_its_length item = is_all_there item && declares_fit item (declares (opcode item))
