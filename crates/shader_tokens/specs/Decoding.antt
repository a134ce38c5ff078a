-- What the decoder's values stand for.
use Rattle.std.specs.Prelude.{◌≡◌, ℕ, ◌+◌, ◌%◌, ◌==◌, Bool, true, false, not, ◌||◌, if◌then◌else◌, nat_lt, nat_le, List, [], ◌∷◌, ◌++◌, length, take, drop, flat_map, Option, Some, None, is_none, slice_index, slice_set, unwrap_or, Result, Ok, Err}
use Rattle.shader_model.specs.declared.fault.ShaderFault.{ShaderFault}
use Rattle.shader_model.specs.declared.fault.ShaderKind.TheVariants as kind
use Rattle.shader_model.specs.declared.opcode.Kind.{Kind}
use Rattle.shader_model.specs.declared.opcode.Kind.TheVariants.{Destination, Source, SlotWord}
use Rattle.shader_model.specs.declared.opcode.Access.{Access}
use Rattle.shader_model.specs.declared.tree.Declared.{Declared}
use Rattle.shader_model.specs.declared.tree.Target.{Target}
use Rattle.shader_model.specs.declared.tree.Operand.{Operand}
use Rattle.shader_model.specs.declared.tree.SlotUse.{SlotUse}
use Rattle.shader_model.specs.declared.statement.Statement.{Statement}
use Rattle.base_lemmas.specs.ByteWords.{words_of}
use Rattle.shader_model.specs.Items.{Item, Part, opcode, more_of, parts_from, is_declaration}
use Rattle.shader_model.specs.Fields.{target_of, operand_of, slot_use_of, statement_of, statements, declared_of, declarations, temps_said}
use Rattle.shader_model.specs.Faults.{Rule, Said, operand_rules, is_empty, fault_at, items_fault, or_else, first_broken, bytes_rules, header_rules}
use Rattle.shader_model.specs.Body.{End}
use Rattle.shader_model.specs.Nesting.{Block, after, Whole, spelled}
use Rattle.shader_tokens.specs.declared.end.ShaderEnd.{ShaderEnd}
use Rattle.shader_tokens.specs.declared.end.ShaderEnd.TheVariants as end_
use Rattle.shader_tokens.specs.declared.gather.Gathered.{Gathered}
use Rattle.shader_tokens.specs.declared.item.Item as code
use Rattle.shader_tokens.specs.declared.reader.Reader.{Reader}
use Rattle.shader_tokens.specs.Levels.{blocks, seen}

-- ## Answers

-- what holds of the bad word, where decoding ends with one
abbrev pub IfFault : ShaderEnd → (ShaderFault → Type 0) → Type 0
IfFault (end_.Bad f) P = P f
IfFault end_.NoMemory P = Unit {0}

module _ {A : Type 0} where
  -- what holds of the bad word, where the answer is one
  abbrev pub IfBad : Result A ShaderEnd → (ShaderFault → Type 0) → Type 0
  IfBad (Ok x) P = Unit {0}
  IfBad (Err e) P = IfFault e P

-- ## Items and operands

abbrev pub item_of : code.Item → Item
item_of item = record { at = item.at; first = item.first; more = words_of item.more.now }

-- these words are operands of these kinds, no more and no fewer
abbrev pub walks : List Kind → List ℕ → Bool
walks [] [] = true
walks [] (w ∷ ws) = false
walks (k ∷ ks) [] = false
walks (k ∷ ks) (w ∷ ws) = if nat_le (more_of k w) (length ws) then walks ks (drop (more_of k w) ws) else false

-- the operands of these kinds, none where the words do not fit them
abbrev pub parts_at : ℕ → List Kind → List ℕ → List Part
parts_at at ks ws = unwrap_or (parts_from at ks ws) []

-- the operand of a kind that stands first in these words
abbrev pub first_part : Kind → ℕ → List ℕ → Part
first_part k at ws = record { kind = k; at = at; word = slice_index ws 0; more = take (more_of k (slice_index ws 0)) (drop 1 ws) }

-- the rules of all these operands
abbrev pub rules_of : Said → Access → List Part → List Rule
rules_of said a ps = flat_map (λ p. operand_rules p.kind said a p) ps

-- ## Gathered operands

-- no operand yet
abbrev pub nothing : Gathered
nothing = record { first = None; second = None; slot = None; sources = None ∷ None ∷ None ∷ None ∷ []; count = 0 }

abbrev pub and_target : Target → Gathered → Gathered
and_target t g = if is_none g.first then record g { first = Some t } else if is_none g.second then record g { second = Some t } else g

abbrev pub and_source : Operand → Gathered → Gathered
and_source o g = if nat_lt g.count 4 then record g { sources = slice_set g.sources g.count (Some o); count = g.count + 1 } else g

abbrev pub and_slot : SlotUse → Gathered → Gathered
and_slot u g = if is_none g.slot then record g { slot = Some u } else g

abbrev pub and_kind : Kind → Part → Gathered → Gathered
and_kind Destination p g = and_target (target_of p.word) g
and_kind Source p g = and_source (operand_of p.word p.more) g
and_kind SlotWord p g = and_slot (slot_use_of p.word) g

-- all these operands put behind those gathered
abbrev pub gathered : Gathered → List Part → Gathered
gathered g [] = g
gathered g (p ∷ ps) = gathered (and_kind p.kind p g) ps

-- ## What the items so far say

abbrev pub said : Reader → Said
said r = record { declared = r.declared.items; temps = r.temps; any = r.any; begun = r.begun; blocks = blocks r.levels }

-- what no item says
abbrev pub nothing_said : Said
nothing_said = record { declared = []; temps = None; any = false; begun = false; blocks = [] }

abbrev pub and_declared : Option Declared → List Declared → List Declared
and_declared None ds = ds
and_declared (Some d) ds = ds ++ d ∷ []

abbrev pub and_blocks : Option Statement → List Block → List Block
and_blocks None bs = bs
and_blocks (Some s) bs = after s bs

-- what is said where one more item stands behind
abbrev pub and_said : Item → Said → Said
and_said item s = record {
  declared = and_declared (declared_of item) s.declared;
  temps = if opcode item == 2 then Some (slice_index item.more 0) else s.temps;
  any = true;
  begun = not (is_declaration item) || s.begun;
  blocks = and_blocks (statement_of item) s.blocks;
}

-- all these items were read: what they declare, their tree so far, and that only a block left open is still a fault
pub record Reads (items : List Item) (r : Reader) : Type 0 where
  pub declared : r.declared.items ≡ declarations items
  pub temps : r.temps ≡ temps_said items
  pub fault : items_fault [] items ≡ (if is_empty (blocks r.levels) then None else Some (fault_at 1 kind.Nesting))
  pub spells : seen r.levels (Whole End) ≡ spelled (statements items)

-- ## The header

-- these bytes are no whole words, or fewer than two
abbrev pub torn : List ℕ → Bool
torn bytes = not (length bytes % 4 == 0) || nat_lt (length bytes) 8

-- the fault of the number of bytes or of the first two words
unfoldable pub header_fault_of : List ℕ → Option ShaderFault
header_fault_of bytes = or_else (first_broken (bytes_rules bytes)) (first_broken (header_rules (words_of bytes)))
