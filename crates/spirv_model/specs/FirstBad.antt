-- The first word of a module that the profile refuses, and of which kind: where a word breaks several rules,
-- the kind is the first of them in the order of the kinds.
use Rattle.std.specs.Prelude.{ℕ, zero, suc, ◌+◌, ◌-◌, ◌==◌, if◌then◌else◌, Bool, true, false, not, ◌&&◌, nat_lt, List, [], ◌∷◌, map, length, find, slice_index, Option, Some, None, option_map}
use Rattle.spirv_model.specs.declared.header.TheConstants.{MAGIC_NUMBER, VERSION, GENERATOR, SCHEMA}
use Rattle.spirv_model.specs.declared.fault.ModuleFault.{ModuleFault}
use Rattle.spirv_model.specs.declared.fault.ModuleKind.TheVariants as kind
use Rattle.spirv_model.specs.Op.{Op}
use Rattle.spirv_model.specs.Op as op
use Rattle.spirv_model.specs.Table.{operands_of}
use Rattle.spirv_model.specs.Words.{Front, Instruction, BadCount, BadOpcode, front}
use Rattle.spirv_model.specs.History.{maker, after}
use Rattle.spirv_model.specs.Operands.{Verdict, or_else, unless, operands}
use Rattle.spirv_model.specs.Sections.{in_order, is_function_end}
use Rattle.spirv_model.specs.Blocks.{in_block}

-- ## The instructions

abbrev pub fault_at : ℕ → Verdict → Option ModuleFault
fault_at at None = None
fault_at at (Some k) = Some (record { word = at; kind = k })

-- the first of these words, from a place on, that is refused
abbrev pub first_fault : (at : ℕ) → List Verdict → Option ModuleFault
first_fault at [] = None
first_fault at (v ∷ vs) = or_else (fault_at at v) (first_fault (at + 1) vs)

-- the rules of an instruction's first word
abbrev pub first_word_rule : List Op → Op → Verdict
first_word_rule h o = or_else (unless (in_order h o) kind.Order) (unless (in_block h o) kind.Flow)

abbrev pub word_count : Op → ℕ
word_count o = length (operands_of o) + 1

-- the first refused word of the instructions from a place on, after those before them, the latest first
abbrev pub ops_fault : (bound : ℕ) → (h : List Op) → (at : ℕ) → List Op → Option ModuleFault
ops_fault bound h at [] = None
ops_fault bound h at (o ∷ os) =
    or_else (first_fault at (first_word_rule h o ∷ operands bound h o)) (ops_fault bound (o ∷ h) (at + word_count o) os)

-- ## What is never made

-- Where no other word is bad: an id that an entry point, a mode or a decoration names, and a label that a merge or
-- a branch names.
module _ (all : List Op) where
  abbrev pub known : Option Op → Verdict
  known None = Some kind.Ident
  known (Some o) = None

  abbrev pub id : ℕ → Verdict
  id x = known (maker x all)

  abbrev pub is_label : Option Op → Verdict
  is_label (Some (op.Label r)) = None
  is_label _ = Some kind.Flow

  abbrev pub block : ℕ → Verdict
  block l = is_label (maker l all)

  abbrev pub late_operands : Op → List Verdict
  late_operands (op.EntryPoint m f n n' is) = None ∷ id f ∷ None ∷ None ∷ map id is
  late_operands (op.ExecutionMode f m x y z) = id f ∷ []
  late_operands (op.Decorate x d vs) = id x ∷ []
  late_operands (op.MemberDecorate x m d vs) = id x ∷ []
  late_operands (op.LoopMerge m n c) = block m ∷ block n ∷ []
  late_operands (op.SelectionMerge m c) = block m ∷ []
  late_operands (op.Branch l) = block l ∷ []
  late_operands (op.BranchConditional c a b) = None ∷ block a ∷ block b ∷ []
  late_operands _ = []

  abbrev pub late_fault : (at : ℕ) → List Op → Option ModuleFault
  late_fault at [] = None
  late_fault at (o ∷ os) = or_else (first_fault (at + 1) (late_operands o)) (late_fault (at + word_count o) os)

-- ## The words behind the header

-- the instructions of a list of words, up to the first word that begins none, and why it begins none
pub record Reading : Type 0 where
  pub ops : List Op
  pub stop : Verdict

abbrev pub read_more : Op → Reading → Reading
read_more o r = record { ops = o ∷ r.ops; stop = r.stop }

abbrev pub read_front : Front → (List ℕ → Reading) → Reading
read_front (Instruction o rest) go = read_more o (go rest)
read_front BadCount go = record { ops = []; stop = Some kind.Count }
read_front BadOpcode go = record { ops = []; stop = Some kind.Opcode }

-- of at most so many words
unfoldable pub reading : ℕ → List ℕ → Reading
reading n [] = record { ops = []; stop = None }
reading zero (w ∷ ws) = record { ops = []; stop = None }
reading (suc n) (w ∷ ws) = read_front (front w ws) (reading n)

abbrev pub total_words : List Op → ℕ
total_words [] = 0
total_words (o ∷ os) = word_count o + total_words os

abbrev pub ends_function : List Op → Bool
ends_function [] = false
ends_function (o ∷ h) = is_function_end o

-- the instructions, the word that begins none, the last word before the function's end, what is never made
abbrev pub body_fault : (bound : ℕ) → Reading → Option ModuleFault
body_fault bound r =
    let end = 5 + total_words r.ops in
    or_else (ops_fault bound [] 5 r.ops)
    (or_else (fault_at end r.stop)
    (or_else (fault_at (end - 1) (unless (ends_function (after r.ops [])) kind.Flow))
    (late_fault (after r.ops []) 5 r.ops)))

-- ## The header

-- each of its words meets its rule (SPIR-V 1.6, section 2.3): the magic number, the version, the generator, a bound,
-- which is any, and the schema
abbrev pub takes_header_word : (at word : ℕ) → Bool
takes_header_word at w =
    if at == 0 then w == MAGIC_NUMBER
    else if at == 1 then w == VERSION
    else if at == 2 then w == GENERATOR
    else if at == 3 then true
    else w == SCHEMA

-- a word of the header is there and right
abbrev pub has_header_word : List ℕ → ℕ → Bool
has_header_word ws at = nat_lt at (length ws) && takes_header_word at (slice_index ws at)

abbrev pub header_places : List ℕ
header_places = 0 ∷ 1 ∷ 2 ∷ 3 ∷ 4 ∷ []

-- the first word of the header that is missing or wrong
unfoldable pub header_fault : List ℕ → Option ModuleFault
header_fault ws = option_map (λ at. record { word = at; kind = kind.Header }) (find (λ at. not (has_header_word ws at)) header_places)

abbrev pub behind_header : List ℕ → Option ModuleFault
behind_header (m ∷ v ∷ g ∷ bound ∷ s ∷ ws) = body_fault bound (reading (length ws) ws)
behind_header ws = None

-- the first word that the profile refuses, and of which kind; None where the module is well formed
unfoldable pub first_bad : List ℕ → Option ModuleFault
first_bad ws = or_else (header_fault ws) (behind_header ws)
