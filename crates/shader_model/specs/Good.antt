-- What holds of each decoded shader: every slot and register that it names is declared.
use Rattle.std.specs.Prelude.{◌≡◌, ℕ, ◌<◌, ◌≤◌, ◌≢◌, ◌+◌, suc, max, Bool, true, false, List, count_by, length, nat_lt, Option, Some, None, is_some, slice_index, slice_index_or, IsTrue, IsSome}
use Rattle.std.specs.List.{AllByRecursion}
use Rattle.dx_types.specs.declared.limits.TheConstants.{MAX_NESTING, MAX_SHADER_WORDS, MAX_TEMPORARIES}
use Rattle.shader_model.specs.declared.tree.Declared.{Declared}
use Rattle.shader_model.specs.declared.tree.Target.{Target}
use Rattle.shader_model.specs.declared.tree.Operand.{Operand}
use Rattle.shader_model.specs.declared.tree.SlotUse.{SlotUse}
use Rattle.shader_model.specs.declared.tree.Instr.{Instr}
use Rattle.shader_model.specs.declared.tree.Test.{Test}
use Rattle.shader_model.specs.declared.opcode.Kind.{Kind}
use Rattle.shader_model.specs.declared.opcode.Kind.TheVariants.{Destination, Source, SlotWord}
use Rattle.shader_model.specs.declared.opcode.Row.{Row}
use Rattle.shader_model.specs.declared.opcode.Access.{Access}
use Rattle.shader_model.specs.declared.statement.Statement.{Statement}
use Rattle.shader_model.specs.declared.statement.Statement.TheVariants as word
use Rattle.shader_model.specs.Words.{index_in}
use Rattle.shader_model.specs.Opcodes.{kinds, row_of}
use Rattle.shader_model.specs.Fields.{declared_among, used_as}
use Rattle.shader_model.specs.Faults.{takes_slot, takes_extra, takes_parameter, slots_of, is_group}
use Rattle.shader_model.specs.Body.{Body, End, Plain, If, Loop, Break, Continue, Return}
use Rattle.shader_model.specs.Shader.{Program}

abbrev pub is_destination_kind : Kind → Bool
is_destination_kind Destination = true
is_destination_kind Source = false
is_destination_kind SlotWord = false

abbrev pub is_source_kind : Kind → Bool
is_source_kind Destination = false
is_source_kind Source = true
is_source_kind SlotWord = false

abbrev pub is_slot_kind : Kind → Bool
is_slot_kind Destination = false
is_slot_kind Source = false
is_slot_kind SlotWord = true

-- an instruction has the operands that its row names, and no others
pub record HasOperands (ks : List Kind) (i : Instr) : Type 0 where
  pub first : is_some i.first ≡ nat_lt 0 (count_by is_destination_kind ks)
  pub second : is_some i.second ≡ nat_lt 1 (count_by is_destination_kind ks)
  pub slot : is_some i.slot ≡ nat_lt 0 (count_by is_slot_kind ks)
  pub four : length i.sources ≡ 4
  pub sources : (k : ℕ) → k < 4 → is_some (slice_index_or i.sources k None) ≡ nat_lt k (count_by is_source_kind ks)

module _ {A : Type 0} where
  -- what there is fits
  abbrev pub MaybeFits : (A → Type 0) → Option A → Type 0
  MaybeFits P None = Unit {0}
  MaybeFits P (Some x) = P x

module _ (ds : List Declared) (temps : ℕ) where
  -- a temporary that is declared, or null, which has no component
  pub record TargetFits (t : Target) : Type 0 where
    pub register : t.file ≡ 0 → t.index < temps
    pub null : t.file ≢ 0 → t.mask ≡ 0

  -- a source whose register or constant buffer is declared, and the register of its relative index too; it has four
  -- words
  pub record OperandFits (o : Operand) : Type 0 where
    pub file : o.file ≤ 6
    pub register : o.file ≡ 0 → o.index < temps
    pub constant : o.file ≡ 2 → IsSome (declared_among 3 o.index ds)
    pub flagged : IsTrue o.flag → o.file ≡ 2
    pub relative : IsTrue o.flag → index_in (slice_index o.words 1) < temps
    pub words : length o.words ≡ 4

  -- a slot that is declared with a form that the instruction takes
  abbrev pub SlotFits : Access → SlotUse → Type 0
  SlotFits a u = takes_slot a u.writable (used_as u ds) ≡ true

  -- an instruction of the table, with its operands, each of which fits
  pub record InstrFits (i : Instr) : Type 0 where
    pub row : Row
    pub is_row : row_of i.opcode ≡ Some row
    pub extra : takes_extra i.opcode i.extra ≡ true
    pub operands : HasOperands (kinds row.layout) i
    pub first : MaybeFits TargetFits i.first
    pub second : MaybeFits TargetFits i.second
    pub slot : MaybeFits (SlotFits row.access) i.slot
    pub sources : (k : ℕ) → MaybeFits OperandFits (slice_index_or i.sources k None)

  abbrev pub TestFits : Test → Type 0
  TestFits t = OperandFits t.value

  -- what a statement names fits
  abbrev pub StatementFits : Statement → Type 0
  StatementFits (word.Plain i) = InstrFits i
  StatementFits (word.If t) = TestFits t
  StatementFits word.Else = Unit {0}
  StatementFits word.Endif = Unit {0}
  StatementFits word.Loop = Unit {0}
  StatementFits word.Endloop = Unit {0}
  StatementFits (word.Break t) = MaybeFits TestFits t
  StatementFits (word.Continue t) = MaybeFits TestFits t
  StatementFits (word.Return t) = MaybeFits TestFits t

  -- all instructions and tests of a block fit
  abbrev pub Fits : Body → Type 0
  Fits End = Unit {0}
  Fits (Plain i rest) = InstrFits i × Fits rest
  Fits (If t taken other rest) = TestFits t × Fits taken × Fits other × Fits rest
  Fits (Loop inner rest) = Fits inner × Fits rest
  Fits (Break t rest) = MaybeFits TestFits t × Fits rest
  Fits (Continue t rest) = MaybeFits TestFits t × Fits rest
  Fits (Return t rest) = MaybeFits TestFits t × Fits rest

-- a declared slot is below the limit of its kind, and its form takes its parameter
pub record DeclaredFits (d : Declared) : Type 0 where
  pub slot : d.slot < slots_of d.opcode
  pub parameter : takes_parameter d.form d.parameter ≡ true

-- how deep ifs and loops stand in one another, and how many nodes a block has in all
abbrev pub depth : Body → ℕ
depth End = 0
depth (Plain i rest) = depth rest
depth (If t taken other rest) = max (suc (max (depth taken) (depth other))) (depth rest)
depth (Loop inner rest) = max (suc (depth inner)) (depth rest)
depth (Break t rest) = depth rest
depth (Continue t rest) = depth rest
depth (Return t rest) = depth rest

abbrev pub size : Body → ℕ
size End = 0
size (Plain i rest) = suc (size rest)
size (If t taken other rest) = suc (size taken + size other + size rest)
size (Loop inner rest) = suc (size inner + size rest)
size (Break t rest) = suc (size rest)
size (Continue t rest) = suc (size rest)
size (Return t rest) = suc (size rest)

-- what the type of a decoded shader keeps
pub record IsGood (p : Program) : Type 0 where
  pub group : is_group p.group ≡ true
  pub sizes : length p.group ≡ 3
  pub temps : p.temps ≤ MAX_TEMPORARIES
  pub declared : AllByRecursion DeclaredFits p.declared
  pub fits : Fits p.declared p.temps p.body
  pub nesting : depth p.body ≤ MAX_NESTING
  pub nodes : size p.body ≤ MAX_SHADER_WORDS
