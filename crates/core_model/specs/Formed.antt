-- Work that a device can do, wherever its buffers stand: lengths agree, words are whole, slots rise, and what is
-- written is apart.
use Rattle.std.specs.Prelude.{◌≡◌, ℕ, suc, ◌+◌, ◌-◌, ◌*◌, ◌%◌, ◌<◌, ◌≤◌, Bool, true, false, ◌||◌, List, [], ◌∷◌}
use Rattle.std.specs.Prelude.{Option, Some, None, ◌⊎◌}
use Rattle.std.specs.List.{AllByRecursion}
use Rattle.dx_types.specs.declared.range.Range.{Range}
use Rattle.dx_types.specs.declared.limits.TheConstants.{CONSTANT_SLOTS, SRV_SLOTS, UAV_SLOTS, MAX_BUFFER_SIZE}
use Rattle.vk_types.specs.declared.command.SlotName.{SlotName}
use Rattle.vk_types.specs.declared.command.SlotName.TheVariants as slot
use Rattle.vk_types.specs.declared.command.SlotRange.{SlotRange}
use Rattle.vk_types.specs.declared.command.Groups.{Groups}
use Rattle.vk_types.specs.declared.command.Groups.TheVariants as groups
use Rattle.vk_types.specs.declared.command.Work.{Work}
use Rattle.vk_types.specs.declared.command.Work.TheVariants as work
use Rattle.vk_types.specs.declared.command.Cond.{Cond}
use Rattle.base_lemmas.specs.Lists.{Pairwise}
use Rattle.core_model.specs.Script.{Play, Create, Discard, No_overwrite, Stage, Command, Destroy, Create_shader}
use Rattle.core_model.specs.Script.{Mark_query, Set_state}

-- how many bytes a range has
abbrev pub range_size : Range → ℕ
range_size r = r.to - r.from

-- a shader can name the slot
abbrev pub IsSlot : SlotName → Type 0
IsSlot (slot.Constant i) = i < CONSTANT_SLOTS
IsSlot (slot.Srv i) = i < SRV_SLOTS
IsSlot (slot.Uav i) = i < UAV_SLOTS

-- where a slot stands among the slots of a dispatch: constants, then shader resources, then unordered access views
abbrev pub slot_rank : SlotName → ℕ
slot_rank (slot.Constant i) = i
slot_rank (slot.Srv i) = 256 + i
slot_rank (slot.Uav i) = 512 + i

-- the slots rise, and the first of them stands at least there
abbrev pub SlotsRise : ℕ → List SlotRange → Type 0
SlotsRise least [] = Unit {0}
SlotsRise least (s ∷ ss) = (least ≤ slot_rank s.slot) × SlotsRise (suc (slot_rank s.slot)) ss

-- a slot exists, and has whole words, no more than a buffer has
pub record SlotIsFormed (s : SlotRange) : Type 0 where
  pub exists : IsSlot s.slot
  pub words : range_size s.range % 4 ≡ 0
  pub limit : range_size s.range ≤ MAX_BUFFER_SIZE

-- a shader may write the slot
abbrev pub is_written_slot : SlotName → Bool
is_written_slot (slot.Constant i) = false
is_written_slot (slot.Srv i) = false
is_written_slot (slot.Uav i) = true

-- two slots, one of which may be written, are of two buffers or blocks
abbrev pub SlotsApart : SlotRange → SlotRange → Type 0
SlotsApart s t = (is_written_slot s.slot || is_written_slot t.slot) ≡ true → s.range.block ≡ t.range.block → ⊥

-- the three counts of an indirect dispatch take 12 bytes
abbrev pub GroupsAreFormed : Groups → Type 0
GroupsAreFormed (groups.Direct x y z) = Unit {0}
GroupsAreFormed (groups.Indirect at) = range_size at ≡ 12

pub record DispatchIsFormed (counts : Groups) (slots : List SlotRange) : Type 0 where
  pub groups : GroupsAreFormed counts
  pub rise : SlotsRise 0 slots
  pub each : AllByRecursion SlotIsFormed slots
  pub apart : Pairwise SlotsApart slots

abbrev pub WorkIsFormed : Work → Type 0
WorkIsFormed (work.Copy source target) = range_size source ≡ range_size target
WorkIsFormed (work.Fill target word) = range_size target % 4 ≡ 0
WorkIsFormed (work.Clear target words unit) = ((unit ≡ 2) ⊎ (unit ≡ 4)) × (range_size target % (4 * unit) ≡ 0)
WorkIsFormed (work.Dispatch shader counts slots) = DispatchIsFormed counts slots

-- a condition is a word
abbrev pub CondIsFormed : Option Cond → Type 0
CondIsFormed None = Unit {0}
CondIsFormed (Some c) = range_size c.at ≡ 4

-- the command that a play makes is formed; a stage's has the length of its bytes
abbrev pub PlayIsFormed : Play → Type 0
PlayIsFormed (Create buffer bytes) = Unit {0}
PlayIsFormed (Discard buffer from bytes) = Unit {0}
PlayIsFormed (No_overwrite buffer from bytes) = Unit {0}
PlayIsFormed (Stage bytes target skip) = CondIsFormed skip
PlayIsFormed (Command w skip) = WorkIsFormed w × CondIsFormed skip
PlayIsFormed (Destroy buffer) = Unit {0}
PlayIsFormed Create_shader = Unit {0}
PlayIsFormed (Mark_query query begins) = Unit {0}
PlayIsFormed Set_state = Unit {0}
