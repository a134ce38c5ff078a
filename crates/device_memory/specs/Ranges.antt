-- Ranges that a command names, and that the device must hold.
use Rattle.std.specs.Prelude.{◌≡◌, ◌-◌, ◌%◌, ◌<◌, ◌≤◌, ℕ, Bool, true, false, ◌||◌, ◌==◌, Option, Some, None}
use Rattle.dx_types.specs.declared.range.Range.{Range}
use Rattle.dx_types.specs.declared.limits.TheConstants.{CONSTANT_SLOTS, MAX_BUFFER_SIZE, SRV_SLOTS, UAV_SLOTS}
use Rattle.vk_types.specs.declared.command.SlotName.{SlotName}
use Rattle.vk_types.specs.declared.command.SlotName.TheVariants as slot
use Rattle.vk_types.specs.declared.command.SlotRange.{SlotRange}
use Rattle.vk_types.specs.declared.command.Groups.{Groups}
use Rattle.vk_types.specs.declared.command.Groups.TheVariants as groups
use Rattle.vk_types.specs.declared.command.Cond.{Cond}
use Rattle.device_memory.specs.Held.{Held, IsHeld}

-- how many bytes a range has
abbrev pub size_of : Range → ℕ
size_of r = r.to - r.from

-- the predicate's word lies in a block that is held
abbrev pub CanSkip : Held → Option Cond → Type 0
CanSkip held None = Unit {0}
CanSkip held (Some c) = IsHeld held c.at × (size_of c.at ≡ 4)

-- the counts of an indirect dispatch are three words of a block that is held
abbrev pub CanCount : Held → Groups → Type 0
CanCount held (groups.Direct x y z) = Unit {0}
CanCount held (groups.Indirect at) = IsHeld held at × (size_of at ≡ 12)

-- a module can name the slot
abbrev pub IsSlot : SlotName → Type 0
IsSlot (slot.Constant i) = i < CONSTANT_SLOTS
IsSlot (slot.Srv i) = i < SRV_SLOTS
IsSlot (slot.Uav i) = i < UAV_SLOTS

abbrev pub HasSlot : SlotRange → Type 0
HasSlot s = IsSlot s.slot

-- the slot is one that a dispatch may write
abbrev pub is_writable : SlotName → Bool
is_writable (slot.Constant i) = false
is_writable (slot.Srv i) = false
is_writable (slot.Uav i) = true

-- the two names are one
abbrev pub is_same : SlotName → SlotName → Bool
is_same (slot.Constant i) (slot.Constant j) = i == j
is_same (slot.Constant i) (slot.Srv j) = false
is_same (slot.Constant i) (slot.Uav j) = false
is_same (slot.Srv i) (slot.Constant j) = false
is_same (slot.Srv i) (slot.Srv j) = i == j
is_same (slot.Srv i) (slot.Uav j) = false
is_same (slot.Uav i) (slot.Constant j) = false
is_same (slot.Uav i) (slot.Srv j) = false
is_same (slot.Uav i) (slot.Uav j) = i == j

-- the slot's range lies in a block that is held, and has whole words, no more than a buffer has
pub record CanBind (held : Held) (s : SlotRange) : Type 0 where
  pub slot : IsSlot s.slot
  pub range : IsHeld held s.range
  pub whole : size_of s.range % 4 ≡ 0
  pub limit : size_of s.range ≤ MAX_BUFFER_SIZE

-- two slots have two names, and two blocks where one of them may be written
pub record AreApart (s t : SlotRange) : Type 0 where
  pub names : is_same s.slot t.slot ≡ false
  pub blocks : (is_writable s.slot || is_writable t.slot) ≡ true → s.range.block ≡ t.range.block → ⊥
