-- What an act does to memory.
use Rattle.std.specs.Prelude.{ℕ, ◌-◌, ◌/◌, ◌%◌, Bool, true, false, cond, ◌==◌, List, [], ◌∷◌, map, Option, Some, None}
use Rattle.dx_types.specs.declared.range.Range.{Range}
use Rattle.vk_types.specs.declared.touch.Touch.{Touch}
use Rattle.vk_types.specs.declared.command.SlotName.{SlotName}
use Rattle.vk_types.specs.declared.command.SlotName.TheVariants as slot
use Rattle.vk_types.specs.declared.command.SlotRange.{SlotRange}
use Rattle.vk_types.specs.declared.command.Groups.{Groups}
use Rattle.vk_types.specs.declared.command.Groups.TheVariants as groups
use Rattle.vk_types.specs.declared.command.Work.{Work}
use Rattle.vk_types.specs.declared.command.Work.TheVariants as work
use Rattle.vk_types.specs.declared.command.Cond.{Cond}
use Rattle.vk_types.specs.declared.command.Command.{Command}
use Rattle.base_lemmas.specs.Lists.{numbers_from}
use Rattle.vk_types.specs.Memory.{Memory, put, byte_of, word_of, byte_in, byte_in_words, number_at}
use Rattle.vk_types.specs.Hazards.{touches, host_write_touch, host_read_touch}

-- the words of each slot of a shader. An empty slot has none
pub record SlotWords : Type 0 where
  pub constant : ℕ → List ℕ
  pub srv : ℕ → List ℕ
  pub uav : ℕ → List ℕ

-- what a dispatch means, by the call that created its shader and the three group counts: the words of each UAV slot
-- afterwards, and how many invocations run. Where the counts pass the limits, the words stay and none runs
pub record Meaning : Type 0 where
  pub words : ℕ → List ℕ → SlotWords → ℕ → List ℕ
  pub count : ℕ → List ℕ → ℕ

-- the words of a range
abbrev pub words_in : Memory → Range → List ℕ
words_in memory r = map (word_of memory r) (numbers_from 0 ((r.to - r.from) / 4))

-- the name is that of constant slot i
abbrev pub is_constant : ℕ → SlotName → Bool
is_constant i (slot.Constant j) = i == j
is_constant i (slot.Srv j) = false
is_constant i (slot.Uav j) = false

-- the name is that of SRV slot i
abbrev pub is_srv : ℕ → SlotName → Bool
is_srv i (slot.Constant j) = false
is_srv i (slot.Srv j) = i == j
is_srv i (slot.Uav j) = false

-- the name is that of UAV slot i
abbrev pub is_uav : ℕ → SlotName → Bool
is_uav i (slot.Constant j) = false
is_uav i (slot.Srv j) = false
is_uav i (slot.Uav j) = i == j

-- the words of the first listed slot that passes the test
abbrev pub slot_words : Memory → (SlotName → Bool) → List SlotRange → List ℕ
slot_words memory test [] = []
slot_words memory test (s ∷ ss) = cond (test s.slot) (words_in memory s.range) (slot_words memory test ss)

-- the listed slots, and all others empty
abbrev pub slots_words : Memory → List SlotRange → SlotWords
slots_words memory slots = record {
  constant = λ i. slot_words memory (is_constant i) slots;
  srv = λ i. slot_words memory (is_srv i) slots;
  uav = λ i. slot_words memory (is_uav i) slots;
}

-- the group counts, of an indirect dispatch as memory has them
abbrev pub group_counts : Memory → Groups → List ℕ
group_counts memory (groups.Direct x y z) = x ∷ y ∷ z ∷ []
group_counts memory (groups.Indirect at) = word_of memory at 0 ∷ word_of memory at 1 ∷ word_of memory at 2 ∷ []

-- memory with a slot's words in its range, if it is a UAV
abbrev pub put_slot : (ℕ → List ℕ) → SlotName → Range → Memory → Memory
put_slot words (slot.Constant i) r memory = memory
put_slot words (slot.Srv i) r memory = memory
put_slot words (slot.Uav i) r memory = put r (byte_in_words (words i)) memory

-- memory with these words in the listed UAVs
abbrev pub put_slots : (ℕ → List ℕ) → List SlotRange → Memory → Memory
put_slots words [] memory = memory
put_slots words (s ∷ ss) memory = put_slots words ss (put_slot words s.slot s.range memory)

-- what a command's work does
abbrev pub work_effect : Meaning → Work → Memory → Memory
work_effect meaning (work.Copy source target) memory = put target (byte_of memory source) memory
work_effect meaning (work.Fill target word) memory = put target (λ k. byte_in word (k % 4)) memory
work_effect meaning (work.Clear target words unit) memory = put target (λ k. byte_in (number_at words (k / 4 % unit)) (k % 4)) memory
work_effect meaning (work.Dispatch shader counts slots) memory =
    put_slots (meaning.words shader (group_counts memory counts) (slots_words memory slots)) slots memory

-- how many invocations a command's work runs
abbrev pub work_count : Meaning → Work → Memory → ℕ
work_count meaning (work.Copy source target) memory = 0
work_count meaning (work.Fill target word) memory = 0
work_count meaning (work.Clear target words unit) memory = 0
work_count meaning (work.Dispatch shader counts slots) memory = meaning.count shader (group_counts memory counts)

-- a command is skipped where its predicate, 1 for a word that is not 0, equals the given value
abbrev pub is_skipped : Option Cond → Memory → Bool
is_skipped None memory = false
is_skipped (Some c) memory = cond (word_of memory c.at 0 == 0) 0 1 == c.value

-- what a command does
abbrev pub effect : Meaning → Command → Memory → Memory
effect meaning c memory = cond (is_skipped c.cond memory) memory (work_effect meaning c.work memory)

-- how many invocations a command runs
abbrev pub invocations : Meaning → Command → Memory → ℕ
invocations meaning c memory = cond (is_skipped c.cond memory) 0 (work_count meaning c.work memory)

-- Acts ----------------------------------------------------------------------------------------------------------

-- what happens to memory: a write of these bytes by the host, a command of the device, or a read by the host
pub data Act : Type 0 where
  Host_write : (target : Range) (bytes : List ℕ) → Act
  Device : (command : Command) → Act
  Host_read : (source : Range) → Act

-- what an act touches
abbrev pub act_touches : Act → List Touch
act_touches (Host_write target bytes) = host_write_touch target ∷ []
act_touches (Device command) = touches command
act_touches (Host_read source) = host_read_touch source ∷ []

-- what an act does to memory
abbrev pub act_effect : Meaning → Act → Memory → Memory
act_effect meaning (Host_write target bytes) memory = put target (number_at bytes) memory
act_effect meaning (Device command) memory = effect meaning command memory
act_effect meaning (Host_read source) memory = memory

-- the act is the host's
abbrev pub is_host : Act → Bool
is_host (Host_write target bytes) = true
is_host (Device command) = false
is_host (Host_read source) = true

-- the range that an act hands to the host
abbrev pub host_source : Act → Option Range
host_source (Host_write target bytes) = None
host_source (Device command) = None
host_source (Host_read source) = Some source
