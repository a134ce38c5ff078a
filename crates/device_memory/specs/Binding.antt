-- How the slots of a dispatch are bound: the blocks of those that may be written give their bytes away for its time, and
-- have them back with the words that it left.
use Rattle.std.specs.Prelude.{ℕ, List, [], ◌∷◌, slice_range, slice_index_or, slice_set, Option, Some, None}
use Rattle.dx_types.specs.declared.range.Range.{Range}
use Rattle.base_lemmas.specs.ByteWords.{words_of}
use Rattle.shader_slots.specs.Part.{Part, part_of}
use Rattle.shader_slots.specs.Part as part
use Rattle.shader_slots.specs.Bound.{Bound, with_constant, with_read, with_write}
use Rattle.vk_types.specs.declared.command.SlotName.{SlotName}
use Rattle.vk_types.specs.declared.command.SlotName.TheVariants as slot
use Rattle.vk_types.specs.declared.command.SlotRange.{SlotRange}
use Rattle.device_memory.specs.Held.{Held, block_of}
use Rattle.device_memory.specs.Ranges.{CanBind}
use Rattle.device_memory.specs.Writes.{bytes_if, exchanged}

-- the bytes of a range
abbrev pub bytes_in : Held → Range → List ℕ
bytes_in held r = slice_range (bytes_if (block_of held r.block)) r.from r.to

-- ---- the parts that may be written

-- the blocks once the bytes of a slot's were taken, if it may be written
abbrev pub taken_one : SlotName → Range → Held → Held
taken_one (slot.Constant i) r held = held
taken_one (slot.Srv i) r held = held
taken_one (slot.Uav i) r held = exchanged r.block [] held

abbrev pub taken : List SlotRange → Held → Held
taken [] held = held
taken (s ∷ ss) held = taken ss (taken_one s.slot s.range held)

-- what is bound once a slot's part was
abbrev pub given_one : Held → SlotName → Range → Bound → Bound
given_one held (slot.Constant i) r b = b
given_one held (slot.Srv i) r b = b
given_one held (slot.Uav i) r b = with_write i (Some (part_of (bytes_if (block_of held r.block)) r.from r.to)) b

abbrev pub given : Held → List SlotRange → Bound → Bound
given held [] b = b
given held (s ∷ ss) b = given held ss (given_one held s.slot s.range b)

-- ---- the parts that are read

-- the slot's range can be bound, if the slot is read
abbrev pub CanRead : Held → SlotName → SlotRange → Type 0
CanRead held (slot.Constant i) s = CanBind held s
CanRead held (slot.Srv i) s = CanBind held s
CanRead held (slot.Uav i) s = Unit {0}

abbrev pub CanLend : Held → SlotRange → Type 0
CanLend held s = CanRead held s.slot s

abbrev pub lent_one : Held → SlotName → Range → Bound → Bound
lent_one held (slot.Constant i) r b = with_constant i (words_of (bytes_in held r)) b
lent_one held (slot.Srv i) r b = with_read i (words_of (bytes_in held r)) b
lent_one held (slot.Uav i) r b = b

abbrev pub lent : Held → List SlotRange → Bound → Bound
lent held [] b = b
lent held (s ∷ ss) b = lent held ss (lent_one held s.slot s.range b)

-- ---- what a dispatch left

abbrev pub returned_part : Option Part → Range → Held → Held
returned_part None r held = held
returned_part (Some p) r held = exchanged r.block (part.bytes_of p) held

-- the blocks once the bytes of a slot's part are back
abbrev pub returned_one : List (Option Part) → SlotName → Range → Held → Held
returned_one parts (slot.Constant i) r held = held
returned_one parts (slot.Srv i) r held = held
returned_one parts (slot.Uav i) r held = returned_part (slice_index_or parts i None) r held

-- the parts that are left then
abbrev pub left_one : List (Option Part) → SlotName → List (Option Part)
left_one parts (slot.Constant i) = parts
left_one parts (slot.Srv i) = parts
left_one parts (slot.Uav i) = slice_set parts i None

abbrev pub returned : List SlotRange → List (Option Part) → Held → Held
returned [] parts held = held
returned (s ∷ ss) parts held = returned ss (left_one parts s.slot) (returned_one parts s.slot s.range held)
