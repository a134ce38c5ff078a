use Rattle.std.proofs.Common.{get_or, arith}
use Rattle.vk_types.specs.declared.command.SlotName.TheVariants as slot
use Rattle.vk_types.specs.declared.command.SlotRange.{SlotRange}
use Rattle.device_memory.specs.Binding.{CanLend}
use Rattle.device_memory.proofs.Steps.{all_at, reads_constant, reads_srv}
use Rattle.device_memory.proofs.memory.DeviceMemory.lend_parts.Goals as goal

abbrev no_slot : SlotRange
no_slot = record { slot = slot.Constant 0; range = record { block = 0; from = 0; to = 0 } }

pub part-requires : goal.part-requires
part-requires c =
    let s = get_or c.args.slots.now c.slots.s-index no_slot in
    (reads_constant c.args.self.now s s.slot c.in-Constant.i (all_at (CanLend c.args.self.now) c.args.slots.now c.requires c.slots.s-index no_slot (omega arith)) c.in-Constant.is).range

pub part-requires-in-Srv : goal.part-requires-in-Srv
part-requires-in-Srv c =
    let s = get_or c.args.slots.now c.slots.s-index no_slot in
    (reads_srv c.args.self.now s s.slot c.in-Srv.i (all_at (CanLend c.args.self.now) c.args.slots.now c.requires c.slots.s-index no_slot (omega arith)) c.in-Srv.is).range
