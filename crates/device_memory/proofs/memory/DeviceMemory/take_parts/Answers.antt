use Rattle.std.proofs.Common.{ℕ, List, Some, get_or, ap, ◌∙◌, arith}
use Rattle.shader_slots.specs.Part.{Part, part_of}
use Rattle.shader_slots.specs.Bound.{with_write}
use Rattle.vk_types.specs.declared.command.SlotName.TheVariants as slot
use Rattle.vk_types.specs.declared.command.SlotRange.{SlotRange}
use Rattle.device_memory.specs.Ranges.{is_writable}
use Rattle.device_memory.proofs.Steps.{take_more, pass_more}
use Rattle.device_memory.proofs.memory.DeviceMemory.take_parts.Goals as goal
use Rattle.device_memory.proofs.memory.DeviceMemory.take_parts.Goals.{in-Uav, in-Constant, in-Srv}

abbrev no_slot : SlotRange
no_slot = record { slot = slot.Constant 0; range = record { block = 0; from = 0; to = 0 } }

pub slots-preserved : goal.slots-preserved
slots-preserved c =
    let s = get_or c.args.slots.now c.slots.s-index no_slot in
    elim c.match-s.branch [
      | in-Uav w ↦ rw (w.self-is, w.bound-is) (
          take_more c.args.self.now c.args.bound.now c.args.slots.now c.slots.s-index no_slot c.slots.self c.slots.bound (omega arith) c.requires.apart w.in-Uav.i w.in-Uav.is c.slots.invariant
          w.take_bytes-bytes.new.self w.bind_write.new.self w.take_bytes-bytes.ensures.rest
          (w.bind_write.ensures
          ∙ ap (λ (p : Part). with_write w.in-Uav.i (Some p) c.slots.bound) (w.new-part.ensures ∙ ap (λ (bs : List ℕ). part_of bs s.range.from s.range.to) w.take_bytes-bytes.ensures.bytes))
          )
      | in-Constant w ↦ rw (w.self-is, w.bound-is) (
          pass_more c.args.self.now c.args.bound.now c.args.slots.now c.slots.s-index no_slot c.slots.self c.slots.bound (omega arith) c.requires.apart (ap is_writable w.in-Constant.is) c.slots.invariant
          )
      | in-Srv w ↦ rw (w.self-is, w.bound-is) (
          pass_more c.args.self.now c.args.bound.now c.args.slots.now c.slots.s-index no_slot c.slots.self c.slots.bound (omega arith) c.requires.apart (ap is_writable w.in-Srv.is) c.slots.invariant
          )
    ]
