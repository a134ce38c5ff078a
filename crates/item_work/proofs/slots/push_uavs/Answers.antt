use Rattle.std.proofs.Common.{◌<◌, ◌≤◌, length, arith}
use Rattle.vk_types.specs.declared.command.SlotName.TheVariants as slot
use Rattle.d3d_model.specs.Memory.{uavs_shown, view_shown}
use Rattle.item_work.proofs.ShownSlots.{length-shown, slot_more, slots_all}
use Rattle.item_work.proofs.slots.push_uavs.Goals as goal

pub slots-preserved : goal.slots-preserved
slots-preserved c =
    let shown = uavs_shown c.args.set.now c.args.declared.now in
    let long = length-shown view_shown c.args.declared.now 5 0 c.args.set.now.uavs in
    let below : c.slots.slot < length shown = omega (arith, long, c.has_all_slots.ensures.uavs, c.slots-test.true) in
    slot_more c.args.blocks.now slot.Uav shown c.slots.slot c.args.parts.now.items c.slots.parts.items c.push_slot.new.parts.items
    c.uav_shown-shown.result below c.uav_shown-shown.ensures c.slots.invariant c.in_ok-push_slot.ensures

pub returns : goal.returns
returns c =
    let shown = uavs_shown c.args.set.now c.args.declared.now in
    let long = length-shown view_shown c.args.declared.now 5 0 c.args.set.now.uavs in
    let all : length shown ≤ c.slots.slot = omega (arith, long, c.has_all_slots.ensures.uavs, c.slots-test.false) in
    slots_all c.args.blocks.now slot.Uav shown c.slots.slot c.args.parts.now.items c.slots.parts.items all c.slots.invariant
