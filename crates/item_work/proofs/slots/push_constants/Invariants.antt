use Rattle.std.proofs.Common.{◌≡◌, ◌++◌, take}
use Rattle.vk_types.specs.declared.command.SlotName.TheVariants as slot
use Rattle.d3d_model.specs.Memory.{constants_shown}
use Rattle.d3d_state.specs.Meaning.{objects_of}
use Rattle.item_work.specs.Slots.{slots_on}
use Rattle.item_work.proofs.slots.push_constants.Given as goal

abbrev pub invariant-slots : goal.invariant-slots
invariant-slots l =
    l.parts.items ≡ l.initial.parts.items ++ slots_on l.blocks slot.Constant 0 (take l.slot (constants_shown (objects_of l.objects) l.set l.declared))
