use Rattle.std.proofs.Common.{◌≡◌, ◌++◌, take}
use Rattle.vk_types.specs.declared.command.SlotName.TheVariants as slot
use Rattle.d3d_model.specs.Memory.{srvs_shown}
use Rattle.item_work.specs.Slots.{slots_on}
use Rattle.item_work.proofs.slots.push_srvs.Given as goal

abbrev pub invariant-slots : goal.invariant-slots
invariant-slots l =
    l.parts.items ≡ l.initial.parts.items ++ slots_on l.blocks slot.Srv 0 (take l.slot (srvs_shown l.set l.declared))
