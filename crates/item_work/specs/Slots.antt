-- The slots of a dispatch, on blocks.
use Rattle.std.specs.Prelude.{ℕ, suc, List, [], ◌∷◌, ◌++◌, Option, Some, None}
use Rattle.dx_types.specs.declared.range.ResRange.{ResRange}
use Rattle.shader_model.specs.declared.tree.Declared.{Declared}
use Rattle.vk_types.specs.declared.command.SlotName.{SlotName}
use Rattle.vk_types.specs.declared.command.SlotName.TheVariants as slot
use Rattle.vk_types.specs.declared.command.SlotRange.{SlotRange}
use Rattle.d3d_model.specs.Binding.{Bindings}
use Rattle.d3d_model.specs.D3dState.{Objects}
use Rattle.d3d_model.specs.Memory.{constants_shown, srvs_shown, uavs_shown}
use Rattle.item_work.specs.Placed.{IdBlocks, range_at}

-- the slot, if it shows something
abbrev pub slot_if : IdBlocks → SlotName → Option ResRange → List SlotRange
slot_if named name None = []
slot_if named name (Some r) = record { slot = name; range = range_at named r } ∷ []

-- the slots from one on that show something
abbrev pub slots_on : IdBlocks → (ℕ → SlotName) → ℕ → List (Option ResRange) → List SlotRange
slots_on named name i [] = []
slots_on named name i (s ∷ shown) = slot_if named (name i) s ++ slots_on named name (suc i) shown

-- the slots that a shader with these declarations sees: constants, shader resources, unordered access views
abbrev pub slots_seen : IdBlocks → Objects → Bindings → List Declared → List SlotRange
slots_seen named o b ds =
    slots_on named slot.Constant 0 (constants_shown o b ds)
    ++ (slots_on named slot.Srv 0 (srvs_shown b ds) ++ slots_on named slot.Uav 0 (uavs_shown b ds))
