-- Scripts that no log has, and that are not lawful: their runs would end early, wait for ever, or do what no device
-- can.
use Rattle.std.specs.Prelude.{false, true, List, [], ◌∷◌, Some, None}
use Rattle.vk_types.specs.declared.command.Groups.TheVariants as groups
use Rattle.vk_types.specs.declared.command.SlotName.TheVariants as slot
use Rattle.vk_types.specs.declared.command.Work.TheVariants as work
use Rattle.vk_types.specs.Memory.{range}
use Rattle.core_model.specs.Script.{Command, Create_shader, Set_state, Constant, Turn, Flushed, Asked, Item, Script}
use Rattle.core_model.specs.WorkedLogs.{all_of, buffer}

abbrev pub script_with : List Turn → Script
script_with turns = record { turns = turns; calls = 9; size = λ r. 16; class = λ r. None; is_staging = λ r. false }

-- ends in the middle of a list, with a command in the open chunk that is never handed over
abbrev pub cut_list : Script
cut_list = script_with (buffer 1 [] ∷ Item 2 3 false (Command (work.Fill (all_of 1) 5) None) (all_of 1 ∷ []) ∷ [])

-- dispatches a shader that no call creates, whose module never comes
abbrev pub no_shader : Script
no_shader = script_with (Item 1 1 true (Command (work.Dispatch 9 (groups.Direct 1 1 1) []) None) [] ∷ [])

-- waits for a call that no chunk finishes
abbrev pub odd_use : Script
odd_use = script_with (Item 1 1 true Set_state [] ∷ Flushed 2 ∷ Asked 3 (Constant 1) (Some 2) false ∷ [])

-- copies sixteen bytes to four
abbrev pub odd_copy : Script
odd_copy = script_with (
    buffer 1 [] ∷ buffer 2 []
    ∷ Item 3 3 true (Command (work.Copy (all_of 1) (range 2 0 4)) None) (all_of 1 ∷ range 2 0 4 ∷ [])
    ∷ [])

-- has one buffer in two writable slots
abbrev pub odd_slots : Script
odd_slots = script_with (
    buffer 1 []
    ∷ Item 2 2 true Create_shader []
    ∷ Item 3 3 true
    (Command (work.Dispatch 2 (groups.Direct 1 1 1) (record { slot = slot.Uav 0; range = all_of 1 } ∷ record
    { slot = slot.Uav 1; range = range 1 0 8 } ∷ [])) None) (all_of 1 ∷ range 1 0 8 ∷ [])
    ∷ [])
