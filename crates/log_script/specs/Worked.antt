-- Scripts of worked logs, worked out by hand. Those of two logs stand in `core_model`.
use Rattle.std.specs.Prelude.{ℕ, ◌≡◌, true, false, List, [], ◌∷◌, Some, None}
use Rattle.vk_types.specs.declared.command.Work.TheVariants as work
use Rattle.vk_types.specs.declared.command.Groups.TheVariants as groups
use Rattle.vk_types.specs.declared.command.SlotName.TheVariants as slot
use Rattle.vk_types.specs.Memory.{range}
use Rattle.call_log.specs.Call as call
use Rattle.call_log.specs.Call.{Call, Issued}
use Rattle.core_model.specs.Script.{Create, Discard, No_overwrite, Stage, Command, Destroy, Create_shader, Mark_query}
use Rattle.core_model.specs.Script.{Set_state, Bytes, Count, Constant, Turn, Refused, Passed, Flushed, Asked, Item}
use Rattle.core_model.specs.Script.{Script}

abbrev at : ℕ → Call → Issued
at x c = record { context = x; call = c }

-- an item that is all of its call, and binds nothing
abbrev sets : ℕ → Turn
sets n = Item n n true Set_state []

-- five buffers, of which three are copied and two cleared through views
unfoldable pub five_buffers_log : List Issued
five_buffers_log =
    at 0 (call.Buffer 1 16 0 4 1 0 (0 ∷ 1 ∷ 2 ∷ 3 ∷ 4 ∷ 5 ∷ 6 ∷ 7 ∷ 8 ∷ 9 ∷ 10 ∷ 11 ∷ 12 ∷ 13 ∷ 14 ∷ 15 ∷ [])) ∷
    at 0 (call.Buffer 2 16 0 0 0 0 []) ∷
    at 0 (call.Buffer 3 16 0 0 0 0 []) ∷
    at 0 (call.Buffer 4 16 0 4 1 0 []) ∷
    at 0 (call.Buffer 5 16 3 0 0 0 []) ∷
    at 0 (call.View 1 1 1 0 0 0 4) ∷
    at 0 (call.View 2 4 1 0 0 0 4) ∷
    at 0 (call.Copy 2 1) ∷
    at 0 (call.Copy 3 2) ∷
    at 0 (call.ClearUav 1 5 0 0 0) ∷
    at 0 (call.ClearUav 2 6 0 0 0) ∷
    at 0 (call.Copy 5 3) ∷
    at 0 (call.MapRead 5 0 0 16) ∷
    []

-- a no-overwrite goes beside the bytes of a bound view; the one that meets them is refused
abbrev pub no_overwrite_turns : List Turn
no_overwrite_turns =
    Item 1 1 true (Create 1 []) [] ∷
    sets 2 ∷
    Item 3 3 true Create_shader [] ∷
    sets 4 ∷
    sets 5 ∷
    Item 6 6 true (Command (work.Dispatch 3 (groups.Direct 1 1 1) []) None) (range 1 0 16 ∷ []) ∷
    Item 7 7 true
    (No_overwrite 1 16 (255 ∷ 255 ∷ 255 ∷ 255 ∷ 255 ∷ 255 ∷ 255 ∷ 255 ∷ 255 ∷ 255 ∷ 255 ∷ 255 ∷ 255 ∷ 255 ∷ 255
    ∷ 255 ∷ [])) [] ∷
    Refused 8 ∷
    []

-- a list that discards and copies, executed twice. Its items have its calls' numbers, and end with the call's own
abbrev pub list_turns : List Turn
list_turns =
    Item 1 1 true (Create 1 []) [] ∷
    Item 2 2 true (Create 2 []) [] ∷
    Passed 3 ∷
    Passed 4 ∷
    Passed 5 ∷
    Item 6 3 false (Discard 1 0 (17 ∷ 17 ∷ 17 ∷ 17 ∷ [])) [] ∷
    Item 6 4 false (Command (work.Copy (range 1 0 4) (range 2 0 4)) None) (range 1 0 4 ∷ range 2 0 4 ∷ []) ∷
    sets 6 ∷
    Item 7 7 true (No_overwrite 1 4 (34 ∷ 34 ∷ 34 ∷ 34 ∷ [])) [] ∷
    Item 8 8 true (Command (work.Copy (range 1 4 8) (range 2 4 8)) None) (range 1 4 8 ∷ range 2 4 8 ∷ []) ∷
    Asked 9 (Bytes (range 2 0 8)) (Some 8) false ∷
    Item 10 3 false (Discard 1 0 (17 ∷ 17 ∷ 17 ∷ 17 ∷ [])) [] ∷
    Item 10 4 false (Command (work.Copy (range 1 0 4) (range 2 0 4)) None) (range 1 0 4 ∷ range 2 0 4 ∷ []) ∷
    sets 10 ∷
    Item 11 11 true (Command (work.Copy (range 1 0 8) (range 2 0 8)) None) (range 1 0 8 ∷ range 2 0 8 ∷ []) ∷
    Asked 12 (Bytes (range 2 0 8)) (Some 11) false ∷
    []

-- a query around three dispatches, two of them with counts that stand in a buffer
abbrev pub statistics_turns : List Turn
statistics_turns =
    Item 1 1 true
    (Create 1 (0 ∷ 0 ∷ 0 ∷ 0 ∷ 1 ∷ 0 ∷ 0 ∷ 0 ∷ 1 ∷ 0 ∷ 0 ∷ 0 ∷ 0 ∷ 0 ∷ 1 ∷ 0 ∷ 1 ∷ 0 ∷ 0 ∷ 0 ∷ 1 ∷ 0 ∷ 0 ∷ 0 ∷
    [])) [] ∷
    Item 2 2 true Create_shader [] ∷
    sets 3 ∷
    sets 4 ∷
    Item 5 5 true (Mark_query 1 true) [] ∷
    Item 6 6 true (Command (work.Dispatch 2 (groups.Indirect (range 1 0 12)) []) None) (range 1 0 12 ∷ []) ∷
    Item 7 7 true (Command (work.Dispatch 2 (groups.Indirect (range 1 12 24)) []) None) (range 1 12 24 ∷ []) ∷
    Item 8 8 true (Command (work.Dispatch 2 (groups.Direct 2 1 1) []) None) [] ∷
    Item 9 9 true (Mark_query 1 false) [] ∷
    Asked 10 (Count 1) (Some 9) false ∷
    []

-- a copy with a word as its predicate
abbrev pub predicate_turns : List Turn
predicate_turns =
    Item 1 1 true (Create 1 []) [] ∷
    sets 2 ∷
    Item 3 3 true (Create 3 (170 ∷ 170 ∷ 170 ∷ 170 ∷ [])) [] ∷
    Item 4 4 true (Create 4 []) [] ∷
    Item 5 5 true (Command (work.Fill (range 1 0 4) 1) None) (range 1 0 4 ∷ []) ∷
    sets 6 ∷
    Item 7 7 true (Command (work.Copy (range 3 0 4) (range 4 0 4)) (Some (record { at = range 1 0 4; value = 1 })))
    (range 3 0 4 ∷ range 4 0 4 ∷ range 1 0 4 ∷ []) ∷
    Asked 8 (Bytes (range 4 0 4)) (Some 7) false ∷
    []

-- a dispatch that stores through a view. Its slots are those that the shader declares
abbrev pub store_turns : List Turn
store_turns =
    Item 7 7 true
    (Command (work.Dispatch 4 (groups.Direct 1 1 1) (record { slot = slot.Uav 0; range = range 1 0 16 } ∷ []))
    None) (range 1 0 16 ∷ []) ∷
    Item 8 8 true (Command (work.Copy (range 1 0 16) (range 2 0 16)) None) (range 1 0 16 ∷ range 2 0 16 ∷ []) ∷
    Asked 9 (Bytes (range 2 0 16)) (Some 8) false ∷
    []

-- an id that is used again names another buffer: the one that its latest creation made, by its call. A query of
-- another sort counts nothing, and its predicate skips what its value says, though the skipped update is staged and
-- binds all the same
unfoldable pub reused_ids_log : List Issued
reused_ids_log =
    at 0 (call.Buffer 1 8 0 0 0 0 []) ∷
    at 0 (call.Destroy 1 1) ∷
    at 0 (call.Buffer 1 8 0 0 0 0 []) ∷
    at 0 (call.Query 1 3) ∷
    at 0 (call.Begin 1) ∷
    at 0 (call.EndQuery 1) ∷
    at 0 (call.SetPredication 1 1 0 0) ∷
    at 0 (call.Update 1 4 (1 ∷ 2 ∷ [])) ∷
    at 0 (call.Update 1 4 []) ∷
    at 0 (call.SetPredication 1 1 0 1) ∷
    at 0 (call.Update 1 4 (1 ∷ 2 ∷ [])) ∷
    at 0 (call.GetData 1 1) ∷
    at 0 (call.Flush) ∷
    []

abbrev pub reused_ids_turns : List Turn
reused_ids_turns =
    Item 1 1 true (Create 1 []) [] ∷
    Item 2 2 true (Destroy 1) [] ∷
    Item 3 3 true (Create 3 []) [] ∷
    sets 4 ∷
    sets 5 ∷
    sets 6 ∷
    sets 7 ∷
    Item 8 8 true (Stage (1 ∷ 2 ∷ []) None None) (range 3 4 6 ∷ []) ∷
    sets 9 ∷
    sets 10 ∷
    Item 11 11 true (Stage (1 ∷ 2 ∷ []) (Some (range 3 4 6)) None) (range 3 4 6 ∷ []) ∷
    Asked 12 (Constant 0) (Some 6) true ∷
    Flushed 13 ∷
    []

-- what a script says of the two buffers of the list's log: a dynamic one of eight bytes, and a staging one. No other
-- call creates one
abbrev pub HasListBuffers : Script → Type 0
HasListBuffers script =
    (script.calls ≡ 12) × (script.size 1 ≡ 8) × (script.size 2 ≡ 8) × (script.size 3 ≡ 0)
    × (script.class 1 ≡ Some 0) × (script.class 2 ≡ None) × (script.class 3 ≡ None)
    × (script.is_staging 1 ≡ false) × (script.is_staging 2 ≡ true) × (script.is_staging 3 ≡ false)
