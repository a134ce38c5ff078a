-- The turns of each call: what the recorder meets, in order.
use Rattle.std.specs.Prelude.{ℕ, ◌==◌, Bool, true, false, List, [], ◌∷◌, Option, None, Some, if◌then◌else◌}
use Rattle.dx_types.specs.declared.refusal.Refusal.{Refusal}
use Rattle.call_log.specs.Call as calls
use Rattle.call_log.specs.Call.{Call, Issued}
use Rattle.base_lemmas.specs.IdMap as ids
use Rattle.d3d_model.specs.D3dState.{Objects, Numbered, bindings_of, calls_of_list}
use Rattle.d3d_model.specs.Stream.{binds}
use Rattle.d3d_model.specs.Effect.{played, list_start}
use Rattle.d3d_model.specs.Verdict.{Place, OnDevice, OnImmediate, OnEach, OnDeferred, place_of}
use Rattle.d3d_model.specs.InOrder.{State, verdict_in, before_call, call_at}
use Rattle.d3d_model.specs.Uses.{use_in}
use Rattle.d3d_model.specs.ReplyText.{sort_if, query_value}
use Rattle.d3d_model.specs.Past.{Past}
use Rattle.core_model.specs.Script.{Set_state, Ask, Bytes, Count, Constant, Turn, Refused, Passed, Flushed, Asked, Item}
use Rattle.log_script.specs.Makers.{bytes_from, of_makers}
use Rattle.log_script.specs.Plays.{play_of, making_of}

-- the item of a call that may stand in a list, with the ranges that it binds
abbrev pub item_of : (call item : ℕ) → Bool → Past → Objects → Call → Turn
item_of call item ends past o c =
    let b = bindings_of o 0 in
    Item call item ends (play_of past o b c) (of_makers past (binds o b c))

-- the items of a list, each on the objects that it meets; the last one sets the state after
abbrev pub list_items : ℕ → Past → Objects → List Numbered → List Turn
list_items n past o [] = Item n n true Set_state [] ∷ []
list_items n past o (c ∷ cs) = item_of n c.number false past o c.call ∷ list_items n past (played n o c.call) cs

-- what a GetData asks for: a count, or the value that queries of the sort have
abbrev pub ask_of : ℕ → ℕ → Ask
ask_of query sort = if sort == 2 then Count query else Constant (query_value sort 0)

-- a call on the immediate context alone
abbrev pub immediate_turns : ℕ → State → Call → List Turn
immediate_turns n s (calls.MapRead res flag offset len) =
    Asked n (Bytes (bytes_from s.past res offset len)) (use_in s (calls.MapRead res flag offset len)) (flag == 1) ∷ []
immediate_turns n s (calls.GetData query flag) =
    Asked n (ask_of query (sort_if (ids.get s.objects.queries query))) (use_in s (calls.GetData query flag))
    (flag == 1) ∷ []
immediate_turns n s calls.Flush = Flushed n ∷ []
immediate_turns n s (calls.ExecuteList list flag) = list_items n s.past (list_start s.objects)
    (calls_of_list s.objects list)
immediate_turns n s _ = Passed n ∷ []

abbrev pub turns_by_place : Place → ℕ → State → ℕ → Call → List Turn
turns_by_place OnDevice n s x c = Item n n true (making_of n s.past c) [] ∷ []
turns_by_place OnImmediate n s x c = immediate_turns n s c
turns_by_place OnEach n s x c = if x == 0 then item_of n n true s.past s.objects c ∷ [] else Passed n ∷ []
turns_by_place OnDeferred n s x c = Passed n ∷ []

abbrev pub turns_unless : ℕ → State → Issued → Option Refusal → List Turn
turns_unless n s i (Some why) = Refused n ∷ []
turns_unless n s i None = turns_by_place (place_of i.call) n s i.context i.call

abbrev pub turns_in : ℕ → State → Option Issued → List Turn
turns_in n s None = []
turns_in n s (Some i) = turns_unless n s i (verdict_in s i)

-- the turns of call n, in the state that it meets
abbrev pub turns_of : List Issued → ℕ → List Turn
turns_of log n = turns_in n (before_call log n) (call_at log n)
