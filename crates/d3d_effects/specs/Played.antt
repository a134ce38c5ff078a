-- What a call that may stand in a list plays, and what it needs so that it can be set.
use Rattle.std.specs.Prelude.{ℕ, ◌<◌, ⊤, List, [], ◌∷◌, slice_get, Option}
use Rattle.std.specs.Option.{option_map}
use Rattle.dx_types.specs.declared.limits.TheConstants.{CONSTANT_SLOTS, SRV_SLOTS, UAV_SLOTS}
use Rattle.call_log.specs.Call as calls
use Rattle.call_log.specs.Call.{Call}
use Rattle.base_lemmas.specs.IdMap.{IdMap}
use Rattle.d3d_model.specs.D3dState.{Numbered, Objects, Query, calls_of_list}
use Rattle.d3d_model.specs.Effect.{queries_after}

-- the slot that it sets, if it sets one, is one of those that there are
abbrev pub SlotFits : Call → Type 0
SlotFits (calls.SetConstant slot res) = slot < CONSTANT_SLOTS
SlotFits (calls.SetSrv slot view) = slot < SRV_SLOTS
SlotFits (calls.SetUav slot view) = slot < UAV_SLOTS
SlotFits _ = ⊤

-- the queries after the calls of a list, played as call n
unfoldable pub queries_played : ℕ → IdMap Query → List Numbered → IdMap Query
queries_played n queries [] = queries
queries_played n queries (c ∷ cs) = queries_played n (queries_after n queries c.call) cs

-- a call of a list, from 0
abbrev pub call_no : Objects → ℕ → ℕ → Option Call
call_no o list i = option_map (λ (c : Numbered). c.call) (slice_get (calls_of_list o list) i)
