-- The open lists of all contexts.
use Rattle.std.specs.Prelude.{ℕ, List, [], map, slice_index_or}
use Rattle.d3d_model.specs.D3dState.{Numbered}
use Rattle.d3d_lists.specs.declared.opened.OpenList.{OpenList}
use Rattle.d3d_lists.specs.Calls.{calls_in}

abbrev pub calls_of : OpenList → List Numbered
calls_of o = calls_in o.calls.items

-- the calls of each open list, by contexts
abbrev pub recorded_in : List OpenList → List (List Numbered)
recorded_in opened = map calls_of opened

-- the calls of the open list of one context
abbrev pub recorded_at : List OpenList → ℕ → List Numbered
recorded_at opened x = slice_index_or (recorded_in opened) x []
