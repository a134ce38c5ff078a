-- What a recorder keeps.
use Rattle.std.specs.Prelude.{ℕ, List}
use Rattle.d3d_model.specs.D3dState.{Numbered}
use Rattle.d3d_lists.specs.Lists.{Lists, lists_in}
use Rattle.d3d_lists.specs.Opened.{recorded_at, recorded_in}
use Rattle.d3d_lists.specs.declared.recorder.Recorder.{Recorder}

-- the calls of the open list of each context
abbrev pub recorded_by : Recorder → List (List Numbered)
recorded_by r = recorded_in r.opened.items

-- the calls of the open list of one context
abbrev pub recorded_on : Recorder → ℕ → List Numbered
recorded_on r x = recorded_at r.opened.items x

-- the calls of each live list
abbrev pub lists_of : Recorder → Lists
lists_of r = lists_in r.lists.entries
