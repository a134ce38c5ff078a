-- The slots that the calls of a list set.
use Rattle.std.specs.Prelude.{List}
use Rattle.std.specs.List.{All}
use Rattle.d3d_model.specs.D3dState.{Numbered}
use Rattle.d3d_effects.specs.Played.{SlotFits}

-- the slot that the call sets, if it sets one, is one of those that there are
abbrev pub SetsFit : Numbered → Type 0
SetsFit c = SlotFits c.call

-- so it is with each call
abbrev pub AllFit : List Numbered → Type 0
AllFit cs = All SetsFit cs
