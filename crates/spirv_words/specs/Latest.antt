-- The latest of the instructions so far.
use Rattle.std.specs.Prelude.{List, [], ◌∷◌, Option, Some, None}
use Rattle.spirv_model.specs.Op.{Op}

abbrev pub latest : List Op → Option Op
latest [] = None
latest (o ∷ h) = Some o
