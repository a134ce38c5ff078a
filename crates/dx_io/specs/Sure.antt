-- What a source and a sink that never fail show.
use Rattle.std.specs.Prelude.{ℕ, List, drop, Option, None}
use Rattle.dx_io.specs.declared.sure.SureSource.{SureSource}

-- The bytes that it has left.
abbrev pub sure_left : SureSource → List ℕ
sure_left s = drop s.at s.bytes.items

-- No call of a source or a sink that never fails is a fault.
abbrev pub sure_faults : ℕ
sure_faults = 0

-- Nothing is told.
abbrev pub untold : Option (List ℕ)
untold = None
