-- In which order marks are kept.
use Rattle.std.specs.Prelude.{◌≤◌, List, [], ◌∷◌, All}
use Rattle.lifetime.specs.declared.holds.Mark.{Mark}

-- the numbers of the chunks do not fall
abbrev pub AreInOrder : List Mark → Type 0
AreInOrder [] = Unit {0}
AreInOrder (m ∷ ms) = All (λ (n : Mark). m.chunk ≤ n.chunk) ms × AreInOrder ms
