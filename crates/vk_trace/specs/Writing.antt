-- What the pieces of the writer append.
use Rattle.std.specs.Prelude.{ℕ, List, [], ◌∷◌, ◌++◌}
use Rattle.vk_trace.specs.ListText.{rest_of}

-- Some parts, the first behind this mark and the others behind commas.
abbrev pub marked_parts : List ℕ → List (List ℕ) → List ℕ
marked_parts mark [] = []
marked_parts mark (p ∷ ps) = mark ++ (p ++ rest_of 44 ps)

-- The mark in front of the part behind some.
abbrev pub next_mark : List ℕ → List (List ℕ) → List ℕ
next_mark mark [] = mark
next_mark mark (p ∷ ps) = 44 ∷ []
