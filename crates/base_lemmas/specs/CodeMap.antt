-- Ordered maps of the code, seen as maps from ids.
use Rattle.std.specs.Prelude.{ℕ, List, [], ◌∷◌}
use Rattle.base_lemmas.specs.IdMap.{IdMap, empty, insert}

-- the map that these entries make, each value as a view shows it
unfoldable pub map_of : {X Y : Type 0} → (X → Y) → List (ℕ × X) → IdMap Y
map_of f [] = empty
map_of f (e ∷ es) = insert (map_of f es) e.0 (f e.1)
