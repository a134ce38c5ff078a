-- The contexts, by what is set on each and what each records.
use Rattle.std.specs.Prelude.{List, [], ◌∷◌}
use Rattle.d3d_model.specs.Binding.{Bindings}
use Rattle.d3d_model.specs.D3dState.{Context, Numbered}

unfoldable pub contexts_of : List Bindings → List (List Numbered) → List Context
contexts_of [] lists = []
contexts_of (b ∷ bs) [] = record { bindings = b; recorded = [] } ∷ contexts_of bs []
contexts_of (b ∷ bs) (cs ∷ lists) = record { bindings = b; recorded = cs } ∷ contexts_of bs lists
