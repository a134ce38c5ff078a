-- The calls of a list, played by the bindings that each of them meets.
use Rattle.std.specs.Prelude.{List, [], ◌∷◌}
use Rattle.d3d_model.specs.Binding.{Bindings}
use Rattle.d3d_model.specs.D3dState.{Memory, Numbered, Objects}
use Rattle.d3d_model.specs.Memory.{run}
use Rattle.d3d_model.specs.Stream.{set_by}
use Rattle.d3d_memory.specs.Commands.{seen}

-- the memory after these calls, where these bindings are set before the first
unfoldable pub runs_from : Objects → Bindings → Memory → List Numbered → Memory
runs_from o b m [] = m
runs_from o b m (c ∷ cs) = runs_from o (set_by o b c.call) (run (seen o b) m c.call) cs
