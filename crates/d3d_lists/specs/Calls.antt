-- The calls of a list, without where their bytes lie in memory.
use Rattle.std.specs.Prelude.{List, map}
use Rattle.call_log.specs.View.{call_view}
use Rattle.d3d_model.specs.D3dState as model
use Rattle.d3d_lists.specs.declared.numbered.Numbered as code

abbrev pub numbered : code.Numbered → model.Numbered
numbered c = record { number = c.number; call = call_view c.call }

unfoldable pub calls_in : List code.Numbered → List model.Numbered
calls_in cs = map numbered cs
