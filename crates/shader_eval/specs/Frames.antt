-- What an invocation keeps, as its meaning sees it.
use Rattle.std.specs.Prelude.{◌*◌, ◌≡◌, length}
use Rattle.shader_model.specs.Invocation.{Slots, State, Flow, Falls, Breaks, Continues, Ends}
use Rattle.shader_model.specs.Shader.{Tree}
use Rattle.shader_eval.specs.declared.frame.Frame.{Frame}
use Rattle.shader_eval.specs.declared.way.Way.{Way}
use Rattle.shader_eval.specs.declared.way.Way.TheVariants as way

-- a frame has four words for each temporary of a shader
abbrev pub IsFor : Frame → Tree → Type 0
IsFor f t = length f.temps ≡ 4 * t.temps

-- an invocation under way
abbrev pub seen : Frame → Slots → State
seen f slots = record { temps = f.temps; slots = slots; turns = f.turns }

abbrev pub flow_of : Way → State → Flow
flow_of way.Falls s = Falls s
flow_of way.Breaks s = Breaks s
flow_of way.Continues s = Continues s
flow_of way.Ends s = Ends s
