-- A dispatch of a shader that is known.
use Rattle.std.specs.Prelude.{ℕ, List}
use Rattle.shader_model.specs.Dispatch as dispatch
use Rattle.shader_model.specs.Shader.{Program}
use Rattle.d3d_model.specs.Binding.{Bindings}
use Rattle.d3d_model.specs.D3dState.{Objects, Memory}
use Rattle.d3d_model.specs.Memory.{after_ran, slots_seen, uavs_shown}

-- the memory after a dispatch of this program where these bindings are set, of so many groups
abbrev pub ran_by : Program → Objects → Bindings → List ℕ → Memory → Memory
ran_by p o b groups m =
    after_ran m (uavs_shown b p.declared) (record { slots = dispatch.dispatched p groups (slots_seen o m b p.declared); count = dispatch.count_of p groups })
