-- The module of a shader, and what it does.
use Rattle.std.specs.Prelude.{◌≡◌, ℕ, true, List, Option, Some}
use Rattle.std.specs.Option.{option_map}
use Rattle.shader_model.specs.Shader.{Program}
use Rattle.shader_model.specs.Invocation.{Slots}
use Rattle.shader_model.specs.Dispatch.{is_allowed, dispatched}
use Rattle.spirv_model.specs.Meaning.Bindings.{SlotsFit}
use Rattle.spirv_model.specs.Meaning.ModuleDispatch.{IsDefined, group_of, module_dispatched}
use Rattle.spirv_emit.specs.Module.{module_of}
use Rattle.d3d_state.specs.Shaders.{program_by}

-- the words of the module that is emitted for token bytes; none where these spell no shader
unfoldable pub module_for : List ℕ → Option (List ℕ)
module_for tokens = option_map module_of (program_by tokens)

-- a module of these words does what a shader does
pub record DoesAs (p : Program) (made : List ℕ) : Type 0 where
  pub group : group_of made ≡ p.group
  pub defined : IsDefined made
  pub dispatches : (groups : List ℕ) (slots : Slots) → is_allowed groups p.group ≡ true → SlotsFit slots
      → module_dispatched made groups slots ≡ Some (dispatched p groups slots)
