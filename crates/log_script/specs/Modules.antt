-- A module in a shader's place: on slots that fit, a dispatch of it leaves what the shader leaves.
use Rattle.std.specs.Prelude.{◌≡◌, ℕ, true, List, Some}
use Rattle.shader_model.specs.Shader.{Program}
use Rattle.shader_model.specs.Invocation.{Slots}
use Rattle.shader_model.specs.Dispatch.{is_allowed, dispatched}
use Rattle.spirv_model.specs.Meaning.Bindings.{SlotsFit}
use Rattle.spirv_model.specs.Meaning.ModuleDispatch.{group_of, module_dispatched}

-- the words are a module of the program: their groups are as large, and a dispatch that isn't too large has an outcome,
-- which is the program's
pub record IsModuleOf (words : List ℕ) (program : Program) : Type 0 where
  pub group : group_of words ≡ program.group
  pub dispatches : (groups : List ℕ) (slots : Slots) → is_allowed groups program.group ≡ true → SlotsFit slots
      → module_dispatched words groups slots ≡ Some (dispatched program groups slots)
