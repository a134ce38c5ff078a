-- What a call sets on a context, as the model has it.
use Rattle.std.specs.Prelude.{◌<◌, ⊤}
use Rattle.dx_types.specs.declared.limits.TheConstants.{CONSTANT_SLOTS, SRV_SLOTS, UAV_SLOTS}
use Rattle.d3d_model.specs.Binding as model
use Rattle.d3d_model.specs.Binding.{Bindings, default_bindings}
use Rattle.d3d_views.specs.Limits.{EndFits, WordFits}
use Rattle.d3d_views.specs.Meaning.{meaning}
use Rattle.d3d_state.specs.declared.setting.Setting as code
use Rattle.d3d_state.specs.declared.setting.Setting.TheVariants.{Shader, Constant, Srv, Uav, Predicate, Default}

-- its slot is one of those that there are, and it ends below byte 2 ^ 64
abbrev pub Fits : code.Setting → Type 0
Fits (Shader id) = ⊤
Fits (Constant slot res) = slot < CONSTANT_SLOTS
Fits (Srv slot view) = (slot < SRV_SLOTS) × EndFits view
Fits (Uav slot view) = (slot < UAV_SLOTS) × EndFits view
Fits (Predicate predicate) = WordFits (meaning predicate)
Fits Default = ⊤

-- what is set after it
abbrev pub set_to : Bindings → code.Setting → Bindings
set_to b (Shader id) = model.set_shader b id
set_to b (Constant slot res) = model.set_constant b slot res
set_to b (Srv slot view) = model.set_srv b slot view
set_to b (Uav slot view) = model.set_uav b slot view
set_to b (Predicate predicate) = model.set_predicate b (meaning predicate)
set_to b Default = default_bindings
