-- What the state asks of shaders: the meaning of their token bytes, and which views fit their slots.
use Rattle.std.specs.Prelude.{ℕ, ◌*◌, ◌==◌, Bool, ◌&&◌, List, [], Option, None, Some, is_some}
use Rattle.dx_types.specs.declared.shape.ViewShape.{ViewShape}
use Rattle.dx_types.specs.declared.shape.Form.{Form}
use Rattle.dx_types.specs.declared.shape.Form.TheVariants.{Raw, Structured, Typed}
use Rattle.shader_model.specs.declared.tree.Declared.{Declared}
use Rattle.shader_model.specs.Shader.{Program, shader_of}
use Rattle.shader_model.specs.Invocation.{Slots}
use Rattle.shader_model.specs.Dispatch as dispatch
use Rattle.d3d_model.specs.View.{form_number}

-- the token bytes are a shader
unfoldable pub decodes : List ℕ → Bool
decodes words = is_some (shader_of words)

abbrev pub group_if : Option Program → List ℕ
group_if None = []
group_if (Some p) = p.group

-- the threads of a group, by x, y and z
unfoldable pub group_of : List ℕ → List ℕ
group_of words = group_if (shader_of words)

abbrev pub declared_if : Option Program → List Declared
declared_if None = []
declared_if (Some p) = p.declared

-- the slots that the shader declares, in order
unfoldable pub declared_by : List ℕ → List Declared
declared_by words = declared_if (shader_of words)

-- the slots after a dispatch, and how many invocations ran
pub record Ran : Type 0 where
  pub slots : Slots
  pub count : ℕ

abbrev pub ran_if : Option Program → List ℕ → Slots → Ran
ran_if None groups slots = record { slots = slots; count = 0 }
ran_if (Some p) groups slots = record { slots = dispatch.dispatched p groups slots; count = dispatch.count_of p groups }

-- a dispatch of so many groups, in index order; where there are too many, none runs
unfoldable pub ran_dispatch : List ℕ → List ℕ → Slots → Ran
ran_dispatch words groups slots = ran_if (shader_of words) groups slots

-- the bytes of one element that a declaration asks for
abbrev pub declared_unit : Declared → Form → ℕ
declared_unit d Raw = 4
declared_unit d Structured = d.parameter
declared_unit d Typed = 4 * d.parameter

-- a view that has the form, the stride and the components that are declared; another counts as unbound
abbrev pub fits_slot : Declared → ViewShape → Bool
fits_slot d v = (form_number v.form == form_number d.form) && (v.unit == declared_unit d d.form)
