-- What a caller owes so that places in a buffer are numbers of 64 bits.
use Rattle.std.specs.Prelude.{◌≡◌, ℕ, ◌+◌, ◌^◌, ◌<◌, ◌⊎◌, List, Option, None, Some}
use Rattle.std.specs.List.{All}
use Rattle.dx_types.specs.declared.shape.Form.TheVariants.{Raw, Structured, Typed}
use Rattle.dx_types.specs.declared.shape.Form.{Form}
use Rattle.d3d_model.specs.Binding as model
use Rattle.d3d_model.specs.Binding.{BoundView}
use Rattle.d3d_model.specs.View.{view_end}

-- the unit that a view of this form has on a buffer of this stride: a word, a structure, or one, two or four words
abbrev pub IsUnit : Form → ℕ → ℕ → Type 0
IsUnit Raw stride unit = unit ≡ 4
IsUnit Structured stride unit = unit ≡ stride
IsUnit Typed stride unit = (unit ≡ 4) ⊎ (unit ≡ 8) ⊎ (unit ≡ 16)

-- a view, if there is one, that ends below byte 2 ^ 64
abbrev pub EndFits : Option BoundView → Type 0
EndFits None = Unit {0}
EndFits (Some v) = view_end v.shape < 2 ^ 64

-- a predicate's word, if it has one, that ends below byte 2 ^ 64
abbrev pub WordFits : model.Predicate → Type 0
WordFits model.Never = Unit {0}
WordFits (model.Query id value) = Unit {0}
WordFits (model.Word res offset value) = offset + 4 < 2 ^ 64

-- all that is set, for reads, for writes and as a predicate, ends below byte 2 ^ 64
pub record Ending (read written : List (Option BoundView)) (predicate : model.Predicate) : Type 0 where
  pub srvs : All EndFits read
  pub uavs : All EndFits written
  pub word : WordFits predicate
