-- Why a view of a live buffer is not created: a creation's checks in terms of those that the shapes show.
use Rattle.std.specs.Prelude.{ℕ, nat_lt, Bool, not, ◌&&◌, ◌||◌, List, ◌∷◌}
use Rattle.dx_types.specs.declared.refusal.Refusal.TheVariants.{IdInUse, BadBind, BadFormat, OutOfRange}
use Rattle.dx_types.specs.declared.shape.Shape.{Shape}
use Rattle.dx_types.specs.declared.shape.ViewShape.{ViewShape}
use Rattle.d3d_model.specs.declared.codes.TheConstants.{TYPED_FORM, WRITE_VIEW}
use Rattle.d3d_model.specs.Check.{Check, is_id}
use Rattle.d3d_model.specs.D3dState.{Objects}
use Rattle.d3d_model.specs.View.{lacks_bind, span_checks}
use Rattle.d3d_model.specs.Verdict.{bad_components, is_live_view}

-- an unknown form, or components that don't go with it
abbrev pub is_wrong_form : ℕ → ℕ → Bool
is_wrong_form form components = nat_lt TYPED_FORM form || bad_components form components

-- the checks of a creation on a buffer of this shape: those that need the numbers of its kind and form stand before those of
-- its span
abbrev pub shape_checks : Shape → ViewShape → (kind form components : ℕ) → List Check
shape_checks s v kind form components =
    (nat_lt WRITE_VIEW kind, BadBind)
    ∷ (is_wrong_form form components && lacks_bind s v.writable, BadBind)
    ∷ (is_wrong_form form components, BadFormat)
    ∷ span_checks s v

-- the checks of a creation whose buffer is live
abbrev pub creation_checks : Objects → Shape → ViewShape → ℕ → ℕ → ℕ → ℕ → List Check
creation_checks o s v view kind form components =
    (not (is_id view), OutOfRange)
    ∷ (is_live_view o view, IdInUse)
    ∷ shape_checks s v kind form components
