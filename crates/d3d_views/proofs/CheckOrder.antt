-- A view's checks, those that its shape doesn't show in front.
use Rattle.std.proofs.Common.{◌≡◌, ℕ, zero, suc, ◌*◌, Bool, true, false, not, ◌||◌, ◌&&◌, ◌⊎◌, inl, inr, [], ◌∷◌, Some, refl, arith}
use Rattle.std.specs.Prelude.{nat_lt, ◌==◌}
use Rattle.std.proofs.lemmas.Bool.{eqb-true, ltb-false}
use Rattle.dx_types.specs.declared.refusal.Refusal.TheVariants.{UnknownId, IdInUse, BadBind, BadFormat, OutOfRange}
use Rattle.dx_types.specs.declared.shape.Shape.{Shape}
use Rattle.dx_types.specs.declared.shape.ViewShape.{ViewShape}
use Rattle.d3d_model.specs.Check.{first_failed, is_id}
use Rattle.d3d_model.specs.D3dState.{Objects, buffer_of}
use Rattle.d3d_model.specs.Verdict.{view_checks, is_live_view}
use Rattle.d3d_model.specs.View.{form_from, unit_of, lacks_bind, lacks_form, is_outside}
use Rattle.d3d_views.specs.Creation.{creation_checks, is_wrong_form}
use Rattle.d3d_views.specs.Limits.{IsUnit}

same_tests : (absent live kind wrong bind form outside : Bool)
    → first_failed ((absent, OutOfRange) ∷ (false, UnknownId) ∷ (live, IdInUse) ∷ (kind || bind, BadBind) ∷ (wrong || form, BadFormat) ∷ (outside, OutOfRange) ∷ [])
    ≡ first_failed ((absent, OutOfRange) ∷ (live, IdInUse) ∷ (kind, BadBind) ∷ (wrong && bind, BadBind) ∷ (wrong, BadFormat) ∷ (bind, BadBind) ∷ (form, BadFormat) ∷ (outside, OutOfRange) ∷ [])
same_tests true live kind wrong bind form outside = refl
same_tests false true kind wrong bind form outside = refl
same_tests false false true wrong bind form outside = refl
same_tests false false false true true form outside = refl
same_tests false false false true false form outside = refl
same_tests false false false false true form outside = refl
same_tests false false false false false form outside = refl

pub view_order : (o : Objects) (s : Shape) (v : ViewShape) (view kind form components : ℕ) → buffer_of o v.res ≡ Some s
    → first_failed (view_checks o v view kind form components) ≡ first_failed (creation_checks o s v view kind form components)
view_order o s v view kind form components e =
    rw e (same_tests (not (is_id view)) (is_live_view o view) (nat_lt 1 kind) (is_wrong_form form components) (lacks_bind s v.writable) (lacks_form s v.form) (is_outside s v))

-- one, two or four words
words : (c : ℕ) (one two four : Bool) → (one ≡ true → c ≡ 1) → (two ≡ true → c ≡ 2) → (four ≡ true → c ≡ 4) → not (one || two || four) ≡ false
    → (4 * c ≡ 4) ⊎ (4 * c ≡ 8) ⊎ (4 * c ≡ 16)
words c true two four h1 h2 h4 e = rw (h1 refl) (inl refl)
words c false true four h1 h2 h4 e = rw (h2 refl) (inr (inl refl))
words c false false true h1 h2 h4 e = rw (h4 refl) (inr (inr refl))
words c false false false h1 h2 h4 e = absurd cc

first_fails : (a b : Bool) → a || b ≡ false → a ≡ false
first_fails true b e = e
first_fails false b e = refl

pub right_unit : (stride form components : ℕ) → is_wrong_form form components ≡ false → IsUnit (form_from form) stride (unit_of (form_from form) stride components)
right_unit stride zero components e = refl
right_unit stride (suc zero) components e = refl
right_unit stride (suc (suc zero)) components e =
    words components (components == 1) (components == 2) (components == 4) (eqb-true components 1) (eqb-true components 2) (eqb-true components 4) e
right_unit stride (suc (suc (suc n))) components e = absurd (omega (arith, ltb-false _ _ (first_fails (nat_lt 2 (suc (suc (suc n)))) _ e)))
