-- The elements of each live view are whole words.
use Rattle.std.proofs.Common.{◌≡◌, ℕ, zero, suc, ◌*◌, ◌≤◌, Bool, true, false, not, ◌||◌, List, Option, Some, refl}
use Rattle.std.proofs.Common.{sym, ap, subst, arith, inl, inr}
use Rattle.std.specs.Prelude.{◌==◌, ◌%◌, nat_lt, if◌then◌else◌}
use Rattle.std.proofs.lemmas.Bool.{or_cases, ltb-false, eqb-true, eqb-false}
use Rattle.dx_types.specs.declared.shape.Shape.{Shape}
use Rattle.call_log.specs.Call.{Issued}
use Rattle.d3d_model.specs.Check.{has}
use Rattle.d3d_model.specs.View.{form_from, unit_of, lacks_form, is_outside}
use Rattle.d3d_model.specs.D3dState.{buffer_of}
use Rattle.d3d_model.specs.Verdict.{bad_stride, stride_of, described, bad_components, is_live_buffer}
use Rattle.d3d_model.specs.InOrder.{after_calls}
use Rattle.d3d_model.proofs.Named.{none_of}
use Rattle.d3d_model.proofs.Listed.{left_of}
use Rattle.log_script.specs.Standing.{WholeUnit, ViewWhole}
use Rattle.log_script.proofs.Owed.MadeBuffers.{AtCreation, one_live, not_false}
use Rattle.log_script.proofs.Owed.MadeViews.{AtViewing, EachView, each_view}
use Rattle.log_script.proofs.Owed.FilledViews.{tested, or_tested}

-- ---- the structures of a live buffer are whole words

abbrev OfWords : ℕ → Type 0
OfWords stride = (stride % 4 ≡ 0) × (4 ≤ stride)

abbrev Strided : ℕ → Shape → Type 0
Strided id s = has s.misc 2 ≡ true → OfWords s.stride

of_words : (size stride : ℕ) (structured others : Bool) → (if structured then bad_stride size stride else others)
    ≡ false → structured ≡ true → OfWords stride
of_words size stride true others e h =
    let short : not (stride % 4 == 0) || nat_lt stride 4 ≡ false = left_of _ _ (left_of _ _ e) in (
      eqb-true (stride % 4) 0 (not_false (stride % 4 == 0) (left_of _ _ short)),
      omega (arith, ltb-false stride 4 (none_of _ (nat_lt stride 4) short)),
    )
of_words size stride false others e h = absurd cc

strided : AtCreation Strided
strided o id size usage bind misc stride bytes p = λ e. of_words size stride (has misc 2) _ p.1.1.1.1.1.1.0 e

-- ---- a view that is made

typed_unit : (components : ℕ) → bad_components 2 components ≡ false → WholeUnit (form_from 2) (4 * components)
typed_unit components e = elim (or_cases _ (components == 4) (not_false _ e)) [
  | inl f ↦ elim (or_cases (components == 1) (components == 2) f) [
    | inl g ↦ inl (ap (λ (k : ℕ). 4 * k) (eqb-true components 1 g))
    | inr g ↦ inr (inl (ap (λ (k : ℕ). 4 * k) (eqb-true components 2 g)))
  ]
  | inr f ↦ inr (inr (ap (λ (k : ℕ). 4 * k) (eqb-true components 4 f)))
]

whole_unit : (buffer : Option Shape) (form components : ℕ) (s : Shape) (res : ℕ) → buffer ≡ Some s → Strided res s
    → nat_lt 2 form || bad_components form components || lacks_form s (form_from form) ≡ false
    → WholeUnit (form_from form) (unit_of (form_from form) (stride_of buffer) components)
whole_unit buffer zero components s res e m h = refl
whole_unit buffer (suc zero) components s res e m h = subst (λ (k : ℕ). OfWords k) (sym (ap stride_of e))
    (m (not_false _ (none_of _ _ h)))
whole_unit buffer (suc (suc zero)) components s res e m h = typed_unit components
    (none_of (nat_lt 2 2) (bad_components 2 components) (left_of _ _ h))
whole_unit buffer (suc (suc (suc k))) components s res e m h =
    absurd (omega (arith, ltb-false 2 (suc (suc (suc k))) (left_of _ _ (left_of _ _ h))))

whole_made : AtViewing Strided ViewWhole
whole_made o past x view res kind form components first count p h =
    let v = described o res kind form components first count in
    let one = one_live Strided o.buffers res h (not_false (is_live_buffer o res) p.1.0) in
    record {
      some = omega (
        arith,
        eqb-false count 0
            (left_of (count == 0) _ (tested (buffer_of o res) one.0 (λ s. is_outside s v) false one.1 p.1.1.1.1.1.0)),
      );
      words = whole_unit (buffer_of o res) form components one.0 res one.1 one.2
          (or_tested (buffer_of o res) one.0 (λ s. lacks_form s (form_from form))
          (nat_lt 2 form || bad_components form components) one.1 p.1.1.1.1.0);
    }

pub whole_views : (log : List Issued) (n : ℕ) → EachView ViewWhole (after_calls log n).objects.views
whole_views log n = each_view Strided ViewWhole strided whole_made log n
