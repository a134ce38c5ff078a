-- Each live view has a byte.
use Rattle.std.proofs.Common.{◌≡◌, ℕ, zero, suc, ◌+◌, ◌*◌, ◌<◌, Bool, true, false, ◌||◌, List, Option, Some, None}
use Rattle.std.proofs.Common.{refl, sym, ap, ◌∙◌, subst, arith}
use Rattle.std.specs.Prelude.{◌==◌, nat_lt, slice_get, if◌then◌else◌}
use Rattle.std.proofs.lemmas.Bool.{ltb-false, eqb-false}
use Rattle.std.proofs.lemmas.Nat.{mul-add-lt}
use Rattle.dx_types.specs.declared.refusal.Refusal.{Refusal}
use Rattle.dx_types.specs.declared.shape.Shape.{Shape}
use Rattle.dx_types.specs.declared.shape.ViewShape.{ViewShape}
use Rattle.call_log.specs.Call as calls
use Rattle.call_log.specs.Call.{Call, Issued}
use Rattle.base_lemmas.specs.IdMap.{IdMap, get, remove}
use Rattle.d3d_model.specs.Resource.{is_one}
use Rattle.d3d_model.specs.View.{form_from, unit_of, lacks_form, is_outside, view_end}
use Rattle.d3d_model.specs.D3dState.{Objects, buffer_of, calls_of_list}
use Rattle.d3d_model.specs.Past.{Past}
use Rattle.d3d_model.specs.Verdict.{call_checks, stride_of, described, bad_components, is_live_buffer}
use Rattle.d3d_model.specs.Effect.{played, recorded_on, list_start, objects_after}
use Rattle.d3d_model.specs.InOrder.{State, unless_refused, verdict_in, after_call, after_calls}
use Rattle.d3d_model.proofs.Checked.{Passed}
use Rattle.d3d_model.proofs.Named.{none_of}
use Rattle.d3d_model.proofs.Listed.{own_checks, left_of, one_removed}
use Rattle.d3d_model.proofs.Unchanged.{same_views_all}
use Rattle.log_script.proofs.Owed.Entries.{AllIn, all_empty, all_insert}
use Rattle.log_script.proofs.Owed.MadeBuffers.{AllLive, Made, live_made, one_live, not_false}

-- a view of an element or more, of a byte or more each
pub record HasByte (v : ViewShape) : Type 0 where
  pub count : 0 < v.count
  pub unit : 0 < v.unit

abbrev pub AllViews : IdMap ViewShape → Type 0
AllViews views = AllIn (λ id v. HasByte v) views

pub view_filled : (v : ViewShape) → HasByte v → v.first * v.unit < view_end v
view_filled v h = omega (arith, mul-add-lt v.first v.unit 0 (v.first + v.count) (omega (arith, h.count)) h.unit)

-- ---- a view that is made

some_components : (components : ℕ) → bad_components 2 components ≡ false → 0 < 4 * components
some_components zero e = absurd cc
some_components (suc k) e = omega arith

has_unit : (buffer : Option Shape) (form components : ℕ) (s : Shape) (res : ℕ) → buffer ≡ Some s → Made res s
    → nat_lt 2 form || bad_components form components || lacks_form s (form_from form) ≡ false
    → 0 < unit_of (form_from form) (stride_of buffer) components
has_unit buffer zero components s res e m h = omega arith
has_unit buffer (suc zero) components s res e m h = omega (
  arith,
  ap stride_of e,
  m.stride (not_false _ (none_of _ _ h)),
)
has_unit buffer (suc (suc zero)) components s res e m h = some_components components
    (none_of (nat_lt 2 2) (bad_components 2 components) (left_of _ _ h))
has_unit buffer (suc (suc (suc k))) components s res e m h =
    absurd (omega (arith, ltb-false 2 (suc (suc (suc k))) (left_of _ _ (left_of _ _ h))))

-- what is tested of a live buffer
pub tested : (o : Option Shape) (s : Shape) (test : Shape → Bool) (b : Bool) → o ≡ Some s → is_one o test ≡ b
    → test s ≡ b
tested o s test b e h = sym (ap (λ (q : Option Shape). is_one q test) e) ∙ h

pub or_tested : (o : Option Shape) (s : Shape) (test : Shape → Bool) (a : Bool) → o ≡ Some s
    → a || is_one o test ≡ false → a || test s ≡ false
or_tested o s test a e h = sym (ap (λ (q : Option Shape). a || is_one q test) e) ∙ h

view_made : (o : Objects) (past : Past) (x view res kind form components first count : ℕ)
    → Passed (call_checks o past x (calls.View view res kind form components first count)) → AllLive Made o.buffers
    → HasByte (described o res kind form components first count)
view_made o past x view res kind form components first count p h =
    let v = described o res kind form components first count in
    let one = one_live Made o.buffers res h (not_false (is_live_buffer o res) p.1.0) in
    record {
      count = omega (
        arith,
        eqb-false count 0
            (left_of (count == 0) _ (tested (buffer_of o res) one.0 (λ s. is_outside s v) false one.1 p.1.1.1.1.1.0)),
      );
      unit = has_unit (buffer_of o res) form components one.0 res one.1 one.2
          (or_tested (buffer_of o res) one.0 (λ s. lacks_form s (form_from form))
          (nat_lt 2 form || bad_components form components) one.1 p.1.1.1.1.0);
    }

pub kept_if : (t1 t2 t3 t4 : Bool) (o : Objects) (i q : ℕ) (v : ViewShape)
    → get (if t1 then record o { buffers = remove o.buffers i } else if t2 then record o {
      views =
          remove o.views i;
    } else if t3 then record o { shaders = remove o.shaders i } else if t4 then record o
    { queries = remove o.queries i } else record o { lists = remove o.lists i }).views q ≡ Some v
    → get o.views q ≡ Some v
kept_if true t2 t3 t4 o i q v e = e
kept_if false true t3 t4 o i q v e = one_removed o.views i q v e
kept_if false false true t4 o i q v e = e
kept_if false false false true o i q v e = e
kept_if false false false false o i q v e = e

on_each : (n : ℕ) (o : Objects) (x : ℕ) (c : Call) → AllViews o.views
    → AllViews (if x == 0 then played n o c else recorded_on n o x c).views
on_each n o x c h = elim (x == 0) as (λ b. AllViews (if b then played n o c else recorded_on n o x c).views)
    [ true ↦ h | false ↦ h ]

after_one : (n : ℕ) (o : Objects) (past : Past) (x : ℕ) (c : Call) → Passed (call_checks o past x c)
    → AllLive Made o.buffers → AllViews o.views → AllViews (objects_after n o x c).views
after_one n o past x (calls.View view res kind form components first count) p made h =
    all_insert (λ id v. HasByte v) o.views view _ (view_made o past x view res kind form components first count p
    made) h
after_one n o past x (calls.Destroy class id) p made h = λ q v e. h q v
    (kept_if (class == 1) (class == 2) (class == 3) (class == 4) o id q v e)
after_one n o past x (calls.Buffer id size usage bind misc stride bytes) p made h = h
after_one n o past x (calls.CreateShader id words) p made h = h
after_one n o past x (calls.Query id sort) p made h = h
after_one n o past x (calls.MapRead res flag offset len) p made h = h
after_one n o past x (calls.GetData query flag) p made h = h
after_one n o past x calls.Flush p made h = h
after_one n o past x (calls.ExecuteList list flag) p made h =
    subst (λ (m : IdMap ViewShape). AllViews m) (sym (same_views_all n (list_start o) (calls_of_list o list))) h
after_one n o past x (calls.FinishList list) p made h = h
after_one n o past x c p made h = on_each n o x c h

pub all_views : (log : List Issued) (n : ℕ) → AllViews (after_calls log n).objects.views
unfolding after_calls
all_views log zero = all_empty (λ id v. HasByte v)
all_views log (suc n) = by_call (suc n) (after_calls log n) (slice_get log n) (live_made log n) (all_views log n)
  where
    unless : (n : ℕ) (s : State) (i : Issued) (v : Option Refusal) → verdict_in s i ≡ v
        → AllLive Made s.objects.buffers → AllViews s.objects.views → AllViews (unless_refused n s i v).objects.views
    unless n s i (Some why) e made h = h
    unless n s i None e made h = after_one n s.objects s.past i.context i.call
        (own_checks s.objects s.past i.context i.call e) made h

    by_call : (n : ℕ) (s : State) (o : Option Issued) → AllLive Made s.objects.buffers → AllViews s.objects.views
        → AllViews (after_call n s o).objects.views
    by_call n s None made h = h
    by_call n s (Some i) made h = unless n s i (verdict_in s i) refl made h
