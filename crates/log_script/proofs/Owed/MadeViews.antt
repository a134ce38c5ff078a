-- What holds of each view that is created holds of each that lives.
use Rattle.std.proofs.Common.{◌≡◌, ℕ, zero, suc, true, false, List, Option, Some, None, refl, sym, subst}
use Rattle.std.specs.Prelude.{◌==◌, slice_get, if◌then◌else◌}
use Rattle.dx_types.specs.declared.refusal.Refusal.{Refusal}
use Rattle.dx_types.specs.declared.shape.Shape.{Shape}
use Rattle.dx_types.specs.declared.shape.ViewShape.{ViewShape}
use Rattle.call_log.specs.Call as calls
use Rattle.call_log.specs.Call.{Call, Issued}
use Rattle.base_lemmas.specs.IdMap.{IdMap}
use Rattle.d3d_model.specs.D3dState.{Objects, calls_of_list}
use Rattle.d3d_model.specs.Past.{Past}
use Rattle.d3d_model.specs.Verdict.{call_checks, described}
use Rattle.d3d_model.specs.Effect.{played, recorded_on, list_start, objects_after}
use Rattle.d3d_model.specs.InOrder.{State, unless_refused, verdict_in, after_call, after_calls}
use Rattle.d3d_model.proofs.Checked.{Passed}
use Rattle.d3d_model.proofs.Listed.{own_checks}
use Rattle.d3d_model.proofs.Unchanged.{same_views_all}
use Rattle.log_script.proofs.Owed.Entries.{AllIn, all_empty, all_insert}
use Rattle.log_script.proofs.Owed.MadeBuffers.{AllLive, AtCreation, all_live}
use Rattle.log_script.proofs.Owed.FilledViews.{kept_if}

-- a view that passes its checks, over buffers that have their property, has the property
abbrev pub AtViewing : (ℕ → Shape → Type 0) → (ViewShape → Type 0) → Type 0
AtViewing Q P = (o : Objects) (past : Past) (x view res kind form components first count : ℕ)
    → Passed (call_checks o past x (calls.View view res kind form components first count))
    → AllLive Q o.buffers → P (described o res kind form components first count)

abbrev pub EachView : (ViewShape → Type 0) → IdMap ViewShape → Type 0
EachView P views = AllIn (λ id v. P v) views

on_each : (P : ViewShape → Type 0) (n : ℕ) (o : Objects) (x : ℕ) (c : Call) → EachView P o.views
    → EachView P (if x == 0 then played n o c else recorded_on n o x c).views
on_each P n o x c h = elim (x == 0) as (λ b. EachView P (if b then played n o c else recorded_on n o x c).views)
    [ true ↦ h | false ↦ h ]

after_one : (Q : ℕ → Shape → Type 0) (P : ViewShape → Type 0) (n : ℕ) (o : Objects) (past : Past) (x : ℕ) (c : Call)
    → AtViewing Q P → Passed (call_checks o past x c) → AllLive Q o.buffers → EachView P o.views
    → EachView P (objects_after n o x c).views
after_one Q P n o past x (calls.View view res kind form components first count) at p q h =
    all_insert (λ id v. P v) o.views view (described o res kind form components first count)
    (at o past x view res kind form components first count p q) h
after_one Q P n o past x (calls.Destroy class id) at p q h =
    λ k v e. h k v (kept_if (class == 1) (class == 2) (class == 3) (class == 4) o id k v e)
after_one Q P n o past x (calls.Buffer id size usage bind misc stride bytes) at p q h = h
after_one Q P n o past x (calls.CreateShader id words) at p q h = h
after_one Q P n o past x (calls.Query id sort) at p q h = h
after_one Q P n o past x (calls.MapRead res flag offset len) at p q h = h
after_one Q P n o past x (calls.GetData query flag) at p q h = h
after_one Q P n o past x calls.Flush at p q h = h
after_one Q P n o past x (calls.ExecuteList list flag) at p q h =
    subst (λ (m : IdMap ViewShape). EachView P m) (sym (same_views_all n (list_start o) (calls_of_list o list))) h
after_one Q P n o past x (calls.FinishList list) at p q h = h
after_one Q P n o past x c at p q h = on_each P n o x c h

pub each_view : (Q : ℕ → Shape → Type 0) (P : ViewShape → Type 0) → AtCreation Q → AtViewing Q P
    → (log : List Issued) (n : ℕ) → EachView P (after_calls log n).objects.views
unfolding after_calls
each_view Q P made at log zero = all_empty (λ id v. P v)
each_view Q P made at log (suc n) = by_call (suc n) (after_calls log n) (slice_get log n) (all_live Q made log n)
    (each_view Q P made at log n)
  where
    unless : (n : ℕ) (s : State) (i : Issued) (v : Option Refusal) → verdict_in s i ≡ v
        → AllLive Q s.objects.buffers → EachView P s.objects.views → EachView P (unless_refused n s i v).objects.views
    unless n s i (Some why) e q h = h
    unless n s i None e q h = after_one Q P n s.objects s.past i.context i.call at
        (own_checks s.objects s.past i.context i.call e) q h

    by_call : (n : ℕ) (s : State) (o : Option Issued) → AllLive Q s.objects.buffers → EachView P s.objects.views
        → EachView P (after_call n s o).objects.views
    by_call n s None q h = h
    by_call n s (Some i) q h = unless n s i (verdict_in s i) refl q h
