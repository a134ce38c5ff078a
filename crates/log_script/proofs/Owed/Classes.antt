-- A dynamic buffer has a class that holds it, since its creation was accepted, and a staging buffer has none.
use Rattle.std.proofs.Common.{◌≡◌, ℕ, ◌<◌, ◌≤◌, Bool, true, false, ◌&&◌, List, Option, Some, None, refl, ◌∙◌, arith}
use Rattle.std.specs.Prelude.{◌==◌, nat_le, nat_lt, if◌then◌else◌}
use Rattle.std.proofs.lemmas.Bool.{leb-true, ltb-false}
use Rattle.dx_types.specs.declared.shape.Shape.{Shape}
use Rattle.dx_types.specs.declared.shape.Usage.{Usage}
use Rattle.dx_types.specs.declared.shape.Usage.TheVariants.{Default, Immutable, Dynamic, Staging}
use Rattle.dx_types.specs.declared.refusal.Refusal.{Refusal}
use Rattle.dx_types.specs.Classes.{class_length}
use Rattle.call_log.specs.Call as calls
use Rattle.call_log.specs.Call.{Call, Issued}
use Rattle.d3d_model.specs.Resource.{usage_from, is_dynamic, is_staging, class_of, size_of, is_one}
use Rattle.d3d_model.specs.InOrder.{State, verdict_in, before_call, call_at}
use Rattle.d3d_model.proofs.Limits.{dynamic_usage}
use Rattle.d3d_model.proofs.Named.{none_of}
use Rattle.d3d_model.proofs.Listed.{left_of, own_checks}
use Rattle.core_model.specs.Script.{Script}
use Rattle.core_model.specs.Lawful.{ClassFits}
use Rattle.log_script.specs.LogScript.{shape_unless, shape_in, shape_made, class_if, script_of}

-- ---- the least class that holds so many bytes

abbrev Holds : ℕ → ℕ → Type 0
Holds size class = (class < 8) × (size ≤ class_length class)

choose : (b : Bool) (size class others : ℕ) → (b ≡ true → Holds size class) → (b ≡ false → Holds size others)
    → Holds size (if b then class else others)
choose true size class others h k = h refl
choose false size class others h k = k refl

least_holds : (size : ℕ) → size ≤ 4194304 → Holds size (class_of size)
least_holds size small =
    choose (nat_le size 256) size 0 _ (λ e. (omega arith, omega (arith, leb-true size 256 e))) (λ e.
    choose (nat_le size 1024) size 1 _ (λ e. (omega arith, omega (arith, leb-true size 1024 e))) (λ e.
    choose (nat_le size 4096) size 2 _ (λ e. (omega arith, omega (arith, leb-true size 4096 e))) (λ e.
    choose (nat_le size 16384) size 3 _ (λ e. (omega arith, omega (arith, leb-true size 16384 e))) (λ e.
    choose (nat_le size 65536) size 4 _ (λ e. (omega arith, omega (arith, leb-true size 65536 e))) (λ e.
    choose (nat_le size 262144) size 5 _ (λ e. (omega arith, omega (arith, leb-true size 262144 e))) (λ e.
    choose (nat_le size 1048576) size 6 7 (λ e. (omega arith, omega (arith, leb-true size 1048576 e)))
    (λ e. (omega arith, omega (arith, small)))))))))

-- ---- what an accepted creation made

-- a dynamic buffer is in the limit
abbrev Small : Option Shape → Type 0
Small None = Unit {0}
Small (Some s) = is_dynamic s.usage ≡ true → s.size ≤ 4194304

within_limit : (size usage : ℕ) → (usage == 2) && nat_lt 4194304 size ≡ false → is_dynamic (usage_from usage) ≡ true
    → size ≤ 4194304
within_limit size usage passed dynamic = by_test (usage == 2) (nat_lt 4194304 size) (dynamic_usage usage dynamic)
    passed refl
  where
    by_test : (two large : Bool) → two ≡ true → two && large ≡ false → nat_lt 4194304 size ≡ large → size ≤ 4194304
    by_test true large t e l = omega (arith, ltb-false 4194304 size (l ∙ e))
    by_test false large t e l = absurd cc

small_made : (s : State) (o : Option Issued) → Small (shape_in s o)
small_made s None = tt
small_made s (Some i) = unless i.call (verdict_in s i) refl
  where
    unless : (c : Call) (v : Option Refusal) → verdict_in s (record { context = i.context; call = c }) ≡ v
        → Small (shape_unless c v)
    unless c (Some why) e = tt
    unless (calls.Buffer id size usage bind misc stride bytes) None e =
        within_limit size usage
        (none_of _ _ (own_checks s.objects s.past i.context (calls.Buffer id size usage bind misc stride bytes)
        e).1.1.1.0)
    unless _ None e = tt

-- ---- classes

fits_by : (script : Script) (buffer : ℕ) (o : Option Shape) → script.size buffer ≡ size_of o → Small o
    → ClassFits script buffer (class_if o)
fits_by script buffer None is h = tt
fits_by script buffer (Some s) is h = elim (is_dynamic s.usage) as (λ b. is_dynamic s.usage ≡ b
    → ClassFits script buffer (if b then Some (class_of s.size) else None)) [
      | true ↦ λ e. let held : Holds s.size (class_of s.size) = least_holds s.size (h e) in
          (held.0, omega (arith, held.1, is))
      | false ↦ λ e. tt
    ] refl

pub fits : (log : List Issued) (buffer : ℕ) → ClassFits (script_of log) buffer ((script_of log).class buffer)
fits log buffer = fits_by (script_of log) buffer (shape_made log buffer) refl
    (small_made (before_call log buffer) (call_at log buffer))

no_class : (u : Usage) (class : ℕ) → is_staging u ≡ true → (if is_dynamic u then Some class else None) ≡ None
no_class Default class e = refl
no_class Immutable class e = refl
no_class Dynamic class e = absurd cc
no_class Staging class e = refl

none_by : (o : Option Shape) → is_one o (λ s. is_staging s.usage) ≡ true → class_if o ≡ None
none_by None e = refl
none_by (Some s) e = no_class s.usage (class_of s.size) e

pub none : (log : List Issued) (buffer : ℕ) → (script_of log).is_staging buffer ≡ true
    → (script_of log).class buffer ≡ None
none log buffer e = none_by (shape_made log buffer) e

-- ---- sizes

-- no buffer is longer than one may be
abbrev InLimit : Option Shape → Type 0
InLimit o = size_of o ≤ 16777216

limit_made : (s : State) (o : Option Issued) → InLimit (shape_in s o)
limit_made s None = omega arith
limit_made s (Some i) = unless i.call (verdict_in s i) refl
  where
    unless : (c : Call) (v : Option Refusal) → verdict_in s (record { context = i.context; call = c }) ≡ v
        → InLimit (shape_unless c v)
    unless c (Some why) e = omega arith
    unless (calls.Buffer id size usage bind misc stride bytes) None e =
        let bad = (own_checks s.objects s.past i.context (calls.Buffer id size usage bind misc stride bytes)
        e).1.1.1.0 in
        ltb-false 16777216 size (none_of _ (nat_lt 16777216 size) (left_of _ _ bad))
    unless _ None e = omega arith

pub in_limit : (log : List Issued) (buffer : ℕ) → (script_of log).size buffer ≤ 16777216
in_limit log buffer = limit_made (before_call log buffer) (call_at log buffer)
