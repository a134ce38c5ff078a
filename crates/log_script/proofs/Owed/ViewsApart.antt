-- A buffer that is set for unordered access is set in no other view slot, on each context after each call.
use Rattle.std.proofs.Common.{◌≡◌, ℕ, zero, suc, Bool, true, false, List, [], ◌∷◌, replicate, Option, Some, None}
use Rattle.std.proofs.Common.{refl, sym}
use Rattle.std.specs.Prelude.{slice_set, if◌then◌else◌}
use Rattle.std.specs.List.{list_any, AllByRecursion}
use Rattle.call_log.specs.Call as calls
use Rattle.call_log.specs.Call.{Call, Issued}
use Rattle.base_lemmas.specs.Lists.{Pairwise}
use Rattle.d3d_model.specs.Binding.{Bindings, BoundView, default_bindings, is_beside, without, set_srv, set_uav}
use Rattle.d3d_model.specs.D3dState.{Objects, bound_view}
use Rattle.d3d_model.specs.Stream.{set_by}
use Rattle.d3d_model.specs.InOrder.{after_calls}
use Rattle.d3d_model.proofs.Named.{none_of}
use Rattle.d3d_model.proofs.Listed.{left_of}
use Rattle.log_script.specs.Fitting.{Distinct, ViewsApart}
use Rattle.log_script.proofs.Owed.StayingFit.{unequal, all_by, all_of, all_set, all_replicate}
use Rattle.log_script.proofs.Owed.ContextsHave.{EachHas, each_has}

-- ---- two slots

distinct_none : (t : Option BoundView) → Distinct t None
distinct_none None = tt
distinct_none (Some v) = tt

-- a slot that is not beside a view
beside_apart : (v u : Option BoundView) → is_beside v u ≡ false → Distinct u v
beside_apart v None e = tt
beside_apart None (Some x) e = tt
beside_apart (Some w) (Some x) e = unequal x.shape.res w.shape.res e

apart_beside : (v u : Option BoundView) → is_beside v u ≡ false → Distinct v u
apart_beside None u e = tt
apart_beside (Some w) None e = tt
apart_beside (Some w) (Some x) e = λ same. unequal x.shape.res w.shape.res e (sym same)

-- slots that are left empty are apart still
emptied_left : (c : Bool) (u s : Option BoundView) → Distinct u s → Distinct (if c then None else u) s
emptied_left true u s h = tt
emptied_left false u s h = h

emptied_right : (c : Bool) (u s : Option BoundView) → Distinct u s → Distinct u (if c then None else s)
emptied_right true u s h = distinct_none u
emptied_right false u s h = h

-- ---- lists of slots

none_beside : (v : Option BoundView) (us : List (Option BoundView)) → list_any (is_beside v) us ≡ false
    → AllByRecursion (λ u. is_beside v u ≡ false) us
none_beside v [] e = tt
none_beside v (u ∷ us) e = (
  left_of (is_beside v u) (list_any (is_beside v) us) e,
  none_beside v us (none_of (is_beside v u) (list_any (is_beside v) us) e),
)

-- the slots without those beside a view are apart from it, on both sides
without_apart : (v : Option BoundView) (ss : List (Option BoundView))
    → AllByRecursion (λ s. Distinct v s × Distinct s v) (without v ss)
without_apart v [] = tt
without_apart v (s ∷ ss) = (one (is_beside v s) refl, without_apart v ss)
  where
    one : (c : Bool) → is_beside v s ≡ c → Distinct v (if c then None else s) × Distinct (if c then None else s) v
    one true e = (distinct_none v, tt)
    one false e = (apart_beside v s e, beside_apart v s e)

without_right : (u v : Option BoundView) (ss : List (Option BoundView)) → AllByRecursion (Distinct u) ss
    → AllByRecursion (Distinct u) (without v ss)
without_right u v [] h = tt
without_right u v (s ∷ ss) h = (emptied_right (is_beside v s) u s h.0, without_right u v ss h.1)

-- and so in each row of several
without_rows : (v : Option BoundView) (us ss : List (Option BoundView))
    → AllByRecursion (λ u. AllByRecursion (Distinct u) ss) us
    → AllByRecursion (λ u. AllByRecursion (Distinct u) (without v ss)) (without v us)
without_rows v [] ss h = tt
without_rows v (u ∷ us) ss h = (
  all_by (Distinct u) (Distinct (if is_beside v u then None else u)) (λ s k. emptied_left (is_beside v u) u s k)
      (without v ss) (without_right u v ss h.0),
  without_rows v us ss h.1,
)

without_pairs : (v : Option BoundView) (us : List (Option BoundView)) → Pairwise Distinct us
    → Pairwise Distinct (without v us)
without_pairs v [] h = tt
without_pairs v (u ∷ us) h = (
  all_by (Distinct u) (Distinct (if is_beside v u then None else u)) (λ s k. emptied_left (is_beside v u) u s k)
      (without v us) (without_right u v us h.0),
  without_pairs v us h.1,
)

set_pairs : (us : List (Option BoundView)) (i : ℕ) (v : Option BoundView)
    → AllByRecursion (λ s. Distinct v s × Distinct s v) us → Pairwise Distinct us
    → Pairwise Distinct (slice_set us i v)
set_pairs [] i v a h = tt
set_pairs (u ∷ us) zero v a h = (all_by (λ s. Distinct v s × Distinct s v) (Distinct v) (λ s k. k.0) us a.1, h.1)
set_pairs (u ∷ us) (suc i) v a h = (all_set (Distinct u) us i v a.0.1 h.0, set_pairs us i v a.1 h.1)

-- ---- bindings

none_pairs : (n : ℕ) → Pairwise Distinct (replicate n None)
none_pairs zero = tt
none_pairs (suc n) = (all_of (Distinct None) (λ s. tt) (replicate n None), none_pairs n)

pub default_apart : ViewsApart default_bindings
default_apart = record {
  srvs = all_replicate (λ u. AllByRecursion (Distinct u) default_bindings.srvs) 8 None
      (all_of (Distinct None) (λ s. tt) default_bindings.srvs);
  uavs = none_pairs 8;
}

srv_apart : (b : Bindings) (slot : ℕ) (v : Option BoundView) → ViewsApart b → ViewsApart (set_srv b slot v)
srv_apart b slot v h = record { srvs = by (list_any (is_beside v) b.uavs) refl; uavs = h.uavs }
  where
    by : (c : Bool) → list_any (is_beside v) b.uavs ≡ c → AllByRecursion
        (λ u. AllByRecursion (Distinct u) (slice_set b.srvs slot (if c then None else v))) b.uavs
    by true e = all_by (λ u. AllByRecursion (Distinct u) b.srvs)
        (λ u. AllByRecursion (Distinct u) (slice_set b.srvs slot None))
        (λ u k. all_set (Distinct u) b.srvs slot None (distinct_none u) k) b.uavs h.srvs
    by false e = rows b.uavs (none_beside v b.uavs e) h.srvs
      where
        rows : (us : List (Option BoundView)) → AllByRecursion (λ u. is_beside v u ≡ false) us
            → AllByRecursion (λ u. AllByRecursion (Distinct u) b.srvs) us
            → AllByRecursion (λ u. AllByRecursion (Distinct u) (slice_set b.srvs slot v)) us
        rows [] n k = tt
        rows (u ∷ us) n k = (all_set (Distinct u) b.srvs slot v (beside_apart v u n.0) k.0, rows us n.1 k.1)

uav_apart : (b : Bindings) (slot : ℕ) (v : Option BoundView) → ViewsApart b → ViewsApart (set_uav b slot v)
uav_apart b slot v h = record {
  srvs = all_set (λ u. AllByRecursion (Distinct u) (without v b.srvs)) (without v b.uavs) slot v
      (all_by (λ s. Distinct v s × Distinct s v) (Distinct v) (λ s k. k.0) (without v b.srvs)
      (without_apart v b.srvs)) (without_rows v b.uavs b.srvs h.srvs);
  uavs = set_pairs (without v b.uavs) slot v (without_apart v b.uavs) (without_pairs v b.uavs h.uavs);
}

pub set_apart : (o : Objects) (b : Bindings) (c : Call) → ViewsApart b → ViewsApart (set_by o b c)
set_apart o b (calls.SetShader id) h = record { srvs = h.srvs; uavs = h.uavs }
set_apart o b (calls.SetConstant slot res) h = record { srvs = h.srvs; uavs = h.uavs }
set_apart o b (calls.SetSrv slot view) h = srv_apart b slot (bound_view o view) h
set_apart o b (calls.SetUav slot view) h = uav_apart b slot (bound_view o view) h
set_apart o b calls.ClearState h = default_apart
set_apart o b (calls.SetPredication kind id offset value) h = record { srvs = h.srvs; uavs = h.uavs }
set_apart o b _ h = h

-- after each call, on each context
pub all_apart : (log : List Issued) (n : ℕ) → EachHas ViewsApart (after_calls log n).objects.contexts
all_apart log n = each_has ViewsApart default_apart set_apart log n
