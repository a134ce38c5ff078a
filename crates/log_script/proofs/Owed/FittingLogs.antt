-- After each call of a log the state fits, and so does what each call binds, by itself or through its list.
use Rattle.std.proofs.Common.{◌≡◌, ℕ, zero, suc, true, false, List, [], ◌∷◌, ◌++◌, map, Option, Some, None, refl}
use Rattle.std.specs.Prelude.{◌==◌, slice_get, if◌then◌else◌}
use Rattle.std.specs.List.{cons_option, filter_map}
use Rattle.dx_types.specs.declared.refusal.Refusal.{Refusal}
use Rattle.dx_types.specs.declared.shape.Shape.{Shape}
use Rattle.dx_types.specs.declared.shape.ViewShape.{ViewShape}
use Rattle.dx_types.specs.declared.range.ResRange.{ResRange}
use Rattle.call_log.specs.Call as calls
use Rattle.call_log.specs.Call.{Call, Issued}
use Rattle.base_lemmas.specs.IdMap.{empty, get}
use Rattle.d3d_model.specs.Binding.{Bindings, default_bindings}
use Rattle.d3d_model.specs.D3dState.{Objects, Numbered, default_context, no_objects, bindings_of, calls_of_list}
use Rattle.d3d_model.specs.Past.{Past, Deed, Discards, Binds}
use Rattle.d3d_model.specs.Stream.{set_by, binds, discarded_by, deeds, makings, deeds_from}
use Rattle.d3d_model.specs.Verdict.{Place, OnDevice, OnImmediate, OnEach, OnDeferred, place_of, call_checks}
use Rattle.d3d_model.specs.Effect.{played, recorded_on, objects_after, immediate_deeds, deeds_at}
use Rattle.d3d_model.specs.InOrder.{State, unless_refused, verdict_in, after_call, after_calls, before_call}
use Rattle.d3d_model.specs.Uses.{range_bound, bound_unless, bound_by, bound}
use Rattle.base_lemmas.proofs.Maps.{get-empty}
use Rattle.d3d_model.proofs.Checked.{Passed}
use Rattle.d3d_model.proofs.Listed.{own_checks}
use Rattle.log_script.specs.Fitting.{SetFits, ListFits}
use Rattle.log_script.proofs.Owed.StayingFit.{all_replicate, RangesFit, OwnFits, OwnsFit}
use Rattle.log_script.proofs.Owed.FittingCalls.{own_fits, default_fits, set_by_fits, binds_fit}
use Rattle.log_script.proofs.Owed.FittingStates.{ContextFits, StateFits, default_context_fits, context_fits}
use Rattle.log_script.proofs.Owed.FittingStates.{listed_fits, fits_played, fits_recorded, fits_executed}
use Rattle.log_script.proofs.Owed.FittingStates.{fits_finished}
use Rattle.log_script.proofs.Owed.FittingObjects.{fits_created_buffer, fits_created_view, fits_created_shader}
use Rattle.log_script.proofs.Owed.FittingObjects.{fits_created_query, fits_destroyed}

-- ---- all calls

fits_each : (n : ℕ) (o : Objects) (x : ℕ) (c : Call) → OwnFits o c → StateFits o
    → StateFits (if x == 0 then played n o c else recorded_on n o x c)
fits_each n o x c own h = elim (x == 0) as (λ b. StateFits (if b then played n o c else recorded_on n o x c))
    [ true ↦ fits_played n o c own h | false ↦ fits_recorded n o x c own h ]

fits_after : (n : ℕ) (o : Objects) (past : Past) (x : ℕ) (c : Call) → Passed (call_checks o past x c) → StateFits o
    → StateFits (objects_after n o x c)
fits_after n o past x (calls.Buffer id size usage bind misc stride bytes) p h =
    fits_created_buffer n o id size usage bind misc stride bytes p h
fits_after n o past x (calls.View view res kind form components first count) p h =
    fits_created_view n o view res kind form components first count p h
fits_after n o past x (calls.CreateShader id words) p h = fits_created_shader n o id words h
fits_after n o past x (calls.Query id sort) p h = fits_created_query n o id sort h
fits_after n o past x (calls.Destroy class id) p h = fits_destroyed o class id p h
fits_after n o past x (calls.MapRead res flag offset len) p h = h
fits_after n o past x (calls.GetData query flag) p h = h
fits_after n o past x calls.Flush p h = h
fits_after n o past x (calls.ExecuteList list flag) p h = fits_executed n o list flag h
fits_after n o past x (calls.FinishList list) p h = fits_finished o x list h
fits_after n o past x c p h = fits_each n o x c (own_fits o past x c h.buffers p) h

pub found_none : {X : Type 0} {A : Type 0} (o : Option X) (x : X) → o ≡ None → o ≡ Some x → A
found_none o x e f = absurd cc

pub state_fits : (log : List Issued) (n : ℕ) → StateFits (after_calls log n).objects
unfolding after_calls
state_fits log zero = record {
  buffers = λ id s e. found_none (get (empty {X = Shape}) id) s (get-empty Shape id) e;
  views = λ id v e. found_none (get (empty {X = ViewShape}) id) v (get-empty ViewShape id) e;
  contexts = all_replicate (ContextFits no_objects) 17 default_context (default_context_fits no_objects);
  lists = λ l cs e. found_none (get (empty {X = List Numbered}) l) cs (get-empty (List Numbered) l) e;
}
state_fits log (suc n) = after_one (suc n) (after_calls log n) (slice_get log n) (state_fits log n)
  where
    unless : (n : ℕ) (s : State) (i : Issued) (v : Option Refusal) → verdict_in s i ≡ v → StateFits s.objects
        → StateFits (unless_refused n s i v).objects
    unless n s i (Some why) e h = h
    unless n s i None e h = fits_after n s.objects s.past i.context i.call
        (own_checks s.objects s.past i.context i.call e) h

    after_one : (n : ℕ) (s : State) (o : Option Issued) → StateFits s.objects → StateFits (after_call n s o).objects
    after_one n s None h = h
    after_one n s (Some i) h = unless n s i (verdict_in s i) refl h

-- ---- lists

pub list_fits : (o : Objects) (b : Bindings) (cs : List Numbered) → StateFits o → SetFits o b → OwnsFit o cs
    → ListFits o b cs
list_fits o b [] h set own = tt
list_fits o b (c ∷ cs) h set own = (
  record { binds = binds_fit o b c.call h.views own.0 set; set = set },
  list_fits o (set_by o b c.call) cs h (set_by_fits o b c.call h.views own.0 set) own.1,
)

-- ---- what a call binds

ranges_append : (o : Objects) (ds es : List Deed) → RangesFit o (filter_map range_bound ds)
    → RangesFit o (filter_map range_bound es) → RangesFit o (filter_map range_bound (ds ++ es))
ranges_append o [] es f g = g
ranges_append o (d ∷ ds) es f g = by_range (range_bound d) (filter_map range_bound ds)
    (filter_map range_bound (ds ++ es)) (λ k. ranges_append o ds es k g) f
  where
    by_range : (r : Option ResRange) (rs ss : List ResRange) → (RangesFit o rs → RangesFit o ss)
        → RangesFit o (cons_option r rs) → RangesFit o (cons_option r ss)
    by_range None rs ss more h = more h
    by_range (Some r) rs ss more h = (h.0, more h.1)

ranges_bound : (o : Objects) (rs : List ResRange) → RangesFit o rs → RangesFit o (filter_map range_bound (map Binds rs))
ranges_bound o [] h = tt
ranges_bound o (r ∷ rs) h = (h.0, ranges_bound o rs h.1)

discards_bind_none : (o : Objects) (c : Call) → RangesFit o (filter_map range_bound (discarded_by c))
discards_bind_none o (calls.MapWrite res mode offset bytes) =
    elim (mode == 0) as (λ b. RangesFit o (filter_map range_bound (if b then Discards res ∷ [] else [])))
    [ true ↦ tt | false ↦ tt ]
discards_bind_none o _ = tt

deeds_fit : (o : Objects) (b : Bindings) (c : Call) → RangesFit o (binds o b c)
    → RangesFit o (filter_map range_bound (deeds o b c))
deeds_fit o b c h = ranges_append o (discarded_by c) (map Binds (binds o b c)) (discards_bind_none o c)
    (ranges_bound o (binds o b c) h)

deeds_from_fit : (o : Objects) (b : Bindings) (cs : List Numbered) → ListFits o b cs
    → RangesFit o (filter_map range_bound (deeds_from o b cs))
deeds_from_fit o b [] h = tt
deeds_from_fit o b (c ∷ cs) h = ranges_append o (deeds o b c.call) (deeds_from o (set_by o b c.call) cs)
    (deeds_fit o b c.call h.0.binds) (deeds_from_fit o (set_by o b c.call) cs h.1)

makings_bind_none : (o : Objects) (c : Call) → RangesFit o (filter_map range_bound (makings c))
makings_bind_none o (calls.Buffer id size usage bind misc stride bytes) = tt
makings_bind_none o _ = tt

immediate_fits : (o : Objects) (c : Call) → StateFits o → RangesFit o (filter_map range_bound (immediate_deeds o c))
immediate_fits o (calls.ExecuteList list flag) h = deeds_from_fit o default_bindings (calls_of_list o list)
    (list_fits o default_bindings (calls_of_list o list) h (default_fits o) (listed_fits o list h))
immediate_fits o _ h = tt

each_fits : (o : Objects) (x : ℕ) (c : Call) → OwnFits o c → StateFits o
    → RangesFit o (filter_map range_bound (if x == 0 then deeds o (bindings_of o 0) c else []))
each_fits o x c own h =
    elim (x == 0) as (λ b. RangesFit o (filter_map range_bound (if b then deeds o (bindings_of o 0) c else []))) [
      | true ↦ deeds_fit o (bindings_of o 0) c (binds_fit o (bindings_of o 0) c h.views own (context_fits o 0 h).set)
      | false ↦ tt
    ]

deeds_at_fit : (p : Place) (o : Objects) (x : ℕ) (c : Call) → OwnFits o c → StateFits o
    → RangesFit o (filter_map range_bound (deeds_at p o x c))
deeds_at_fit OnDevice o x c own h = makings_bind_none o c
deeds_at_fit OnImmediate o x c own h = immediate_fits o c h
deeds_at_fit OnEach o x c own h = each_fits o x c own h
deeds_at_fit OnDeferred o x c own h = tt

bound_unless_fits : (s : State) (i : Issued) (v : Option Refusal) → verdict_in s i ≡ v → StateFits s.objects
    → RangesFit s.objects (bound_unless s i v)
bound_unless_fits s i (Some why) e h = tt
bound_unless_fits s i None e h =
    deeds_at_fit (place_of i.call) s.objects i.context i.call
    (own_fits s.objects s.past i.context i.call h.buffers (own_checks s.objects s.past i.context i.call e)) h

bound_by_fits : (s : State) (o : Option Issued) → StateFits s.objects → RangesFit s.objects (bound_by s o)
bound_by_fits s None h = tt
bound_by_fits s (Some i) h = bound_unless_fits s i (verdict_in s i) refl h

pub bound_fits_in : (log : List Issued) (n : ℕ) → RangesFit (before_call log n).objects (bound log n)
bound_fits_in log zero = tt
bound_fits_in log (suc n) = bound_by_fits (after_calls log n) (slice_get log n) (state_fits log n)
