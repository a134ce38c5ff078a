-- After each call, a call of an open or a live list sets a slot that there is, if it sets one.
use Rattle.std.proofs.Common.{◌≡◌, ℕ, zero, suc, true, false, List, [], ◌∷◌, replicate, Option, Some, None, refl, sym, subst, inl, inr, ◌∙◌, arith}
use Rattle.std.specs.Prelude.{◌==◌, slice_get, slice_index_or, if◌then◌else◌}
use Rattle.std.specs.Ordering.{nat_cmp, eq_by_cmp}
use Rattle.std.proofs.lemmas.List.Elements.{All-append}
use Rattle.dx_types.specs.declared.refusal.Refusal.{Refusal}
use Rattle.call_log.specs.Call as calls
use Rattle.call_log.specs.Call.{Call, Issued}
use Rattle.base_lemmas.specs.IdMap.{empty, get}
use Rattle.base_lemmas.proofs.Maps.{get-empty, get-insert}
use Rattle.d3d_model.specs.Binding.{Bindings, default_bindings}
use Rattle.d3d_model.specs.D3dState.{Context, Numbered, Objects, bindings_of, calls_if, calls_of_list, context_of, default_context, with_bindings}
use Rattle.d3d_model.specs.Effect.{destroyed, finished, list_start, objects_after, played, played_all, queries_after, recorded_on}
use Rattle.d3d_model.specs.InOrder.{State, after_call, after_calls, before_call, initial, unless_refused, verdict_in}
use Rattle.d3d_model.specs.Past.{Past}
use Rattle.d3d_model.specs.Stream.{set_by}
use Rattle.d3d_model.specs.Verdict.{call_checks}
use Rattle.d3d_model.proofs.Checked.{Passed}
use Rattle.d3d_model.proofs.Listed.{contexts_if, lists_if, one_value, own_checks, set_at}
use Rattle.d3d_effects.specs.Played.{SlotFits}
use Rattle.d3d_effects.specs.Slots.{AllFit, SetsFit}
use Rattle.d3d_effects.proofs.Passes.{slot_by}

pub record ListsFit (o : Objects) : Type 0 where
  pub opened : (x : ℕ) → AllFit (context_of o x).recorded
  pub listed : (l : ℕ) (cs : List Numbered) → get o.lists l ≡ Some cs → AllFit cs

none_fit : AllFit []
none_fit = λ k d below. absurd (omega (arith, below))

one_fits : (c : Numbered) → SlotFits c.call → AllFit (c ∷ [])
one_fits c h zero d below = h
one_fits c h (suc k) d below = absurd (omega (arith, below))

-- the contexts stand as they did, and no list is live that wasn't
same_fit : (o o' : Objects) → o'.contexts ≡ o.contexts → ((l : ℕ) (cs : List Numbered) → get o'.lists l ≡ Some cs → get o.lists l ≡ Some cs) → ListsFit o → ListsFit o'
same_fit o o' e before h = record {
  opened = λ x. subst (λ (ks : List Context). AllFit (slice_index_or ks x default_context).recorded) (sym e) (h.opened x);
  listed = λ l cs is. h.listed l cs (before l cs is);
}

with_fit : (o : Objects) (x : ℕ) (b : Bindings) → ListsFit o → ListsFit (with_bindings o x b)
with_fit o x b h = record {
  opened = λ y. set_at (λ k. AllFit k.recorded) o.contexts x y (record { bindings = b; recorded = (context_of o x).recorded }) default_context (h.opened x) (h.opened y);
  listed = h.listed;
}

played_fit : (n : ℕ) (o : Objects) (c : Call) → ListsFit o → ListsFit (played n o c)
played_fit n o c h = with_fit (record o { queries = queries_after n o.queries c }) 0 (set_by o (bindings_of o 0) c) (record { opened = h.opened; listed = h.listed })

all_played_fit : (n : ℕ) (o : Objects) (cs : List Numbered) → ListsFit o → ListsFit (played_all n o cs)
all_played_fit n o [] h = h
all_played_fit n o (c ∷ cs) h = all_played_fit n (played n o c.call) cs (played_fit n o c.call h)

recorded_fit : (n : ℕ) (o : Objects) (x : ℕ) (c : Call) → SlotFits c → ListsFit o → ListsFit (recorded_on n o x c)
recorded_fit n o x c fits h = record {
  opened = λ y. set_at (λ k. AllFit k.recorded) o.contexts x y _ default_context
      (All-append SetsFit (context_of o x).recorded (record { number = n; call = c } ∷ []) (h.opened x) (one_fits (record { number = n; call = c }) fits)) (h.opened y);
  listed = h.listed;
}

finished_fit : (o : Objects) (x list : ℕ) → ListsFit o → ListsFit (finished o x list)
finished_fit o x list h = record {
  opened = λ y. set_at (λ k. AllFit k.recorded) o.contexts x y default_context default_context none_fit (h.opened y);
  listed = λ l cs e. elim (one_value (eq_by_cmp nat_cmp l list) (context_of o x).recorded cs (get o.lists l) (sym (get-insert o.lists list (context_of o x).recorded l) ∙ e)) [
    | inl f ↦ subst AllFit f (h.opened x)
    | inr f ↦ h.listed l cs f
  ];
}

each_fit : (n : ℕ) (o : Objects) (x : ℕ) (c : Call) → SlotFits c → ListsFit o → ListsFit (if x == 0 then played n o c else recorded_on n o x c)
each_fit n o x c fits h = elim (x == 0) as (λ b. ListsFit (if b then played n o c else recorded_on n o x c)) [ true ↦ played_fit n o c h | false ↦ recorded_fit n o x c fits h ]

fit_after : (n : ℕ) (o : Objects) (past : Past) (x : ℕ) (c : Call) → Passed (call_checks o past x c) → ListsFit o → ListsFit (objects_after n o x c)
fit_after n o past x (calls.Buffer id size usage bind misc stride bytes) p h = record { opened = h.opened; listed = h.listed }
fit_after n o past x (calls.View view res kind form components first count) p h = record { opened = h.opened; listed = h.listed }
fit_after n o past x (calls.CreateShader id words) p h = record { opened = h.opened; listed = h.listed }
fit_after n o past x (calls.Query id sort) p h = record { opened = h.opened; listed = h.listed }
fit_after n o past x (calls.Destroy class id) p h =
    same_fit o (destroyed o class id) (contexts_if (class == 1) (class == 2) (class == 3) (class == 4) o id) (lists_if (class == 1) (class == 2) (class == 3) (class == 4) o id) h
fit_after n o past x (calls.MapRead res flag offset len) p h = h
fit_after n o past x (calls.GetData query flag) p h = h
fit_after n o past x calls.Flush p h = h
fit_after n o past x (calls.ExecuteList list flag) p h =
    with_fit (played_all n (list_start o) (calls_of_list o list)) 0 (if flag == 1 then bindings_of o 0 else default_bindings)
    (all_played_fit n (list_start o) (calls_of_list o list) (with_fit o 0 default_bindings h))
fit_after n o past x (calls.FinishList list) p h = finished_fit o x list h
fit_after n o past x c p h = each_fit n o x c (slot_by o past x c p) h

pub fit : (log : List Issued) (n : ℕ) → ListsFit (after_calls log n).objects
unfolding after_calls
fit log zero = record {
  opened = λ x. none_open 17 x;
  listed = λ l cs e. absurd (no_list (get (empty {X = List Numbered}) l) cs (get-empty (List Numbered) l) e);
}
  where
    none_open : (n x : ℕ) → AllFit (slice_index_or (replicate n default_context) x default_context).recorded
    none_open zero x = none_fit
    none_open (suc n) zero = none_fit
    none_open (suc n) (suc x) = none_open n x

    no_list : (o : Option (List Numbered)) (cs : List Numbered) → o ≡ None → o ≡ Some cs → ⊥
    no_list o cs e f = cc
fit log (suc n) = after_one (suc n) (after_calls log n) (slice_get log n) (fit log n)
  where
    unless : (n : ℕ) (s : State) (i : Issued) (v : Option Refusal) → verdict_in s i ≡ v → ListsFit s.objects → ListsFit (unless_refused n s i v).objects
    unless n s i (Some why) e h = h
    unless n s i None e h = fit_after n s.objects s.past i.context i.call (own_checks s.objects s.past i.context i.call e) h

    after_one : (n : ℕ) (s : State) (o : Option Issued) → ListsFit s.objects → ListsFit (after_call n s o).objects
    after_one n s None h = h
    after_one n s (Some i) h = unless n s i (verdict_in s i) refl h

-- the calls of each list, also of one that is not live
pub list_fits : (o : Objects) (list : ℕ) → ListsFit o → AllFit (calls_of_list o list)
list_fits o list h = by_list (get o.lists list) refl
  where
    by_list : (l : Option (List Numbered)) → get o.lists list ≡ l → AllFit (calls_if l)
    by_list None e = none_fit
    by_list (Some cs) e = h.listed list cs e

-- in the state that a call of a log meets
pub before_fit : (log : List Issued) (n list : ℕ) → AllFit (calls_of_list (before_call log n).objects list)
unfolding after_calls
before_fit log zero list = list_fits initial.objects list (fit log zero)
before_fit log (suc n) list = list_fits (after_calls log n).objects list (fit log n)
