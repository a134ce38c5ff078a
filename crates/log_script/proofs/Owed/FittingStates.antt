-- After each call, what is set on the contexts, and the calls of open and live lists, fit.
use Rattle.std.proofs.Common.{◌≡◌, ℕ, Bool, true, false, cond, List, [], ◌∷◌, ◌++◌, Option, Some, None, refl, sym, ap}
use Rattle.std.proofs.Common.{◌∙◌, subst, inl, inr, ◌⊎◌}
use Rattle.std.specs.Prelude.{◌==◌, is_some, unwrap_or, if◌then◌else◌}
use Rattle.std.specs.List.{AllByRecursion}
use Rattle.std.specs.Ordering.{nat_cmp, eq_by_cmp}
use Rattle.dx_types.specs.declared.shape.ViewShape.{ViewShape}
use Rattle.call_log.specs.Call as calls
use Rattle.call_log.specs.Call.{Call}
use Rattle.base_lemmas.specs.IdMap.{IdMap, get, insert}
use Rattle.d3d_model.specs.Binding.{Bindings, default_bindings}
use Rattle.d3d_model.specs.D3dState.{Objects, Shader, Numbered, Context, default_context, context_of, bindings_of}
use Rattle.d3d_model.specs.D3dState.{with_bindings, calls_if, calls_of_list}
use Rattle.d3d_model.specs.Stream.{set_by}
use Rattle.d3d_model.specs.Effect.{played, played_all, list_start, recorded_on, finished, objects_after}
use Rattle.base_lemmas.proofs.Maps.{get-insert}
use Rattle.log_script.specs.Fitting.{SetFits}
use Rattle.log_script.proofs.Owed.StayingFit.{unequal, all_both, all_of, all_append, all_set, all_at, Stays, Unset}
use Rattle.log_script.proofs.Owed.StayingFit.{Unlisted, unlisted, OwnFits, OwnsFit, set_stays, owns_stay}
use Rattle.log_script.proofs.Owed.FittingCalls.{rests_stay, BuffersFit, ViewsFit, default_fits, set_by_fits}

-- what is set on a context fits, and so do the calls of its open list
pub record ContextFits (o : Objects) (c : Context) : Type 0 where
  pub set : SetFits o c.bindings
  pub calls : OwnsFit o c.recorded

-- all that lives and all that is set fits
pub record StateFits (o : Objects) : Type 0 where
  pub buffers : BuffersFit o
  pub views : ViewsFit o
  pub contexts : AllByRecursion (ContextFits o) o.contexts
  pub lists : (l : ℕ) (cs : List Numbered) → get o.lists l ≡ Some cs → OwnsFit o cs

pub default_context_fits : (o : Objects) → ContextFits o default_context
default_context_fits o = record { set = default_fits o; calls = tt }

pub context_fits : (o : Objects) (x : ℕ) → StateFits o → ContextFits o (context_of o x)
context_fits o x h = all_at (ContextFits o) o.contexts x default_context (default_context_fits o) h.contexts

-- ---- from one state to another

-- nothing of a context is the object that goes
pub record Apart (class id : ℕ) (c : Context) : Type 0 where
  pub set : Unset class id c.bindings
  pub calls : Unlisted class id c.recorded

apart_no_class : (id : ℕ) (c : Context) → Apart 0 id c
apart_no_class id c = record {
  set = record {
    buffers = λ e. absurd (unequal 0 1 refl e);
    views = λ e. absurd (unequal 0 2 refl e);
    shaders =
        λ e. absurd (unequal 0 3 refl e);
  };
  calls = unlisted 0 id c.recorded (λ e. absurd (unequal 0 1 refl e)) (λ e. absurd (unequal 0 3 refl e));
}

pub state_fits_by : (o o' : Objects) (class id : ℕ) → Stays o o' class id → BuffersFit o' → ViewsFit o'
    → AllByRecursion (ContextFits o) o'.contexts → AllByRecursion (Apart class id) o'.contexts
    → ((l : ℕ) (cs : List Numbered) → get o'.lists l ≡ Some cs → OwnsFit o cs × Unlisted class id cs) → StateFits o'
state_fits_by o o' class id still buffers views contexts apart lists = record {
  buffers = buffers;
  views = views;
  contexts = all_both (Apart class id) (ContextFits o) (ContextFits o')
      (λ c a f. record {
        set = set_stays o o' class id still c.bindings a.set f.set;
        calls =
            owns_stay o o' class id still c.recorded a.calls f.calls;
      })
      o'.contexts apart contexts;
  lists = λ l cs e. let was = lists l cs e in owns_stay o o' class id still cs was.1 was.0;
}

-- where each live object lives on
pub state_goes_on : (o o' : Objects) → Stays o o' 0 0 → BuffersFit o' → ViewsFit o'
    → AllByRecursion (ContextFits o) o'.contexts
    → ((l : ℕ) (cs : List Numbered) → get o'.lists l ≡ Some cs → OwnsFit o cs) → StateFits o'
state_goes_on o o' still buffers views contexts lists =
    state_fits_by o o' 0 0 still buffers views contexts (all_of (Apart 0 0) (apart_no_class 0) o'.contexts)
    (λ l cs e. (lists l cs e, unlisted 0 0 cs (λ z. absurd (unequal 0 1 refl z)) (λ z. absurd (unequal 0 3 refl z))))

-- the objects are the same, and what is set or listed is other
pub same_objects : (o o' : Objects) → o'.buffers ≡ o.buffers → o'.views ≡ o.views → o'.shaders ≡ o.shaders
    → Stays o o' 0 0
same_objects o o' b v s = record {
  buffers = λ q w apart e. ap (λ m. get m q) b ∙ e;
  views = λ q w apart e. ap (λ m. get m q) v ∙ e;
  shaders = λ q apart e. ap (λ (m : IdMap Shader). is_some (get m q)) s ∙ e;
}

pub views_still : (o o' : Objects) → Stays o o' 0 0 → ((q : ℕ) (v : ViewShape) → get o'.views q ≡ Some v
    → get o.views q ≡ Some v) → ViewsFit o → ViewsFit o'
views_still o o' still was h q v e =
    rests_stay o o' 0 0 still v (λ z. absurd (unequal 0 1 refl z)) (h q v (was q v e))

-- ---- calls on contexts

pub fits_with : (o : Objects) (x : ℕ) (b : Bindings) → SetFits o b → StateFits o → StateFits (with_bindings o x b)
fits_with o x b f h =
    let c : Context = record { bindings = b; recorded = (context_of o x).recorded } in
    let still : Stays o (with_bindings o x b) 0 0 = same_objects o (with_bindings o x b) refl refl refl in
    state_goes_on o (with_bindings o x b) still h.buffers (views_still o (with_bindings o x b) still (λ q v e. e)
    h.views)
    (all_set (ContextFits o) o.contexts x c (record { set = f; calls = (context_fits o x h).calls }) h.contexts) h.lists

pub fits_played : (n : ℕ) (o : Objects) (c : Call) → OwnFits o c → StateFits o → StateFits (played n o c)
fits_played n o c own h =
    let k : Context = record { bindings = set_by o (bindings_of o 0) c; recorded = (context_of o 0).recorded } in
    let now = context_fits o 0 h in
    let still : Stays o (played n o c) 0 0 = same_objects o (played n o c) refl refl refl in
    state_goes_on o (played n o c) still h.buffers (views_still o (played n o c) still (λ q v e. e) h.views)
    (all_set (ContextFits o) o.contexts 0 k
    (record { set = set_by_fits o (bindings_of o 0) c h.views own now.set; calls = now.calls }) h.contexts)
    h.lists

pub owns_go_on : (o o' : Objects) (cs : List Numbered) → Stays o o' 0 0 → OwnsFit o cs → OwnsFit o' cs
owns_go_on o o' cs still h =
    owns_stay o o' 0 0 still cs (unlisted 0 0 cs (λ z. absurd (unequal 0 1 refl z))
    (λ z. absurd (unequal 0 3 refl z))) h

fits_played_all : (n : ℕ) (o : Objects) (cs : List Numbered) → OwnsFit o cs → StateFits o
    → StateFits (played_all n o cs)
fits_played_all n o [] own h = h
fits_played_all n o (c ∷ cs) own h =
    fits_played_all n (played n o c.call) cs (owns_go_on o (played n o c.call) cs
    (same_objects o (played n o c.call) refl refl refl) own.1) (fits_played n o c.call own.0 h)

stays_then : (o p q : Objects) → Stays o p 0 0 → Stays p q 0 0 → Stays o q 0 0
stays_then o p q f g = record {
  buffers = λ k s apart e. g.buffers k s apart (f.buffers k s apart e);
  views = λ k v apart e. g.views k v apart (f.views k v apart e);
  shaders = λ k apart e. g.shaders k apart (f.shaders k apart e);
}

stays_played_all : (n : ℕ) (o : Objects) (cs : List Numbered) → Stays o (played_all n o cs) 0 0
stays_played_all n o [] = same_objects o o refl refl refl
stays_played_all n o (c ∷ cs) = stays_then o (played n o c.call) (played_all n (played n o c.call) cs)
    (same_objects o (played n o c.call) refl refl refl) (stays_played_all n (played n o c.call) cs)

set_goes_on : (o o' : Objects) (b : Bindings) → Stays o o' 0 0 → SetFits o b → SetFits o' b
set_goes_on o o' b still h =
    set_stays o o' 0 0 still b (record {
      buffers = λ e. absurd (unequal 0 1 refl e);
      views =
          λ e. absurd (unequal 0 2 refl e);
      shaders = λ e. absurd (unequal 0 3 refl e);
    }) h

pub listed_fits : (o : Objects) (list : ℕ) → StateFits o → OwnsFit o (calls_of_list o list)
listed_fits o list h = by_list (get o.lists list) refl
  where
    by_list : (found : Option (List Numbered)) → get o.lists list ≡ found → OwnsFit o (calls_if found)
    by_list None e = tt
    by_list (Some cs) e = h.lists list cs e

pub fits_executed : (n : ℕ) (o : Objects) (list flag : ℕ) → StateFits o
    → StateFits (objects_after n o 0 (calls.ExecuteList list flag))
fits_executed n o list flag h =
    let cs = calls_of_list o list in
    let start : Stays o (list_start o) 0 0 = same_objects o (list_start o) refl refl refl in
    let o' : Objects = played_all n (list_start o) cs in
    let still : Stays o o' 0 0 = stays_then o (list_start o) o' start (stays_played_all n (list_start o) cs) in
    let again : Bindings = if flag == 1 then bindings_of o 0 else default_bindings in
    let set : SetFits o' again =
    elim (flag == 1) as (λ b. SetFits o' (if b then bindings_of o 0 else default_bindings)) [
      | true ↦ set_goes_on o o' (bindings_of o 0) still (context_fits o 0 h).set
      | false ↦ default_fits o'
    ] in
    fits_with o' 0 again set (fits_played_all n (list_start o) cs
    (owns_go_on o (list_start o) cs start (listed_fits o list h))
    (fits_with o 0 default_bindings (default_fits o) h))

pub fits_recorded : (n : ℕ) (o : Objects) (x : ℕ) (c : Call) → OwnFits o c → StateFits o
    → StateFits (recorded_on n o x c)
fits_recorded n o x c own h =
    let more : List Numbered = record { number = n; call = c } ∷ [] in
    let k : Context = record {
      bindings = set_by o (bindings_of o x) c;
      recorded =
          (context_of o x).recorded ++ more;
    } in
    let now = context_fits o x h in
    let fits : ContextFits o k = record {
      set = set_by_fits o (bindings_of o x) c h.views own now.set;
      calls =
          all_append (λ (j : Numbered). OwnFits o j.call) (context_of o x).recorded more now.calls (own, tt);
    } in
    let still : Stays o (recorded_on n o x c) 0 0 = same_objects o (recorded_on n o x c) refl refl refl in
    state_goes_on o (recorded_on n o x c) still h.buffers (views_still o (recorded_on n o x c) still (λ q v e. e)
    h.views)
    (all_set (ContextFits o) o.contexts x k fits h.contexts) h.lists

pub one_value : {X : Type 0} (b : Bool) (v w : X) (o : Option X) → cond b (Some v) o ≡ Some w → (v ≡ w) ⊎ (o ≡ Some w)
one_value true v w o e = inl (ap (λ p. unwrap_or p w) e)
one_value false v w o e = inr e

-- what is found after a value came: the value, or what was there
pub inserted : {X : Type 0} (m : IdMap X) (k : ℕ) (v : X) (q : ℕ) (w : X) → get (insert m k v) q ≡ Some w → (v ≡ w)
    ⊎ (get m q ≡ Some w)
inserted m k v q w e = one_value (eq_by_cmp nat_cmp q k) v w (get m q) (sym (get-insert m k v q) ∙ e)

pub fits_finished : (o : Objects) (x list : ℕ) → StateFits o → StateFits (finished o x list)
fits_finished o x list h =
    let still : Stays o (finished o x list) 0 0 = same_objects o (finished o x list) refl refl refl in
    state_goes_on o (finished o x list) still h.buffers (views_still o (finished o x list) still (λ q v e. e) h.views)
    (all_set (ContextFits o) o.contexts x default_context (default_context_fits o) h.contexts)
    (λ l cs e. elim (inserted o.lists list (context_of o x).recorded l cs e) [
      | inl f ↦ subst (λ (k : List Numbered). OwnsFit o k) f (context_fits o x h).calls
      | inr f ↦ h.lists l cs f
    ])
