-- After each call, what is set on a deferred context is what the calls of its open list set.
use Rattle.std.proofs.Common.{◌≡◌, ℕ, zero, suc, Bool, true, false, ◌||◌, List, [], ◌∷◌, ◌++◌, replicate, Some, None, refl, sym, ap, subst, inl, inr, ◌∙◌}
use Rattle.std.specs.Prelude.{◌==◌, ◌≢◌, slice_get, slice_index_or, slice_set, Option, if◌then◌else◌}
use Rattle.std.proofs.lemmas.Bool.{cases_eq, eq-eqb}
use Rattle.std.proofs.lemmas.List.{get_or-set_other}
use Rattle.dx_types.specs.declared.refusal.Refusal.{Refusal}
use Rattle.dx_types.specs.declared.shape.ViewShape.{ViewShape}
use Rattle.call_log.specs.Call as calls
use Rattle.call_log.specs.Call.{Call, Issued}
use Rattle.base_lemmas.specs.IdMap.{get}
use Rattle.d3d_model.specs.Binding.{Bindings, BoundView, default_bindings, set_srv, set_uav}
use Rattle.d3d_model.specs.D3dState.{Context, Numbered, Objects, bindings_of, bound_if, bound_view, context_of, default_context}
use Rattle.d3d_model.specs.Effect.{destroyed, executed, finished, objects_after, played, recorded_on}
use Rattle.d3d_model.specs.InOrder.{State, after_call, after_calls, unless_refused, verdict_in}
use Rattle.d3d_model.specs.Past.{Past}
use Rattle.d3d_model.specs.Stream.{list_names, set_by}
use Rattle.d3d_model.specs.Verdict.{verdict}
use Rattle.d3d_model.proofs.Frozen.{Agrees, named_by}
use Rattle.d3d_model.proofs.Listed.{ListsLive, contexts_if, lists_live, opened_member, own_checks, set_at}
use Rattle.d3d_model.proofs.Named.{or_right}
use Rattle.d3d_model.proofs.Unchanged.{ListAgrees, agrees_after}
use Rattle.d3d_effects.specs.Listed.{bindings_after}
use Rattle.d3d_effects.proofs.Passes.{differs}
use Rattle.d3d_effects.proofs.ListsPlayed.{contexts_executed, set_same as view_set}

-- the calls of a list set a context so
abbrev pub SetBy : Objects → Context → Type 0
SetBy o x = x.bindings ≡ bindings_after o default_bindings x.recorded

abbrev pub SetByLists : Objects → Type 0
SetByLists o = (x : ℕ) → x ≢ 0 → SetBy o (context_of o x)

-- ---- what a list's calls set depends on what they name alone

or_left : (a b : Bool) → a ≡ true → a || b ≡ true
or_left true b e = refl
or_left false b e = absurd cc

same_view : (o o' : Objects) (view : ℕ) → ((id : ℕ) → (view == id) || false ≡ true → get o'.views id ≡ get o.views id) → bound_view o' view ≡ bound_view o view
same_view o o' view h = ap (λ (g : Option ViewShape). if view == 0 then None else bound_if view g) (h view (or_left (view == view) false (eq-eqb view view refl)))

set_same : (o o' : Objects) (b : Bindings) (c : Call) → Agrees o o' (named_by c) → set_by o' b c ≡ set_by o b c
set_same o o' b (calls.SetSrv slot view) h = ap (λ (v : Option BoundView). set_srv b slot v) (same_view o o' view h.views)
set_same o o' b (calls.SetUav slot view) h = ap (λ (v : Option BoundView). set_uav b slot v) (same_view o o' view h.views)
set_same o o' b _ h = refl

after_same : (o o' : Objects) (b : Bindings) (cs : List Numbered) → ListAgrees o o' cs → bindings_after o' b cs ≡ bindings_after o b cs
unfolding bindings_after
after_same o o' b [] h = refl
after_same o o' b (c ∷ cs) h =
    let here : Agrees o o' (named_by c.call) = record {
      buffers = λ id e. h.buffers id (or_left (named_by c.call 1 id) (list_names 1 id cs) e);
      views = λ id e. h.views id (or_left (named_by c.call 2 id) (list_names 2 id cs) e);
    } in
    let later : ListAgrees o o' cs = record {
      buffers = λ id e. h.buffers id (or_right (named_by c.call 1 id) (list_names 1 id cs) e);
      views = λ id e. h.views id (or_right (named_by c.call 2 id) (list_names 2 id cs) e);
    } in
    ap (λ (k : Bindings). bindings_after o' k cs) (set_same o o' b c.call here) ∙ after_same o o' (set_by o b c.call) cs later

-- one call more
pub after_more : (o : Objects) (b : Bindings) (cs : List Numbered) (c : Numbered) → bindings_after o b (cs ++ c ∷ []) ≡ set_by o (bindings_after o b cs) c.call
unfolding bindings_after
after_more o b [] c = refl
after_more o b (d ∷ cs) c = after_more o (set_by o b d.call) cs c

-- ---- after a call

-- the contexts stand as they did, but for the immediate one
others : (o o' : Objects) (v : Context) → o'.contexts ≡ slice_set o.contexts 0 v → (x : ℕ) → x ≢ 0 → context_of o' x ≡ context_of o x
others o o' v e x apart = ap (λ (cs : List Context). slice_index_or cs x default_context) e ∙ get_or-set_other o.contexts 0 x v default_context apart

-- what is set on the contexts that a call leaves
stays : (o o' : Objects) → ((x : ℕ) → x ≢ 0 → context_of o' x ≡ context_of o x) → ((x : ℕ) → ListAgrees o o' (context_of o x).recorded) → SetByLists o → SetByLists o'
stays o o' same agrees h = λ x apart.
    subst (λ (k : Context). SetBy o' k) (sym (same x apart))
    (h x apart ∙ sym (after_same o o' default_bindings (context_of o x).recorded (agrees x)))

-- a context other than the immediate one is changed
changed : (o o' : Objects) (x : ℕ) (v : Context) → o'.contexts ≡ slice_set o.contexts x v → SetBy o' v → ((y : ℕ) → ListAgrees o o' (context_of o y).recorded) → SetByLists o → SetByLists o'
changed o o' x v e own agrees h = λ y apart.
    subst (λ (cs : List Context). SetBy o' (slice_index_or cs y default_context)) (sym e)
    (set_at (λ k. SetBy o' k) o.contexts x y v default_context own (h y apart ∙ sym (after_same o o' default_bindings (context_of o y).recorded (agrees y))))

-- nothing is recorded, and nothing is set
set_by_none : (o : Objects) → SetBy o default_context
unfolding bindings_after
set_by_none o = refl

recorded_own : (n : ℕ) (o : Objects) (x : ℕ) (c : Call) → ListAgrees o (recorded_on n o x c) (context_of o x).recorded → SetBy o (context_of o x)
    → SetBy (recorded_on n o x c) (record { bindings = set_by o (bindings_of o x) c; recorded = (context_of o x).recorded ++ record { number = n; call = c } ∷ [] })
recorded_own n o x c agrees h =
    let o' = recorded_on n o x c in
    let cs = (context_of o x).recorded in
    ap (λ (b : Bindings). set_by o b c) (h ∙ sym (after_same o o' default_bindings cs agrees))
    ∙ sym (view_set o o' (bindings_after o' default_bindings cs) c refl)
    ∙ sym (after_more o' default_bindings cs (record { number = n; call = c }))

each : (n : ℕ) (o : Objects) (x : ℕ) (c : Call) → ((y : ℕ) → ListAgrees o (if x == 0 then played n o c else recorded_on n o x c) (context_of o y).recorded) → SetByLists o
    → SetByLists (if x == 0 then played n o c else recorded_on n o x c)
each n o x c agrees h = elim (cases_eq x 0) [
  | inl e ↦ rw e (stays o (played n o c) (others o (played n o c) _ refl) (rw e at agrees) h)
  | inr apart ↦
      let a : (y : ℕ) → ListAgrees o (recorded_on n o x c) (context_of o y).recorded = rw (differs x 0 apart) at agrees in
      rw (differs x 0 apart) (changed o (recorded_on n o x c) x _ refl (recorded_own n o x c (a x) (h x apart)) a h)
]

set_after : (n : ℕ) (o : Objects) (past : Past) (x : ℕ) (c : Call) → verdict o past (record { context = x; call = c }) ≡ None
    → ((y : ℕ) → ListAgrees o (objects_after n o x c) (context_of o y).recorded) → SetByLists o → SetByLists (objects_after n o x c)
set_after n o past x (calls.Buffer id size usage bind misc stride bytes) e agrees h = stays o _ (λ y apart. refl) agrees h
set_after n o past x (calls.View view res kind form components first count) e agrees h = stays o _ (λ y apart. refl) agrees h
set_after n o past x (calls.CreateShader id words) e agrees h = stays o _ (λ y apart. refl) agrees h
set_after n o past x (calls.Query id sort) e agrees h = stays o _ (λ y apart. refl) agrees h
set_after n o past x (calls.Destroy class id) e agrees h =
    stays o (destroyed o class id) (λ y apart. ap (λ (cs : List Context). slice_index_or cs y default_context) (contexts_if (class == 1) (class == 2) (class == 3) (class == 4) o id)) agrees h
set_after n o past x (calls.MapRead res flag offset len) e agrees h = h
set_after n o past x (calls.GetData query flag) e agrees h = h
set_after n o past x calls.Flush e agrees h = h
set_after n o past x (calls.ExecuteList list flag) e agrees h =
    stays o (executed n o list flag) (others o (executed n o list flag) (contexts_executed n o list flag).0 (contexts_executed n o list flag).1) agrees h
set_after n o past x (calls.FinishList list) e agrees h = changed o (finished o x list) x default_context refl (set_by_none (finished o x list)) agrees h
set_after n o past x c e agrees h = each n o x c agrees h

none_set : (o : Objects) (n x : ℕ) → SetBy o (slice_index_or (replicate n default_context) x default_context)
unfolding bindings_after
none_set o zero x = refl
none_set o (suc n) zero = refl
none_set o (suc n) (suc x) = none_set o n x

pub set_by_lists : (log : List Issued) (n : ℕ) → SetByLists (after_calls log n).objects
unfolding after_calls
set_by_lists log zero = λ x apart. none_set _ 17 x
set_by_lists log (suc n) = after_one (suc n) (after_calls log n) (slice_get log n) (lists_live log n) (set_by_lists log n)
  where
    unless : (n : ℕ) (s : State) (i : Issued) (v : Option Refusal) → verdict_in s i ≡ v → ListsLive s.objects → SetByLists s.objects → SetByLists (unless_refused n s i v).objects
    unless n s i (Some why) e live h = h
    unless n s i None e live h =
        set_after n s.objects s.past i.context i.call e
        (λ y. agrees_after n s.objects s.past i.context i.call (own_checks s.objects s.past i.context i.call e) (context_of s.objects y).recorded (live.opened y) (opened_member s.objects y))
        h

    after_one : (n : ℕ) (s : State) (o : Option Issued) → ListsLive s.objects → SetByLists s.objects → SetByLists (after_call n s o).objects
    after_one n s None live h = h
    after_one n s (Some i) live h = unless n s i (verdict_in s i) refl live h
