-- What the calls of a list play, and what is set on a context again.
use Rattle.std.proofs.Common.{◌≡◌, ℕ, zero, suc, ◌+◌, Bool, true, false, List, [], ◌∷◌, ◌++◌, length, take, Option, Some, None, refl, sym, ap, ◌∙◌}
use Rattle.std.specs.Option.{option_map}
use Rattle.std.proofs.Math.Numerals.{add-one}
use Rattle.std.proofs.lemmas.List.{length-map}
use Rattle.std.proofs.lemmas.Option.{slice_get-map}
use Rattle.std.specs.Prelude.{◌==◌, slice_get, slice_index_or, slice_set, if◌then◌else◌}
use Rattle.dx_types.specs.declared.shape.ViewShape.{ViewShape}
use Rattle.call_log.specs.Call as calls
use Rattle.call_log.specs.Call.{Call}
use Rattle.call_log.specs.View.{call_view}
use Rattle.d3d_lists.specs.Calls.{calls_in, numbered}
use Rattle.d3d_lists.specs.declared.numbered.Numbered as code
use Rattle.call_log.specs.declared.call.Call as code_call
use Rattle.base_lemmas.specs.IdMap.{IdMap, get}
use Rattle.d3d_model.specs.Binding.{Bindings, default_bindings, set_srv, set_uav}
use Rattle.d3d_model.specs.D3dState.{Context, Numbered, Objects, Query, bindings_of, bound_if, calls_if, calls_of_list, context_of, default_context, with_bindings}
use Rattle.d3d_model.specs.Effect.{executed, list_start, played, played_all, queries_after, recorded_on, with_context}
use Rattle.d3d_model.specs.Stream.{set_by}
use Rattle.d3d_state.specs.Meaning.{with_queries, with_recorded}
use Rattle.d3d_effects.specs.Played.{call_no, queries_played}
use Rattle.d3d_effects.proofs.NoEffect.{same_again}

-- a context that is changed twice
twice : (xs : List Context) (i : ℕ) (v d : Context) (f : Context → Context) → slice_set (slice_set xs i v) i (f (slice_index_or (slice_set xs i v) i d)) ≡ slice_set xs i (f v)
twice [] i v d f = refl
twice (x ∷ xs) zero v d f = refl
twice (x ∷ xs) (suc i) v d f = ap (λ (l : List Context). x ∷ l) (twice xs i v d f)

-- what is set depends on the views alone
pub set_same : (o o' : Objects) (b : Bindings) (c : Call) → o'.views ≡ o.views → set_by o' b c ≡ set_by o b c
set_same o o' b (calls.SetSrv slot view) e = ap (λ (m : IdMap ViewShape). set_srv b slot (if view == 0 then None else bound_if view (get m view))) e
set_same o o' b (calls.SetUav slot view) e = ap (λ (m : IdMap ViewShape). set_uav b slot (if view == 0 then None else bound_if view (get m view))) e
set_same o o' b _ e = refl

-- a call that may stand in a list: its query, and then what it sets
pub plays : (n : ℕ) (o after : Objects) (c : Call)
    → after ≡ with_bindings (with_queries o (queries_after n o.queries c)) 0 (set_by (with_queries o (queries_after n o.queries c)) (bindings_of o 0) c)
    → after ≡ played n o c
plays n o after c e =
    e ∙ ap (λ (b : Bindings). with_bindings (with_queries o (queries_after n o.queries c)) 0 b) (set_same o (with_queries o (queries_after n o.queries c)) (bindings_of o 0) c refl)

-- a call that is recorded, and then sets what it sets
pub records : (n : ℕ) (o : Objects) (x : ℕ) (c : Call)
    → with_bindings (with_recorded o x n c) x (set_by (with_recorded o x n c) (bindings_of (with_recorded o x n c) x) c) ≡ recorded_on n o x c
records n o x c =
    let o1 = with_recorded o x n c in
    ap (λ (cs : List Context). record o { contexts = cs })
    (twice o.contexts x (record { bindings = bindings_of o x; recorded = (context_of o x).recorded ++ record { number = n; call = c } ∷ [] }) default_context
    (λ k. record { bindings = set_by o1 k.bindings c; recorded = k.recorded }))
    ∙ ap (λ (b : Bindings). with_context o x (record { bindings = b; recorded = (context_of o x).recorded ++ record { number = n; call = c } ∷ [] }))
    (set_same o o1 (bindings_of o x) c refl)

-- what is set once more stands in place of what was set before
set_twice : (o : Objects) (x : ℕ) (a b : Bindings) → with_bindings (with_bindings o x a) x b ≡ with_bindings o x b
set_twice o x a b =
    ap (λ (cs : List Context). record o { contexts = cs })
    (twice o.contexts x (record { bindings = a; recorded = (context_of o x).recorded }) default_context (λ k. record { bindings = b; recorded = k.recorded }))

-- once the bindings are set again, a list has changed the queries alone
all_played : (n : ℕ) (o : Objects) (cs : List Numbered) (b : Bindings)
    → with_bindings (played_all n o cs) 0 b ≡ with_bindings (with_queries o (queries_played n o.queries cs)) 0 b
unfolding queries_played
all_played n o [] b = refl
all_played n o (c ∷ cs) b =
    all_played n (played n o c.call) cs b
    ∙ set_twice (with_queries o (queries_played n (queries_after n o.queries c.call) cs)) 0 (set_by o (bindings_of o 0) c.call) b

with_all : (n : ℕ) (o : Objects) (list : ℕ) (b : Bindings)
    → with_bindings (with_queries o (queries_played n o.queries (calls_of_list o list))) 0 b ≡ with_bindings (played_all n (list_start o) (calls_of_list o list)) 0 b
with_all n o list b =
    let cs = calls_of_list o list in
    sym (all_played n (list_start o) cs b ∙ set_twice (with_queries o (queries_played n o.queries cs)) 0 default_bindings b)

-- a list is executed, and what was set is set again
pub restored : (n : ℕ) (o : Objects) (list flag : ℕ) → flag == 1 ≡ true → with_queries o (queries_played n o.queries (calls_of_list o list)) ≡ executed n o list flag
restored n o list flag e =
    same_again (with_queries o (queries_played n o.queries (calls_of_list o list))) 0 ∙ with_all n o list (bindings_of o 0)
    ∙ ap (λ (t : Bool). with_bindings (played_all n (list_start o) (calls_of_list o list)) 0 (if t then bindings_of o 0 else default_bindings)) (sym e)

-- or the default state is set
pub cleared : (n : ℕ) (o : Objects) (list flag : ℕ) → flag == 1 ≡ false
    → with_bindings (with_queries o (queries_played n o.queries (calls_of_list o list))) 0 default_bindings ≡ executed n o list flag
cleared n o list flag e =
    with_all n o list default_bindings
    ∙ ap (λ (t : Bool). with_bindings (played_all n (list_start o) (calls_of_list o list)) 0 (if t then bindings_of o 0 else default_bindings)) (sym e)

some_back : {X : Type 0} (x y : X) → Some x ≡ Some y → x ≡ y
some_back x y e = cc

next : (n : ℕ) (queries : IdMap Query) (cs : List Numbered) (i : ℕ) (call : Call) → Some call ≡ option_map (λ (c : Numbered). c.call) (slice_get cs i)
    → queries_after n (queries_played n queries (take i cs)) call ≡ queries_played n queries (take (suc i) cs)
unfolding queries_played
next n queries [] i call e = absurd cc
next n queries (c ∷ cs) zero call e = ap (queries_after n queries) (some_back call c.call e)
next n queries (c ∷ cs) (suc i) call e = next n (queries_after n queries c.call) cs i call e

-- one call more
pub one_more : (n : ℕ) (queries : IdMap Query) (cs : List Numbered) (i : ℕ) (call : Call) → Some call ≡ option_map (λ (c : Numbered). c.call) (slice_get cs i)
    → queries_after n (queries_played n queries (take i cs)) call ≡ queries_played n queries (take (i + 1) cs)
one_more n queries cs i call e = next n queries cs i call e ∙ ap (λ (k : ℕ). queries_played n queries (take k cs)) (sym (add-one i))

-- the calls of a live list
pub listed : (calls : List code.Numbered) (o : Objects) (list : ℕ) → Some (calls_in calls) ≡ get o.lists list → calls_in calls ≡ calls_of_list o list
listed calls o list e = ap calls_if e

pub listed_length : (calls : List code.Numbered) (o : Objects) (list : ℕ) → Some (calls_in calls) ≡ get o.lists list → length calls ≡ length (calls_of_list o list)
unfolding calls_in
listed_length calls o list e = sym (length-map calls numbered) ∙ ap (λ (cs : List Numbered). length cs) (listed calls o list e)

by_view : (o : Option code.Numbered) → option_map (λ (k : Numbered). k.call) (option_map numbered o) ≡ option_map call_view (option_map (λ (c : code.Numbered). c.call) o)
by_view None = refl
by_view (Some c) = refl

pub listed_call : (calls : List code.Numbered) (o : Objects) (list i : ℕ) (r : code_call.Call) → Some (calls_in calls) ≡ get o.lists list
    → option_map (λ (c : code.Numbered). c.call) (slice_get calls i) ≡ Some r → Some (call_view r) ≡ call_no o list i
unfolding calls_in
listed_call calls o list i r e at =
    sym (ap (option_map call_view) at) ∙ sym (by_view (slice_get calls i)) ∙ sym (ap (option_map (λ (k : Numbered). k.call)) (slice_get-map numbered calls i))
    ∙ ap (λ (cs : List Numbered). option_map (λ (k : Numbered). k.call) (slice_get cs i)) (listed calls o list e)

-- an execution changes no context but the immediate one
pub contexts_executed : (n : ℕ) (o : Objects) (list flag : ℕ) → (v : Context) × ((executed n o list flag).contexts ≡ slice_set o.contexts 0 v)
contexts_executed n o list flag =
    let b : Bindings = if flag == 1 then bindings_of o 0 else default_bindings in
    (record { bindings = b; recorded = (context_of o 0).recorded }, sym (ap (λ (k : Objects). k.contexts) (with_all n o list b)))
