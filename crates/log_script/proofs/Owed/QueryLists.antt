-- After each call, the calls of an open or a live list begin and end the queries that count in turn.
use Rattle.std.proofs.Common.{◌≡◌, ℕ, zero, suc, Bool, true, false, not, ◌&&◌, cond, List, [], ◌∷◌, ◌++◌, replicate}
use Rattle.std.proofs.Common.{Option, Some, None, refl, sym, ap, ◌∙◌, subst, inl, inr, ◌⊎◌}
use Rattle.std.specs.Prelude.{◌==◌, unwrap_or, slice_get, slice_set, slice_index_or, if◌then◌else◌}
use Rattle.std.specs.List.{list_any}
use Rattle.std.specs.Ordering.{nat_cmp, eq_by_cmp}
use Rattle.std.proofs.lemmas.Bool.{both_ways, not-false, eqb-true, eq-eqb, or_left, or_right, or_parts, or_cases}
use Rattle.dx_types.specs.declared.refusal.Refusal.{Refusal}
use Rattle.call_log.specs.Call as calls
use Rattle.call_log.specs.Call.{Call, Issued}
use Rattle.base_lemmas.specs.IdMap.{IdMap, empty, get, insert, remove}
use Rattle.d3d_model.specs.Check.{is_id}
use Rattle.d3d_model.specs.Binding.{Bindings, default_bindings}
use Rattle.d3d_model.specs.D3dState.{Objects, Query, Numbered, Context, default_context, no_objects, context_of}
use Rattle.d3d_model.specs.D3dState.{bindings_of, with_bindings, calls_of_list}
use Rattle.d3d_model.specs.Past.{Past}
use Rattle.d3d_model.specs.Stream.{names, is_name, list_names, begun_after, set_by}
use Rattle.d3d_model.specs.Verdict.{is_live_query, is_begun_on, query_is_one, call_checks}
use Rattle.d3d_model.specs.Effect.{queries_after, played, played_all, list_start, recorded_on, finished, objects_after}
use Rattle.d3d_model.specs.InOrder.{State, unless_refused, verdict_in, after_call, after_calls}
use Rattle.base_lemmas.proofs.Maps.{get-empty, get-insert, get-remove, get_other}
use Rattle.d3d_model.proofs.Checked.{Passed}
use Rattle.d3d_model.proofs.Listed.{ListLive, ListsLive, own_checks, lists_live}
use Rattle.log_script.specs.Plays.{counts_invocations}
use Rattle.log_script.proofs.Owed.Positions.{AtEach, each_append}
use Rattle.log_script.proofs.Owed.QueryMaps.{counts_after}

-- a Begin of a query that counts comes where it is not begun, an End where it is
abbrev pub Ready : IdMap Query → (ℕ → Bool) → Call → Type 0
Ready qs is_begun (calls.Begin q) = counts_invocations (get qs q) ≡ true → is_begun q ≡ false
Ready qs is_begun (calls.EndQuery q) = counts_invocations (get qs q) ≡ true → is_begun q ≡ true
Ready qs is_begun _ = Unit {0}

-- so does a call of a list, behind those before it
abbrev pub InTurn : IdMap Query → List Numbered → Numbered → Type 0
InTurn qs before c = Ready qs (λ q. begun_after q false before) c.call

abbrev pub ListInTurn : IdMap Query → List Numbered → Type 0
ListInTurn qs cs = AtEach (InTurn qs) [] cs

abbrev pub ListsInTurn : Objects → Type 0
ListsInTurn o = ((x : ℕ) → ListInTurn o.queries (context_of o x).recorded)
    × ((l : ℕ) (cs : List Numbered) → get o.lists l ≡ Some cs → ListInTurn o.queries cs)

-- ---- what the checks say

end_checked : (o : Option Query) (b : Bool) → counts_invocations o ≡ true
    → (not (query_is_one o (λ q. q.sort == 0)) && not b) ≡ false → b ≡ true
end_checked None b e f = absurd cc
end_checked (Some q) b e f =
    let other : (q.sort == 0) ≡ false = ap (λ s. s == 0) (eqb-true q.sort 2 e) in
    not-false b (sym (ap (λ t. not t && not b) other) ∙ f)

pub ready_on : (o : Objects) (past : Past) (x : ℕ) (c : Call) → Passed (call_checks o past x c)
    → Ready o.queries (λ q. is_begun_on o x q) c
ready_on o past x (calls.Begin q) p = λ e. (or_parts _ (is_begun_on o x q) p.1.0).1
ready_on o past x (calls.EndQuery q) p = λ e. end_checked (get o.queries q) (is_begun_on o x q) e p.1.0
ready_on o past x _ p = tt

-- ---- lists under other queries

-- each query that the list names and that counts now did so before
abbrev pub Counted : IdMap Query → IdMap Query → (ℕ → Bool) → Type 0
Counted qs qs' named = (q : ℕ) → named q ≡ true → counts_invocations (get qs' q) ≡ true
    → counts_invocations (get qs q) ≡ true

this_named : (q : ℕ) → list_any (is_name 4 q) (record { class = 4; id = q } ∷ []) ≡ true
this_named q = or_left (q == q) false (eq-eqb q q refl)

ready_kept : (qs qs' : IdMap Query) (is_begun : ℕ → Bool) (c : Call)
    → Counted qs qs' (λ q. list_any (is_name 4 q) (names c)) → Ready qs is_begun c → Ready qs' is_begun c
ready_kept qs qs' is_begun (calls.Begin q) k h = λ e. h (k q (this_named q) e)
ready_kept qs qs' is_begun (calls.EndQuery q) k h = λ e. h (k q (this_named q) e)
ready_kept qs qs' is_begun _ k h = tt

each_kept : (qs qs' : IdMap Query) (before cs : List Numbered) → Counted qs qs' (λ q. list_names 4 q cs)
    → AtEach (InTurn qs) before cs → AtEach (InTurn qs') before cs
each_kept qs qs' before [] k h = tt
each_kept qs qs' before (c ∷ cs) k h = (
  ready_kept qs qs' (λ q. begun_after q false before) c.call
      (λ q e. k q (or_left (list_any (is_name 4 q) (names c.call)) (list_names 4 q cs) e)) h.0,
  each_kept qs qs' (before ++ c ∷ []) cs
      (λ q e. k q (or_right (list_any (is_name 4 q) (names c.call)) (list_names 4 q cs) e)) h.1,
)

pub list_kept : (qs qs' : IdMap Query) (cs : List Numbered) → ((q : ℕ) → counts_invocations (get qs' q) ≡ true
    → counts_invocations (get qs q) ≡ true) → ListInTurn qs cs → ListInTurn qs' cs
list_kept qs qs' cs k h = each_kept qs qs' [] cs (λ q e. k q) h

-- ---- calls

set_at : (P : Context → Type 0) (xs : List Context) (i j : ℕ) (v d : Context) → P v → P (slice_index_or xs j d)
    → P (slice_index_or (slice_set xs i v) j d)
set_at P [] i j v d pv h = h
set_at P (x ∷ xs) zero zero v d pv h = pv
set_at P (x ∷ xs) zero (suc j) v d pv h = h
set_at P (x ∷ xs) (suc i) zero v d pv h = h
set_at P (x ∷ xs) (suc i) (suc j) v d pv h = set_at P xs i j v d pv h

turn_with : (o : Objects) (x : ℕ) (b : Bindings) → ListsInTurn o → ListsInTurn (with_bindings o x b)
turn_with o x b h = (
  (λ y. set_at (λ c. ListInTurn o.queries c.recorded) o.contexts x y
      (record { bindings = b; recorded = (context_of o x).recorded }) default_context (h.0 x) (h.0 y)),
  h.1,
)

turn_played : (n : ℕ) (o : Objects) (c : Call) → ListsInTurn o → ListsInTurn (played n o c)
turn_played n o c h =
    let qs = queries_after n o.queries c in
    let same : (q : ℕ) → counts_invocations (get qs q) ≡ true
    → counts_invocations (get o.queries q) ≡ true = λ q e. sym (counts_after n o.queries c q) ∙ e in
    turn_with (record o { queries = qs }) 0 (set_by o (bindings_of o 0) c) (
      (λ x. list_kept o.queries qs (context_of o x).recorded same (h.0 x)),
      (λ l cs e. list_kept o.queries qs cs same (h.1 l cs e)),
    )

turn_played_all : (n : ℕ) (o : Objects) (cs : List Numbered) → ListsInTurn o → ListsInTurn (played_all n o cs)
turn_played_all n o [] h = h
turn_played_all n o (c ∷ cs) h = turn_played_all n (played n o c.call) cs (turn_played n o c.call h)

turn_recorded : (n : ℕ) (o : Objects) (x : ℕ) (c : Call) → Ready o.queries
    (λ q. begun_after q false (context_of o x).recorded) c → ListsInTurn o → ListsInTurn (recorded_on n o x c)
turn_recorded n o x c r h = (
  (λ y. set_at (λ k. ListInTurn o.queries k.recorded) o.contexts x y _ default_context
      (each_append (InTurn o.queries) [] (context_of o x).recorded (record { number = n; call = c } ∷ []) (h.0 x)
      (r, tt)) (h.0 y)),
  h.1,
)

one_value : {X : Type 0} (b : Bool) (v w : X) (o : Option X) → cond b (Some v) o ≡ Some w → (v ≡ w) ⊎ (o ≡ Some w)
one_value true v w o e = inl (ap (λ p. unwrap_or p w) e)
one_value false v w o e = inr e

turn_finished : (o : Objects) (x list : ℕ) → ListsInTurn o → ListsInTurn (finished o x list)
turn_finished o x list h = (
  (λ y. set_at (λ k. ListInTurn o.queries k.recorded) o.contexts x y default_context default_context tt (h.0 y)),
  (λ l cs e. elim (one_value (eq_by_cmp nat_cmp l list) (context_of o x).recorded cs (get o.lists l)
      (sym (get-insert o.lists list (context_of o x).recorded l) ∙ e)) [
        | inl f ↦ subst (λ (k : List Numbered). ListInTurn o.queries k) f (h.0 x)
        | inr f ↦ h.1 l cs f
      ]),
)

turn_each : (n : ℕ) (o : Objects) (x : ℕ) (c : Call) → Ready o.queries (λ q. is_begun_on o x q) c → ListsInTurn o
    → ListsInTurn (if x == 0 then played n o c else recorded_on n o x c)
turn_each n o x c r h =
    elim (x == 0) as
    (λ b. Ready o.queries (λ q. if b then query_is_one (get o.queries q) (λ s. s.begun) else begun_after q false
    (context_of o x).recorded) c → ListsInTurn (if b then played n o c else recorded_on n o x c)) [
      | true ↦ λ r. turn_played n o c h
      | false ↦ λ r. turn_recorded n o x c r h
    ] r

-- ---- queries that are made and destroyed

pub some_left : {X : Type 0} (m : IdMap X) (k q : ℕ) (v : X) → get (remove m k) q ≡ Some v → get m q ≡ Some v
some_left m k q v e = by_test (eq_by_cmp nat_cmp q k) (get m q) (sym (get-remove m k q) ∙ e)
  where
    by_test : (b : Bool) (o : Option _) → cond b None o ≡ Some v → o ≡ Some v
    by_test true o f = absurd cc
    by_test false o f = f

counts_left : (m : IdMap Query) (k q : ℕ) → counts_invocations (get (remove m k) q) ≡ true
    → counts_invocations (get m q) ≡ true
counts_left m k q e = by_test (eq_by_cmp nat_cmp q k) (get m q) (sym (ap counts_invocations (get-remove m k q)) ∙ e)
  where
    by_test : (b : Bool) (o : Option Query) → counts_invocations (cond b None o) ≡ true → counts_invocations o ≡ true
    by_test true o f = absurd cc
    by_test false o f = f

turn_destroyed : (t1 t2 t3 t4 : Bool) (o : Objects) (i : ℕ) → ListsInTurn o
    → ListsInTurn (if t1 then record o { buffers = remove o.buffers i } else if t2 then record o {
      views =
          remove o.views i;
    } else if t3 then record o { shaders = remove o.shaders i } else if t4 then record o
    { queries = remove o.queries i } else record o { lists = remove o.lists i })
turn_destroyed true t2 t3 t4 o i h = h
turn_destroyed false true t3 t4 o i h = h
turn_destroyed false false true t4 o i h = h
turn_destroyed false false false true o i h = (
  (λ x. list_kept o.queries (remove o.queries i) (context_of o x).recorded (counts_left o.queries i) (h.0 x)),
  (λ l cs e. list_kept o.queries (remove o.queries i) cs (counts_left o.queries i) (h.1 l cs e)),
)
turn_destroyed false false false false o i h = (h.0, (λ l cs e. h.1 l cs (some_left o.lists i l cs e)))

-- a list names no query that is made: each that it names is live
no_zero : (k : ℕ) → not (is_id k) ≡ false → k ≡ 0 → ⊥
no_zero k a z =
    let bad : not (is_id 0) ≡ false = subst (λ (j : ℕ). not (is_id j) ≡ false) z a in
    cc

made_kept : (o : Objects) (k : ℕ) (x : Query) (cs : List Numbered) → not (is_id k) ≡ false
    → is_live_query o k ≡ false → ListLive o cs → ListInTurn o.queries cs → ListInTurn (insert o.queries k x) cs
made_kept o k x cs is free live h =
    each_kept o.queries (insert o.queries k x) [] cs
    (λ q named e.
    let apart : q ≡ k → ⊥ = λ same. elim (or_cases (q == 0) (is_live_query o q) (live 4 q named)) [
      | inl z ↦ no_zero k is (sym same ∙ eqb-true q 0 z)
      | inr l ↦ both_ways (is_live_query o k) free (subst (λ (j : ℕ). is_live_query o j ≡ true) same l)
    ] in
    ap counts_invocations (sym (get_other o.queries k x q apart)) ∙ e)
    h

turn_after : (n : ℕ) (o : Objects) (past : Past) (x : ℕ) (c : Call) → Passed (call_checks o past x c) → ListsLive o
    → ListsInTurn o → ListsInTurn (objects_after n o x c)
turn_after n o past x (calls.Buffer id size usage bind misc stride bytes) p live h = h
turn_after n o past x (calls.View view res kind form components first count) p live h = h
turn_after n o past x (calls.CreateShader id words) p live h = h
turn_after n o past x (calls.Query id sort) p live h = (
  (λ y. made_kept o id _ (context_of o y).recorded p.0 p.1.0 (live.opened y) (h.0 y)),
  (λ l cs e. made_kept o id _ cs p.0 p.1.0 (live.listed l cs e) (h.1 l cs e)),
)
turn_after n o past x (calls.Destroy class id) p live h = turn_destroyed (class == 1) (class == 2) (class == 3)
    (class == 4) o id h
turn_after n o past x (calls.MapRead res flag offset len) p live h = h
turn_after n o past x (calls.GetData query flag) p live h = h
turn_after n o past x calls.Flush p live h = h
turn_after n o past x (calls.ExecuteList list flag) p live h =
    turn_with (played_all n (list_start o) (calls_of_list o list)) 0
    (if flag == 1 then bindings_of o 0 else default_bindings)
    (turn_played_all n (list_start o) (calls_of_list o list) (turn_with o 0 default_bindings h))
turn_after n o past x (calls.FinishList list) p live h = turn_finished o x list h
turn_after n o past x c p live h = turn_each n o x c (ready_on o past x c p) h

none_recorded : (n x : ℕ) → (slice_index_or (replicate n default_context) x default_context).recorded ≡ []
none_recorded zero x = refl
none_recorded (suc n) zero = refl
none_recorded (suc n) (suc x) = none_recorded n x

pub lists_in_turn : (log : List Issued) (n : ℕ) → ListsInTurn (after_calls log n).objects
unfolding after_calls
lists_in_turn log zero = (
  (λ x. subst (λ (cs : List Numbered). ListInTurn no_objects.queries cs) (sym (none_recorded 17 x)) tt),
  (λ l cs e. absurd (no_list (get (empty {X = List Numbered}) l) cs (get-empty (List Numbered) l) e)),
)
  where
    no_list : (o : Option (List Numbered)) (cs : List Numbered) → o ≡ None → o ≡ Some cs → ⊥
    no_list o cs e f = cc
lists_in_turn log (suc n) = after_one (suc n) (after_calls log n) (slice_get log n) (lists_live log n)
    (lists_in_turn log n)
  where
    unless : (n : ℕ) (s : State) (i : Issued) (v : Option Refusal) → verdict_in s i ≡ v → ListsLive s.objects
        → ListsInTurn s.objects → ListsInTurn (unless_refused n s i v).objects
    unless n s i (Some why) e live h = h
    unless n s i None e live h = turn_after n s.objects s.past i.context i.call
        (own_checks s.objects s.past i.context i.call e) live h

    after_one : (n : ℕ) (s : State) (o : Option Issued) → ListsLive s.objects → ListsInTurn s.objects
        → ListsInTurn (after_call n s o).objects
    after_one n s None live h = h
    after_one n s (Some i) live h = unless n s i (verdict_in s i) refl live h
