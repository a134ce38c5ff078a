-- After each call, what the calls of an open or a live list name is live.
use Rattle.std.proofs.Common.{◌≡◌, ℕ, zero, suc, Bool, true, false, ◌||◌, cond, List, [], ◌∷◌, ◌++◌, map, replicate, Option, Some, None, refl, sym, ap, ◌∙◌, subst, inl, inr, ◌⊎◌}
use Rattle.std.specs.Prelude.{◌==◌, is_some, unwrap_or, slice_get, slice_set, slice_index_or, if◌then◌else◌}
use Rattle.std.specs.List.{list_any}
use Rattle.std.specs.Ordering.{nat_cmp, eq_by_cmp}
use Rattle.std.specs.FinMap.Entries.{find}
use Rattle.std.proofs.lemmas.Bool.{eqb-true}
use Rattle.dx_types.specs.declared.refusal.Refusal.{Refusal}
use Rattle.dx_types.specs.declared.refusal.Refusal.TheVariants.{WrongContext, TooMuchMemory, BadUsage}
use Rattle.call_log.specs.Call as calls
use Rattle.call_log.specs.Call.{Call, Issued}
use Rattle.base_lemmas.specs.IdMap.{IdMap, empty, get, insert, remove, values}
use Rattle.d3d_model.specs.Check.{Check}
use Rattle.d3d_model.specs.Binding.{Bindings, default_bindings, holds_buffer, holds_view, holds_shader, holds_query}
use Rattle.d3d_model.specs.D3dState.{Objects, Query, Numbered, Context, default_context, no_objects, context_of, bindings_of, with_bindings, calls_of_list}
use Rattle.d3d_model.specs.Past.{Past}
use Rattle.d3d_model.specs.Stream.{names, is_name, list_names, is_listed, set_by}
use Rattle.d3d_model.specs.Verdict.{place_of, is_wrong_at, is_too_long, is_live_buffer, is_live_view, is_live_shader, is_live_query, call_checks, destroy_checks, unused_buffer, unused_view, unused_shader, unused_query, known_list, is_set, has_view, query_is, verdict}
use Rattle.d3d_model.specs.Effect.{made_by, destroyed, begun_query, ended_query, queries_after, played, played_all, list_start, recorded_on, finished, objects_after}
use Rattle.d3d_model.specs.InOrder.{State, unless_refused, verdict_in, after_call, after_calls}
use Rattle.base_lemmas.proofs.Maps.{get-empty, get-insert, get-remove, other_key}
use Rattle.d3d_model.proofs.Checked.{Passed, all_passed}
use Rattle.d3d_model.proofs.Named.{is_live, NamesLive, names_live, one_of, none_of}

abbrev pub ListLive : Objects → List Numbered → Type 0
ListLive o cs = (class id : ℕ) → list_names class id cs ≡ true → is_live o class id ≡ true

pub record ListsLive (o : Objects) : Type 0 where
  pub opened : (x : ℕ) → ListLive o (context_of o x).recorded
  pub listed : (l : ℕ) (cs : List Numbered) → get o.lists l ≡ Some cs → ListLive o cs

-- ---- what is still live

live_each : (z c1 c2 c3 c4 a b c d a' b' c' d' : Bool) → (c1 ≡ true → a ≡ true → a' ≡ true) → (c2 ≡ true → b ≡ true → b' ≡ true) → (c3 ≡ true → c ≡ true → c' ≡ true) → (c4 ≡ true → d ≡ true → d' ≡ true)
    → z || (if c1 then a else if c2 then b else if c3 then c else if c4 then d else true) ≡ true → z || (if c1 then a' else if c2 then b' else if c3 then c' else if c4 then d' else true) ≡ true
live_each true c1 c2 c3 c4 a b c d a' b' c' d' f g h k e = refl
live_each false true c2 c3 c4 a b c d a' b' c' d' f g h k e = f refl e
live_each false false true c3 c4 a b c d a' b' c' d' f g h k e = g refl e
live_each false false false true c4 a b c d a' b' c' d' f g h k e = h refl e
live_each false false false false true a b c d a' b' c' d' f g h k e = k refl e
live_each false false false false false a b c d a' b' c' d' f g h k e = refl

keep_live : (o o' : Objects) (class id : ℕ) → (class ≡ 1 → is_live_buffer o id ≡ true → is_live_buffer o' id ≡ true) → (class ≡ 2 → is_live_view o id ≡ true → is_live_view o' id ≡ true)
    → (class ≡ 3 → is_live_shader o id ≡ true → is_live_shader o' id ≡ true) → (class ≡ 4 → is_live_query o id ≡ true → is_live_query o' id ≡ true) → is_live o class id ≡ true → is_live o' class id ≡ true
keep_live o o' class id f g h k e =
    live_each (id == 0) (class == 1) (class == 2) (class == 3) (class == 4) (is_live_buffer o id) (is_live_view o id) (is_live_shader o id) (is_live_query o id)
    (is_live_buffer o' id) (is_live_view o' id) (is_live_shader o' id) (is_live_query o' id)
    (λ t. f (eqb-true class 1 t)) (λ t. g (eqb-true class 2 t)) (λ t. h (eqb-true class 3 t)) (λ t. k (eqb-true class 4 t)) e

cond_some : {X : Type 0} (b : Bool) (v : X) (o : Option X) → is_some o ≡ true → is_some (cond b (Some v) o) ≡ true
cond_some true v o e = refl
cond_some false v o e = e

pub some_insert : {X : Type 0} (m : IdMap X) (k : ℕ) (v : X) (q : ℕ) → is_some (get m q) ≡ true → is_some (get (insert m k v) q) ≡ true
some_insert m k v q e = ap is_some (get-insert m k v q) ∙ cond_some (eq_by_cmp nat_cmp q k) v (get m q) e

pub some_remove : {X : Type 0} (m : IdMap X) (k q : ℕ) → (q ≡ k → ⊥) → is_some (get m q) ≡ true → is_some (get (remove m k) q) ≡ true
some_remove m k q apart e = ap is_some (get-remove m k q ∙ ap (λ b. cond b None (get m q)) (other_key q k apart)) ∙ e

begun_some : (o : Option Query) (queries : IdMap Query) (k q : ℕ) → is_some (get queries q) ≡ true → is_some (get (begun_query o queries k) q) ≡ true
begun_some None queries k q e = e
begun_some (Some x) queries k q e = some_insert queries k _ q e

ended_some : (n : ℕ) (o : Option Query) (queries : IdMap Query) (k q : ℕ) → is_some (get queries q) ≡ true → is_some (get (ended_query n o queries k) q) ≡ true
ended_some n None queries k q e = e
ended_some n (Some x) queries k q e = some_insert queries k _ q e

queries_some : (n : ℕ) (queries : IdMap Query) (c : Call) (q : ℕ) → is_some (get queries q) ≡ true → is_some (get (queries_after n queries c) q) ≡ true
queries_some n queries (calls.Begin k) q e = begun_some (get queries k) queries k q e
queries_some n queries (calls.EndQuery k) q e = ended_some n (get queries k) queries k q e
queries_some n queries _ q e = e

-- ---- lists

by_live : (o o' : Objects) (cs : List Numbered) → ((class id : ℕ) → is_live o class id ≡ true → is_live o' class id ≡ true) → ListLive o cs → ListLive o' cs
by_live o o' cs still h = λ class id n. still class id (h class id n)

pub set_at : (P : Context → Type 0) (xs : List Context) (i j : ℕ) (v d : Context) → P v → P (slice_index_or xs j d) → P (slice_index_or (slice_set xs i v) j d)
set_at P [] i j v d pv h = h
set_at P (x ∷ xs) zero zero v d pv h = pv
set_at P (x ∷ xs) zero (suc j) v d pv h = h
set_at P (x ∷ xs) (suc i) zero v d pv h = h
set_at P (x ∷ xs) (suc i) (suc j) v d pv h = set_at P xs i j v d pv h

lists_with : (o : Objects) (x : ℕ) (b : Bindings) → ListsLive o → ListsLive (with_bindings o x b)
lists_with o x b h = record {
  opened = λ y. set_at (λ c. ListLive o c.recorded) o.contexts x y (record { bindings = b; recorded = (context_of o x).recorded }) default_context (h.opened x) (h.opened y);
  listed = h.listed;
}

lists_played : (n : ℕ) (o : Objects) (c : Call) → ListsLive o → ListsLive (played n o c)
lists_played n o c h =
    let o' : Objects = record o { queries = queries_after n o.queries c } in
    let still : (class id : ℕ) → is_live o class id ≡ true → is_live o' class id ≡ true =
    λ class id. keep_live o o' class id (λ e f. f) (λ e f. f) (λ e f. f) (λ e f. queries_some n o.queries c id f) in
    lists_with o' 0 (set_by o (bindings_of o 0) c) (record {
      opened = λ x. by_live o o' (context_of o x).recorded still (h.opened x);
      listed = λ l cs e. by_live o o' cs still (h.listed l cs e);
    })

lists_played_all : (n : ℕ) (o : Objects) (cs : List Numbered) → ListsLive o → ListsLive (played_all n o cs)
lists_played_all n o [] h = h
lists_played_all n o (c ∷ cs) h = lists_played_all n (played n o c.call) cs (lists_played n o c.call h)

any_split : {X : Type 0} (test : X → Bool) (xs ys : List X) → list_any test (xs ++ ys) ≡ true → (list_any test xs ≡ true) ⊎ (list_any test ys ≡ true)
any_split test [] ys e = inr e
any_split test (x ∷ xs) ys e = elim (one_of (test x) (list_any test (xs ++ ys)) e) [
  | inl f ↦ inl (ap (λ (b : Bool). b || list_any test xs) f)
  | inr f ↦ elim (any_split test xs ys f) [
    | inl g ↦ inl (or_second (test x) (list_any test xs) g)
    | inr g ↦ inr g
  ]
]
  where
    or_second : (a b : Bool) → b ≡ true → a || b ≡ true
    or_second true b e = refl
    or_second false b e = e

or_false : (a : Bool) → a || false ≡ true → a ≡ true
or_false true e = refl
or_false false e = e

lists_recorded : (n : ℕ) (o : Objects) (x : ℕ) (c : Call) → NamesLive o c → ListsLive o → ListsLive (recorded_on n o x c)
lists_recorded n o x c live h = record {
  opened = λ y. set_at (λ k. ListLive o k.recorded) o.contexts x y _ default_context
      (λ class id e. elim (any_split (λ (k : Numbered). list_any (is_name class id) (names k.call)) (context_of o x).recorded (record { number = n; call = c } ∷ []) e) [
        | inl f ↦ h.opened x class id f
        | inr f ↦ live class id (or_false (list_any (is_name class id) (names c)) f)
      ])
      (h.opened y);
  listed = h.listed;
}

pub one_value : {X : Type 0} (b : Bool) (v w : X) (o : Option X) → cond b (Some v) o ≡ Some w → (v ≡ w) ⊎ (o ≡ Some w)
one_value true v w o e = inl (ap (λ p. unwrap_or p w) e)
one_value false v w o e = inr e

lists_finished : (o : Objects) (x list : ℕ) → ListsLive o → ListsLive (finished o x list)
lists_finished o x list h = record {
  opened = λ y. set_at (λ k. ListLive o k.recorded) o.contexts x y default_context default_context (λ class id e. absurd cc) (h.opened y);
  listed = λ l cs e. elim (one_value (eq_by_cmp nat_cmp l list) (context_of o x).recorded cs (get o.lists l) (sym (get-insert o.lists list (context_of o x).recorded l) ∙ e)) [
    | inl f ↦ subst (λ (k : List Numbered). ListLive o k) f (h.opened x)
    | inr f ↦ h.listed l cs f
  ];
}

-- ---- a destroyed object is named by no list

pub differ : (b : Bool) → b ≡ false → b ≡ true → ⊥
differ b e f = cc

pub left_of : (a b : Bool) → a || b ≡ false → a ≡ false
left_of true b e = absurd cc
left_of false b e = refl

pub any_at : {X : Type 0} (test : X → Bool) (xs : List X) (i : ℕ) (d : X) → list_any test xs ≡ false → test d ≡ false → test (slice_index_or xs i d) ≡ false
any_at test [] i d e f = f
any_at test (x ∷ xs) zero d e f = left_of (test x) (list_any test xs) e
any_at test (x ∷ xs) (suc i) d e f = any_at test xs i d (none_of (test x) (list_any test xs) e) f

value_any : {X : Type 0} (test : X → Bool) (es : List (ℕ × X)) (l : ℕ) (v : X) → find nat_cmp l es ≡ Some v → list_any test (map (λ e. e.1) es) ≡ false → test v ≡ false
value_any test [] l v e f = absurd cc
value_any test (x ∷ es) l v e f = elim (one_value (eq_by_cmp nat_cmp l x.0) x.1 v (find nat_cmp l es) e) [
  | inl g ↦ subst (λ w. test w ≡ false) g (left_of (test x.1) (list_any test (map (λ e. e.1) es)) f)
  | inr g ↦ value_any test es l v g (none_of (test x.1) (list_any test (map (λ e. e.1) es)) f)
]

-- no call of the list names an object that no list names
abbrev pub Member : Objects → List Numbered → Type 0
Member o cs = (class id : ℕ) → is_listed o class id ≡ false → list_names class id cs ≡ false

pub opened_member : (o : Objects) (x : ℕ) → Member o (context_of o x).recorded
opened_member o x class id e = any_at (λ (c : Context). list_names class id c.recorded) o.contexts x default_context (left_of _ _ e) refl

pub listed_member : (o : Objects) (l : ℕ) (cs : List Numbered) → get o.lists l ≡ Some cs → Member o cs
unfolding get values
listed_member o l cs is class id e = value_any (list_names class id) o.lists.entries l cs is (none_of (list_any (λ x. list_names class id x.recorded) o.contexts) _ e)

pub apart_from : (cs : List Numbered) (k i class id : ℕ) → list_names k i cs ≡ false → list_names class id cs ≡ true → class ≡ k → id ≡ i → ⊥
apart_from cs k i class id none named e f =
    differ (list_names k i cs) none (subst (λ (c : ℕ). list_names c i cs ≡ true) e (subst (λ (j : ℕ). list_names class j cs ≡ true) f named))

destroyed_if : (t1 t2 t3 t4 : Bool) (o : Objects) (i : ℕ) (last : List Check)
    → Passed (if t1 then unused_buffer o i else if t2 then unused_view o i else if t3 then unused_shader o i else if t4 then unused_query o i else last)
    → (cs : List Numbered) → Member o cs → ListLive o cs
    → ListLive (if t1 then record o { buffers = remove o.buffers i } else if t2 then record o { views = remove o.views i } else if t3 then record o { shaders = remove o.shaders i } else if t4 then record o { queries = remove o.queries i } else record o { lists = remove o.lists i }) cs
destroyed_if true t2 t3 t4 o i last p cs none h = λ class id named.
    let unlisted : is_listed o 1 i ≡ false = none_of (is_set o (λ b. holds_buffer b i)) (is_listed o 1 i) (left_of (is_set o (λ b. holds_buffer b i) || is_listed o 1 i) (has_view o i) p.1.0) in
    keep_live o (record o { buffers = remove o.buffers i }) class id (λ e. some_remove o.buffers i id (apart_from cs 1 i class id (none 1 i unlisted) named e)) (λ e f. f) (λ e f. f) (λ e f. f) (h class id named)
destroyed_if false true t3 t4 o i last p cs none h = λ class id named.
    let unlisted : is_listed o 2 i ≡ false = none_of (is_set o (λ b. holds_view b i)) (is_listed o 2 i) p.1.0 in
    keep_live o (record o { views = remove o.views i }) class id (λ e f. f) (λ e. some_remove o.views i id (apart_from cs 2 i class id (none 2 i unlisted) named e)) (λ e f. f) (λ e f. f) (h class id named)
destroyed_if false false true t4 o i last p cs none h = λ class id named.
    let unlisted : is_listed o 3 i ≡ false = none_of (is_set o (λ b. holds_shader b i)) (is_listed o 3 i) p.1.0 in
    keep_live o (record o { shaders = remove o.shaders i }) class id (λ e f. f) (λ e f. f) (λ e. some_remove o.shaders i id (apart_from cs 3 i class id (none 3 i unlisted) named e)) (λ e f. f) (h class id named)
destroyed_if false false false true o i last p cs none h = λ class id named.
    let unlisted : is_listed o 4 i ≡ false = none_of (is_set o (λ b. holds_query b i)) (is_listed o 4 i) (left_of (is_set o (λ b. holds_query b i) || is_listed o 4 i) (query_is o i (λ q. q.begun)) p.1.0) in
    keep_live o (record o { queries = remove o.queries i }) class id (λ e f. f) (λ e f. f) (λ e f. f) (λ e. some_remove o.queries i id (apart_from cs 4 i class id (none 4 i unlisted) named e)) (h class id named)
destroyed_if false false false false o i last p cs none h = h

destroyed_list : (o : Objects) (k i : ℕ) → Passed (destroy_checks o k i) → (cs : List Numbered) → Member o cs → ListLive o cs → ListLive (destroyed o k i) cs
destroyed_list o k i p cs none h = destroyed_if (k == 1) (k == 2) (k == 3) (k == 4) o i (if k == 5 then known_list o i else (true, BadUsage) ∷ []) p cs none h

pub contexts_if : (t1 t2 t3 t4 : Bool) (o : Objects) (i : ℕ)
    → (if t1 then record o { buffers = remove o.buffers i } else if t2 then record o { views = remove o.views i } else if t3 then record o { shaders = remove o.shaders i } else if t4 then record o { queries = remove o.queries i } else record o { lists = remove o.lists i }).contexts ≡ o.contexts
contexts_if true t2 t3 t4 o i = refl
contexts_if false true t3 t4 o i = refl
contexts_if false false true t4 o i = refl
contexts_if false false false true o i = refl
contexts_if false false false false o i = refl

pub one_removed : {X : Type 0} (m : IdMap X) (k q : ℕ) (v : X) → get (remove m k) q ≡ Some v → get m q ≡ Some v
one_removed m k q v e = by_test (eq_by_cmp nat_cmp q k) (get m q) (sym (get-remove m k q) ∙ e)
  where
    by_test : (b : Bool) (o : Option _) → cond b None o ≡ Some v → o ≡ Some v
    by_test true o f = absurd cc
    by_test false o f = f

pub lists_if : (t1 t2 t3 t4 : Bool) (o : Objects) (i l : ℕ) (cs : List Numbered)
    → get (if t1 then record o { buffers = remove o.buffers i } else if t2 then record o { views = remove o.views i } else if t3 then record o { shaders = remove o.shaders i } else if t4 then record o { queries = remove o.queries i } else record o { lists = remove o.lists i }).lists l ≡ Some cs
    → get o.lists l ≡ Some cs
lists_if true t2 t3 t4 o i l cs e = e
lists_if false true t3 t4 o i l cs e = e
lists_if false false true t4 o i l cs e = e
lists_if false false false true o i l cs e = e
lists_if false false false false o i l cs e = one_removed o.lists i l cs e

lists_destroyed : (o : Objects) (k i : ℕ) → Passed (destroy_checks o k i) → ListsLive o → ListsLive (destroyed o k i)
lists_destroyed o k i p h = record {
  opened = λ x. subst (λ (cs : List Context). ListLive (destroyed o k i) (slice_index_or cs x default_context).recorded) (sym (contexts_if (k == 1) (k == 2) (k == 3) (k == 4) o i))
      (destroyed_list o k i p (context_of o x).recorded (opened_member o x) (h.opened x));
  listed = λ l cs e. let before = lists_if (k == 1) (k == 2) (k == 3) (k == 4) o i l cs e in destroyed_list o k i p cs (listed_member o l cs before) (h.listed l cs before);
}

-- ---- all calls

lists_same : (o o' : Objects) → o'.contexts ≡ o.contexts → o'.lists ≡ o.lists → ((class id : ℕ) → is_live o class id ≡ true → is_live o' class id ≡ true) → ListsLive o → ListsLive o'
lists_same o o' ec el still h = record {
  opened = λ x. subst (λ (cs : List Context). ListLive o' (slice_index_or cs x default_context).recorded) (sym ec) (by_live o o' (context_of o x).recorded still (h.opened x));
  listed = λ l cs e. by_live o o' cs still (h.listed l cs (ap (λ (m : IdMap (List Numbered)). get m l) (sym el) ∙ e));
}

passed_front : (cs ds : List Check) → Passed (cs ++ ds) → Passed cs
passed_front [] ds p = tt
passed_front (c ∷ cs) ds p = (p.0, passed_front cs ds p.1)

pub own_checks : (o : Objects) (past : Past) (x : ℕ) (c : Call) → verdict o past (record { context = x; call = c }) ≡ None → Passed (call_checks o past x c)
own_checks o past x c e =
    passed_front (call_checks o past x c) ((is_too_long o x (place_of c), TooMuchMemory) ∷ [])
    (all_passed ((is_wrong_at (place_of c) x, WrongContext) ∷ (call_checks o past x c ++ (is_too_long o x (place_of c), TooMuchMemory) ∷ [])) e).1

lists_each : (n : ℕ) (o : Objects) (x : ℕ) (c : Call) → NamesLive o c → ListsLive o → ListsLive (if x == 0 then played n o c else recorded_on n o x c)
lists_each n o x c live h = elim (x == 0) as (λ b. ListsLive (if b then played n o c else recorded_on n o x c)) [ true ↦ lists_played n o c h | false ↦ lists_recorded n o x c live h ]

lists_after : (n : ℕ) (o : Objects) (past : Past) (x : ℕ) (c : Call) → Passed (call_checks o past x c) → ListsLive o → ListsLive (objects_after n o x c)
lists_after n o past x (calls.Buffer id size usage bind misc stride bytes) p h =
    let o' = made_by n o (calls.Buffer id size usage bind misc stride bytes) in
    lists_same o o' refl refl (λ class q. keep_live o o' class q (λ e. some_insert o.buffers id _ q) (λ e f. f) (λ e f. f) (λ e f. f)) h
lists_after n o past x (calls.View view res kind form components first count) p h =
    let o' = made_by n o (calls.View view res kind form components first count) in
    lists_same o o' refl refl (λ class q. keep_live o o' class q (λ e f. f) (λ e. some_insert o.views view _ q) (λ e f. f) (λ e f. f)) h
lists_after n o past x (calls.CreateShader id words) p h =
    let o' = made_by n o (calls.CreateShader id words) in
    lists_same o o' refl refl (λ class q. keep_live o o' class q (λ e f. f) (λ e f. f) (λ e. some_insert o.shaders id _ q) (λ e f. f)) h
lists_after n o past x (calls.Query id sort) p h =
    let o' = made_by n o (calls.Query id sort) in
    lists_same o o' refl refl (λ class q. keep_live o o' class q (λ e f. f) (λ e f. f) (λ e f. f) (λ e. some_insert o.queries id _ q)) h
lists_after n o past x (calls.Destroy class id) p h = lists_destroyed o class id p h
lists_after n o past x (calls.MapRead res flag offset len) p h = h
lists_after n o past x (calls.GetData query flag) p h = h
lists_after n o past x calls.Flush p h = h
lists_after n o past x (calls.ExecuteList list flag) p h =
    lists_with (played_all n (list_start o) (calls_of_list o list)) 0 (if flag == 1 then bindings_of o 0 else default_bindings)
    (lists_played_all n (list_start o) (calls_of_list o list) (lists_with o 0 default_bindings h))
lists_after n o past x (calls.FinishList list) p h = lists_finished o x list h
lists_after n o past x c p h = lists_each n o x c (names_live o past x c p) h

none_at : (test : Context → Bool) (n x : ℕ) → test default_context ≡ false → test (slice_index_or (replicate n default_context) x default_context) ≡ false
none_at test n x e = any_at test (replicate n default_context) x default_context (none_in n) e
  where
    none_in : (n : ℕ) → list_any test (replicate n default_context) ≡ false
    none_in zero = refl
    none_in (suc n) = ap (λ (b : Bool). b || list_any test (replicate n default_context)) e ∙ none_in n

pub lists_live : (log : List Issued) (n : ℕ) → ListsLive (after_calls log n).objects
unfolding after_calls
lists_live log zero = record {
  opened = λ x class id e. absurd (differ (list_names class id (context_of no_objects x).recorded) (none_at (λ c. list_names class id c.recorded) 17 x refl) e);
  listed = λ l cs e. absurd (no_list (get (empty {X = List Numbered}) l) cs (get-empty (List Numbered) l) e);
}
  where
    no_list : (o : Option (List Numbered)) (cs : List Numbered) → o ≡ None → o ≡ Some cs → ⊥
    no_list o cs e f = cc
lists_live log (suc n) = after_one (suc n) (after_calls log n) (slice_get log n) (lists_live log n)
  where
    unless : (n : ℕ) (s : State) (i : Issued) (v : Option Refusal) → verdict_in s i ≡ v → ListsLive s.objects → ListsLive (unless_refused n s i v).objects
    unless n s i (Some why) e h = h
    unless n s i None e h = lists_after n s.objects s.past i.context i.call (own_checks s.objects s.past i.context i.call e) h

    after_one : (n : ℕ) (s : State) (o : Option Issued) → ListsLive s.objects → ListsLive (after_call n s o).objects
    after_one n s None h = h
    after_one n s (Some i) h = unless n s i (verdict_in s i) refl h
