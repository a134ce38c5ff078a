-- Each map in an open or a live list writes a live buffer, and a no-overwrite there still passes its check by the
-- list's own calls.
use Rattle.std.proofs.Common.{◌≡◌, ℕ, zero, suc, Bool, true, false, not, ◌||◌, cond, List, [], ◌∷◌, ◌++◌, replicate}
use Rattle.std.proofs.Common.{Option, Some, None, refl, sym, ap, ◌∙◌, subst, inl, inr, ◌⊎◌}
use Rattle.std.specs.Prelude.{◌==◌, ⊤, is_some, unwrap_or, slice_get, slice_set, slice_index_or, if◌then◌else◌}
use Rattle.std.specs.List.{list_any}
use Rattle.std.specs.Ordering.{nat_cmp, eq_by_cmp}
use Rattle.std.proofs.lemmas.Bool.{not-false, or_left, or_right, or_cases, eq-eqb}
use Rattle.dx_types.specs.declared.refusal.Refusal.{Refusal}
use Rattle.dx_types.specs.declared.refusal.Refusal.TheVariants.{InUse, FirstMapNotDiscard}
use Rattle.call_log.specs.Call as calls
use Rattle.call_log.specs.Call.{Call, Issued}
use Rattle.base_lemmas.specs.IdMap.{IdMap, empty, get, remove}
use Rattle.d3d_model.specs.Binding.{Bindings, default_bindings}
use Rattle.d3d_model.specs.D3dState.{Objects, Numbered, Context, default_context, no_objects, context_of, bindings_of}
use Rattle.d3d_model.specs.D3dState.{with_bindings, calls_of_list}
use Rattle.d3d_model.specs.Past.{Past, was_discarded}
use Rattle.d3d_model.specs.Stream.{names, is_name, list_names, past_of_list, set_by}
use Rattle.d3d_model.specs.Past.{Deed, then_done}
use Rattle.d3d_model.specs.Verdict.{is_live_buffer, in_use, no_overwrite_checks, call_checks, verdict}
use Rattle.d3d_model.specs.Effect.{destroyed, played, played_all, list_start, recorded_on, finished, objects_after}
use Rattle.d3d_model.specs.InOrder.{State, unless_refused, verdict_in, after_call, after_calls}
use Rattle.base_lemmas.proofs.Maps.{get-empty, get-insert, get-remove}
use Rattle.d3d_model.proofs.Checked.{Passed}
use Rattle.d3d_model.proofs.Listed.{ListLive, ListsLive, Member, lists_live, opened_member, listed_member, own_checks}
use Rattle.d3d_model.proofs.Frozen.{same_list}
use Rattle.d3d_model.proofs.Unchanged.{ListAgrees, agrees_after}

-- a no-overwrite is of bytes that the past discarded and doesn't bind
abbrev pub OverRight : Past → ℕ → ℕ → ℕ → List ℕ → Type 0
OverRight past res mode offset bytes = (mode == 1) ≡ true → (was_discarded past res ≡ true)
    × (in_use past res offset bytes ≡ false)

-- a call of a list, behind the calls of this past
abbrev pub CallRight : Objects → Past → Call → Type 0
CallRight o past (calls.MapWrite res mode offset bytes) = (is_live_buffer o res ≡ true)
    × OverRight past res mode offset bytes
CallRight o past _ = ⊤

-- each call of a list, behind those before it
abbrev pub ListRight : Objects → List Numbered → Type 0
ListRight o cs = (done : List Numbered) (c : Numbered) (back : List Numbered) → cs ≡ done ++ c ∷ back
    → CallRight o (past_of_list o done) c.call

pub record ListsRight (o : Objects) : Type 0 where
  pub opened : (x : ℕ) → ListRight o (context_of o x).recorded
  pub listed : (l : ℕ) (cs : List Numbered) → get o.lists l ≡ Some cs → ListRight o cs

-- ---- lists

tail_of : {X : Type 0} → List X → List X
tail_of [] = []
tail_of (x ∷ xs) = xs

head_of : {X : Type 0} → X → List X → X
head_of d [] = d
head_of d (x ∷ xs) = x

same_tail : {X : Type 0} (x y : X) (xs ys : List X) → x ∷ xs ≡ y ∷ ys → xs ≡ ys
unfolding tail_of
same_tail x y xs ys e = ap tail_of e

same_head : {X : Type 0} (x y : X) (xs ys : List X) → x ∷ xs ≡ y ∷ ys → x ≡ y
unfolding head_of
same_head x y xs ys e = ap (head_of x) e

not_none : {X : Type 0} (done : List X) (c : X) (back : List X) → [] ≡ done ++ c ∷ back → ⊥
not_none [] c back e = cc
not_none (d ∷ done) c back e = cc

-- one of a list with one more is one of the list, or the last
pub last_or_before : {X : Type 0} (xs : List X) (y : X) (done : List X) (c : X) (back : List X)
    → xs ++ y ∷ [] ≡ done ++ c ∷ back
    → ((more : List X) × (xs ≡ done ++ c ∷ more)) ⊎ ((xs ≡ done) × (y ≡ c))
last_or_before [] y [] c back e = inr (refl, same_head y c [] back e)
last_or_before [] y (d ∷ done) c back e = absurd (not_none done c back (same_tail y d [] (done ++ c ∷ back) e))
last_or_before (x ∷ xs) y [] c back e = let first = same_head x c (xs ++ y ∷ []) back e in inl (xs, λ i. first i ∷ xs)
last_or_before (x ∷ xs) y (d ∷ done) c back e =
    let first = same_head x d (xs ++ y ∷ []) (done ++ c ∷ back) e in
    elim (last_or_before xs y done c back (same_tail x d (xs ++ y ∷ []) (done ++ c ∷ back) e)) [
      | inl s ↦ inl (s.0, λ i. first i ∷ s.1 i)
      | inr s ↦ inr ((λ i. first i ∷ s.0 i), s.1)
    ]

-- what some calls of a list name, the list names
names_front : (class id : ℕ) (done back : List Numbered) → list_names class id done ≡ true
    → list_names class id (done ++ back) ≡ true
names_front class id [] back e = absurd cc
names_front class id (c ∷ done) back e =
    elim (or_cases (list_any (is_name class id) (names c.call)) (list_names class id done) e) [
      | inl f ↦ or_left (list_any (is_name class id) (names c.call)) _ f
      | inr f ↦ or_right (list_any (is_name class id) (names c.call)) _ (names_front class id done back f)
    ]

names_back : (class id : ℕ) (done back : List Numbered) → list_names class id back ≡ true
    → list_names class id (done ++ back) ≡ true
names_back class id [] back e = e
names_back class id (c ∷ done) back e = or_right (list_any (is_name class id) (names c.call)) _
    (names_back class id done back e)

-- ---- from one state to another

goes_on : (o o' : Objects) (past : Past) (c : Call) → ((res : ℕ) → list_any (is_name 1 res) (names c) ≡ true
    → get o'.buffers res ≡ get o.buffers res) → CallRight o past c → CallRight o' past c
goes_on o o' past (calls.MapWrite res mode offset bytes) same h = (ap is_some (same res (self_named res)) ∙ h.0, h.1)
  where
    self_named : (id : ℕ) → list_any (is_name 1 id) (names (calls.MapWrite id mode offset bytes)) ≡ true
    self_named id = ap (λ b. b || false) (eq-eqb id id refl)
goes_on o o' past _ same h = h

list_goes_on : (o o' : Objects) (cs : List Numbered) → ListAgrees o o' cs → ListRight o cs → ListRight o' cs
list_goes_on o o' cs agrees h = λ done c back e.
    let front : ListAgrees o o' done = record {
      buffers = λ id named. agrees.buffers id (ap (list_names 1 id) e ∙ names_front 1 id done (c ∷ back) named);
      views = λ id named. agrees.views id (ap (list_names 2 id) e ∙ names_front 2 id done (c ∷ back) named);
    } in
    let past : past_of_list o done ≡ past_of_list o' done = ap (λ (ds : List Deed). then_done 0 [] ds)
    (sym (same_list o o' done front)) in
    subst (λ (p : Past). CallRight o' p c.call) past (goes_on o o' (past_of_list o done) c.call
    (λ res named. agrees.buffers res (ap (list_names 1 res) e
    ∙ names_back 1 res done (c ∷ back) (or_left (list_any (is_name 1 res) (names c.call))
    (list_names 1 res back) named))) (h done c back e))

one_more : (o : Objects) (cs : List Numbered) (c : Numbered) → ListRight o cs
    → CallRight o (past_of_list o cs) c.call → ListRight o (cs ++ c ∷ [])
one_more o cs c h own = λ done d back e. elim (last_or_before cs c done d back e) [
  | inl s ↦ h done d s.0 s.1
  | inr s ↦ subst (λ (k : List Numbered). CallRight o (past_of_list o k) d.call) s.0
      (subst (λ (k : Numbered). CallRight o (past_of_list o cs) k.call) s.1 own)
]

pub none_right : (o : Objects) → ListRight o []
none_right o = λ done c back e. absurd (not_none done c back e)

-- ---- contexts

recorded_at : (xs : List Context) (i j : ℕ) (v d : Context) → v.recorded ≡ (slice_index_or xs i d).recorded
    → (slice_index_or (slice_set xs i v) j d).recorded ≡ (slice_index_or xs j d).recorded
recorded_at [] i j v d e = refl
recorded_at (x ∷ xs) zero zero v d e = e
recorded_at (x ∷ xs) zero (suc j) v d e = refl
recorded_at (x ∷ xs) (suc i) zero v d e = refl
recorded_at (x ∷ xs) (suc i) (suc j) v d e = recorded_at xs i j v d e

set_at : (P : Context → Type 0) (xs : List Context) (i j : ℕ) (v d : Context) → P v → P (slice_index_or xs j d)
    → P (slice_index_or (slice_set xs i v) j d)
set_at P [] i j v d pv h = h
set_at P (x ∷ xs) zero zero v d pv h = pv
set_at P (x ∷ xs) zero (suc j) v d pv h = h
set_at P (x ∷ xs) (suc i) zero v d pv h = h
set_at P (x ∷ xs) (suc i) (suc j) v d pv h = set_at P xs i j v d pv h

abbrev SameLists : Objects → Objects → Type 0
SameLists o o' = ((x : ℕ) → (context_of o' x).recorded ≡ (context_of o x).recorded)
    × ((l : ℕ) (cs : List Numbered) → get o'.lists l ≡ Some cs → get o.lists l ≡ Some cs)

played_lists : (n : ℕ) (o : Objects) (c : Call) → SameLists o (played n o c)
played_lists n o c = (
  λ x. recorded_at o.contexts 0 x (record {
    bindings = set_by o (bindings_of o 0) c;
    recorded =
        (context_of o 0).recorded;
  }) default_context refl,
  λ l cs e. e,
)

with_lists : (o : Objects) (b : Bindings) → SameLists o (with_bindings o 0 b)
with_lists o b = (
  λ x. recorded_at o.contexts 0 x (record { bindings = b; recorded = (context_of o 0).recorded }) default_context
      refl,
  λ l cs e. e,
)

then_lists : (o p q : Objects) → SameLists o p → SameLists p q → SameLists o q
then_lists o p q f g = (λ x. g.0 x ∙ f.0 x, λ l cs e. f.1 l cs (g.1 l cs e))

all_lists : (n : ℕ) (o : Objects) (cs : List Numbered) → SameLists o (played_all n o cs)
all_lists n o [] = (λ x. refl, λ l cs e. e)
all_lists n o (c ∷ cs) = then_lists o (played n o c.call) (played_all n (played n o c.call) cs)
    (played_lists n o c.call) (all_lists n (played n o c.call) cs)

one_removed : {X : Type 0} (m : IdMap X) (k q : ℕ) (v : X) → get (remove m k) q ≡ Some v → get m q ≡ Some v
one_removed m k q v e = by_test (eq_by_cmp nat_cmp q k) (get m q) (sym (get-remove m k q) ∙ e)
  where
    by_test : (b : Bool) (o : Option _) → cond b None o ≡ Some v → o ≡ Some v
    by_test true o f = absurd cc
    by_test false o f = f

destroyed_lists : (t1 t2 t3 t4 : Bool) (o : Objects) (i : ℕ)
    → SameLists o (if t1 then record o { buffers = remove o.buffers i } else if t2 then record o {
      views =
          remove o.views i;
    } else if t3 then record o { shaders = remove o.shaders i } else if t4 then record o
    { queries = remove o.queries i } else record o { lists = remove o.lists i })
destroyed_lists true t2 t3 t4 o i = (λ x. refl, λ l cs e. e)
destroyed_lists false true t3 t4 o i = (λ x. refl, λ l cs e. e)
destroyed_lists false false true t4 o i = (λ x. refl, λ l cs e. e)
destroyed_lists false false false true o i = (λ x. refl, λ l cs e. e)
destroyed_lists false false false false o i = (λ x. refl, λ l cs e. one_removed o.lists i l cs e)

-- ---- all calls

-- an accepted call leaves what the lists before it do right
abbrev Agree : Objects → Objects → Type 0
Agree o o' = (cs : List Numbered) → ListLive o cs → Member o cs → ListAgrees o o' cs

right_same : (o o' : Objects) → Agree o o' → SameLists o o' → ListsLive o → ListsRight o → ListsRight o'
right_same o o' agree same live h = record {
  opened = λ x. subst (λ (cs : List Numbered). ListRight o' cs) (sym (same.0 x))
      (list_goes_on o o' (context_of o x).recorded (agree (context_of o x).recorded (live.opened x)
      (opened_member o x)) (h.opened x));
  listed = λ l cs e. let was = same.1 l cs e in list_goes_on o o' cs
      (agree cs (live.listed l cs was) (listed_member o l cs was)) (h.listed l cs was);
}

right_finished : (o : Objects) (x list : ℕ) → Agree o (finished o x list) → ListsLive o → ListsRight o
    → ListsRight (finished o x list)
right_finished o x list agree live h =
    let o' : Objects = finished o x list in
    let opened : (y : ℕ) → ListRight o' (context_of o y).recorded =
    λ y. list_goes_on o o' (context_of o y).recorded (agree (context_of o y).recorded (live.opened y)
    (opened_member o y)) (h.opened y) in
    record {
      opened = λ y. set_at (λ k. ListRight o' k.recorded) o.contexts x y default_context default_context
          (none_right o') (opened y);
      listed = λ l cs e. elim (one_value (eq_by_cmp nat_cmp l list) (context_of o x).recorded cs (get o.lists l)
          (sym (get-insert o.lists list (context_of o x).recorded l) ∙ e)) [
            | inl f ↦ subst (λ (k : List Numbered). ListRight o' k) f (opened x)
            | inr f ↦ list_goes_on o o' cs (agree cs (live.listed l cs f) (listed_member o l cs f)) (h.listed l cs f)
          ];
    }
  where
    one_value : (b : Bool) (v w : List Numbered) (o : Option (List Numbered)) → cond b (Some v) o ≡ Some w → (v ≡ w)
        ⊎ (o ≡ Some w)
    one_value true v w o e = inl (ap (λ p. unwrap_or p w) e)
    one_value false v w o e = inr e

right_recorded : (n : ℕ) (o : Objects) (x : ℕ) (c : Call) → Agree o (recorded_on n o x c)
    → CallRight o (past_of_list o (context_of o x).recorded) c → ListsLive o → ListsRight o
    → ListsRight (recorded_on n o x c)
right_recorded n o x c agree own live h =
    let o' : Objects = recorded_on n o x c in
    let here : List Numbered = (context_of o x).recorded in
    let agreed : (y : ℕ) → ListAgrees o o' (context_of o y).recorded =
    λ y. agree (context_of o y).recorded (live.opened y) (opened_member o y) in
    let opened : (y : ℕ) → ListRight o' (context_of o y).recorded =
    λ y. list_goes_on o o' (context_of o y).recorded (agreed y) (h.opened y) in
    let past : past_of_list o here ≡ past_of_list o' here = ap (λ (ds : List Deed). then_done 0 [] ds)
    (sym (same_list o o' here (agreed x))) in
    let now : CallRight o' (past_of_list o' here) c = subst (λ (p : Past). CallRight o' p c) past
    (goes_on o o' (past_of_list o here) c (λ res named. refl) own) in
    record {
      opened = λ y. set_at (λ k. ListRight o' k.recorded) o.contexts x y
          (record {
            bindings = set_by o (bindings_of o x) c;
            recorded =
                here ++ record { number = n; call = c } ∷ [];
          }) default_context
          (one_more o' here (record { number = n; call = c }) (opened x) now) (opened y);
      listed = λ l cs e. list_goes_on o o' cs (agree cs (live.listed l cs e) (listed_member o l cs e))
          (h.listed l cs e);
    }

-- a call on a deferred context was checked so
own_right : (o : Objects) (past : Past) (x : ℕ) (c : Call) → (x == 0) ≡ false → Passed (call_checks o past x c)
    → CallRight o (past_of_list o (context_of o x).recorded) c
own_right o past x (calls.MapWrite res mode offset bytes) deferred p = (
  not-false (is_live_buffer o res) p.0,
  λ over.
      let checks : Passed (no_overwrite_checks o past x res offset bytes) =
      subst (λ b. Passed (if b then no_overwrite_checks o past x res offset bytes else [])) over p.1.1.1.1 in
      let here : Past = past_of_list o (context_of o x).recorded in
      let apart = subst
      (λ b. Passed (if b then (in_use past res offset bytes, InUse) ∷ [] else
      (not (was_discarded here res), FirstMapNotDiscard) ∷ (in_use here res offset bytes, InUse) ∷ [])) deferred
      checks in
      (not-false (was_discarded here res) apart.0, apart.1.0),
)
own_right o past x _ deferred p = tt

right_each : (n : ℕ) (o : Objects) (past : Past) (x : ℕ) (c : Call)
    → Agree o (if x == 0 then played n o c else recorded_on n o x c) → Passed (call_checks o past x c) → ListsLive o
    → ListsRight o
    → ListsRight (if x == 0 then played n o c else recorded_on n o x c)
right_each n o past x c agree p live h =
    elim (x == 0) as (λ b. (x == 0) ≡ b → Agree o (if b then played n o c else recorded_on n o x c)
    → ListsRight (if b then played n o c else recorded_on n o x c)) [
      | true ↦ λ e a. right_same o (played n o c) a (played_lists n o c) live h
      | false ↦ λ e a. right_recorded n o x c a (own_right o past x c e p) live h
    ] refl agree

right_by : (n : ℕ) (o : Objects) (past : Past) (x : ℕ) (c : Call) → Agree o (objects_after n o x c)
    → Passed (call_checks o past x c) → ListsLive o → ListsRight o → ListsRight (objects_after n o x c)
right_by n o past x (calls.Buffer id size usage bind misc stride bytes) a p live h =
    right_same o _ a (λ x. refl, λ l cs e. e) live h
right_by n o past x (calls.View view res kind form components first count) a p live h =
    right_same o _ a (λ x. refl, λ l cs e. e) live h
right_by n o past x (calls.CreateShader id words) a p live h = right_same o _ a (λ x. refl, λ l cs e. e) live h
right_by n o past x (calls.Query id sort) a p live h = right_same o _ a (λ x. refl, λ l cs e. e) live h
right_by n o past x (calls.Destroy class id) a p live h = right_same o (destroyed o class id) a
    (destroyed_lists (class == 1) (class == 2) (class == 3) (class == 4) o id) live h
right_by n o past x (calls.MapRead res flag offset len) a p live h = h
right_by n o past x (calls.GetData query flag) a p live h = h
right_by n o past x calls.Flush a p live h = h
right_by n o past x (calls.ExecuteList list flag) a p live h =
    let o' : Objects = played_all n (list_start o) (calls_of_list o list) in
    right_same o (objects_after n o x (calls.ExecuteList list flag)) a
    (then_lists o o' (objects_after n o x (calls.ExecuteList list flag))
    (then_lists o (list_start o) o' (with_lists o default_bindings)
    (all_lists n (list_start o) (calls_of_list o list)))
    (with_lists o' (if flag == 1 then bindings_of o 0 else default_bindings))) live h
right_by n o past x (calls.FinishList list) a p live h = right_finished o x list a live h
right_by n o past x c a p live h = right_each n o past x c a p live h

right_after : (n : ℕ) (o : Objects) (past : Past) (x : ℕ) (c : Call)
    → verdict o past (record { context = x; call = c }) ≡ None → ListsLive o → ListsRight o
    → ListsRight (objects_after n o x c)
right_after n o past x c e live h =
    let p = own_checks o past x c e in
    right_by n o past x c (λ cs alive member. agrees_after n o past x c p cs alive member) p live h

no_list : {A : Type 0} (o : Option (List Numbered)) (cs : List Numbered) → o ≡ None → o ≡ Some cs → A
no_list o cs e f = absurd cc

recorded_none : (n x : ℕ) → (slice_index_or (replicate n default_context) x default_context).recorded ≡ []
recorded_none zero x = refl
recorded_none (suc n) zero = refl
recorded_none (suc n) (suc x) = recorded_none n x

pub lists_right : (log : List Issued) (n : ℕ) → ListsRight (after_calls log n).objects
unfolding after_calls
lists_right log zero = record {
  opened = λ x. subst (λ (cs : List Numbered). ListRight no_objects cs) (sym (recorded_none 17 x))
      (none_right no_objects);
  listed = λ l cs e. no_list (get (empty {X = List Numbered}) l) cs (get-empty (List Numbered) l) e;
}
lists_right log (suc n) = after_one (suc n) (after_calls log n) (slice_get log n) (lists_live log n) (lists_right log n)
  where
    unless : (n : ℕ) (s : State) (i : Issued) (v : Option Refusal) → verdict_in s i ≡ v → ListsLive s.objects
        → ListsRight s.objects → ListsRight (unless_refused n s i v).objects
    unless n s i (Some why) e live h = h
    unless n s i None e live h = right_after n s.objects s.past i.context i.call e live h

    after_one : (n : ℕ) (s : State) (o : Option Issued) → ListsLive s.objects → ListsRight s.objects
        → ListsRight (after_call n s o).objects
    after_one n s None live h = h
    after_one n s (Some i) live h = unless n s i (verdict_in s i) refl live h
