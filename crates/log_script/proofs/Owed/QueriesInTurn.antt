-- What the turns of each call ask of queries is so behind the turns before it, in the script of every log.
use Rattle.std.proofs.Common.{◌≡◌, ℕ, zero, suc, ◌<◌, ◌≤◌, Bool, true, false, cond, ◌||◌, List, [], ◌∷◌, ◌++◌, length}
use Rattle.std.proofs.Common.{Option, Some, None, refl, sym, ap, ◌∙◌, subst, inl, inr, arith}
use Rattle.std.specs.Prelude.{◌==◌, is_some, slice_get, if◌then◌else◌}
use Rattle.std.specs.List.{list_any}
use Rattle.std.specs.Ordering.{nat_cmp, eq_by_cmp}
use Rattle.std.proofs.lemmas.Bool.{cases_eq, eq-eqb, ne_eqb, and_right, or_parts, or_cases, or_left, or_right}
use Rattle.std.proofs.lemmas.Bool.{not-false}
use Rattle.dx_types.specs.declared.refusal.Refusal.{Refusal}
use Rattle.dx_types.specs.declared.refusal.Refusal.TheVariants.{BadUsage}
use Rattle.call_log.specs.Call as calls
use Rattle.call_log.specs.Call.{Call, Issued}
use Rattle.base_lemmas.specs.IdMap.{IdMap, get, insert, remove}
use Rattle.d3d_model.specs.Check.{Check}
use Rattle.d3d_model.specs.Binding.{holds_query}
use Rattle.d3d_model.specs.D3dState.{Objects, Query, Numbered, context_of, bindings_of, calls_if, calls_of_list}
use Rattle.d3d_model.specs.Past.{Past}
use Rattle.d3d_model.specs.Stream.{binds, begun_after, begins, begun_in_list, is_listed}
use Rattle.d3d_model.specs.Verdict.{is_set, is_begun_on, query_is_one, has_result, place_of, call_checks}
use Rattle.d3d_model.specs.Verdict.{unused_buffer, unused_view, unused_shader, unused_query, known_list}
use Rattle.d3d_model.specs.Effect.{queries_after, played, played_all, list_start, recorded_on, objects_after}
use Rattle.d3d_model.specs.InOrder.{State, unless_refused, verdict_in, after_call, after_calls}
use Rattle.d3d_model.specs.Uses.{use_in}
use Rattle.d3d_model.specs.ReplyText.{sort_if, query_value}
use Rattle.base_lemmas.proofs.Maps.{get-empty, get-remove, get_same, get_other, other_key}
use Rattle.d3d_model.proofs.Checked.{Passed as AllPassed, free_id}
use Rattle.d3d_model.proofs.Listed.{own_checks}
use Rattle.core_model.specs.Script.{Set_state, Turn, Refused, Passed, Flushed, Asked, Item}
use Rattle.log_script.specs.Makers.{of_makers}
use Rattle.log_script.specs.Plays.{counts_invocations, making_of}
use Rattle.log_script.specs.Turns.{item_of, list_items, ask_of, turns_by_place, turns_unless, turns_in, turns_of}
use Rattle.log_script.specs.LogScript.{turns_upto, script_of}
use Rattle.log_script.proofs.Owed.Positions.{AtEach, each_append, at_middle}
use Rattle.log_script.proofs.Owed.QueryMaps.{flag, after_begin, after_end, started_counts, counts_after}
use Rattle.log_script.proofs.Owed.QueryMaps.{counted_begun, counted_ended}
use Rattle.log_script.proofs.Owed.QueryLists.{Ready, InTurn, ListInTurn, ListsInTurn, ready_on, lists_in_turn}
use Rattle.log_script.proofs.Owed.QueryPlays.{quiet_refused, quiet_passed, quiet_flushed, quiet_asked, making_quiet}
use Rattle.log_script.proofs.Owed.QuerySteps.{counting, Agrees, AllAgree, Right, Goes, goes_quiet, goes_item}
use Rattle.log_script.proofs.Owed.QuerySteps.{goes_nothing, goes_on, goes_played, asked_right}

-- ---- what is begun behind calls of a list

pub begun_more : (q : ℕ) (b : Bool) (xs ys : List Numbered) → begun_after q b (xs ++ ys)
    ≡ begun_after q (begun_after q b xs) ys
begun_more q b [] ys = refl
begun_more q b (x ∷ xs) ys = begun_more q (begun_after q b (x ∷ [])) xs ys

or_off : (a b : Bool) → b ≡ false → (a || b) ≡ a
or_off true b e = refl
or_off false b e = e

-- a query that is begun before is begun behind no fewer
begun_still : (q : ℕ) (a b : Bool) (cs : List Numbered) → (a ≡ true → b ≡ true) → begun_after q a cs ≡ true
    → begun_after q b cs ≡ true
begun_still q a b [] h e = h e
begun_still q a b (c ∷ cs) h e = begun_still q (begun_after q a (c ∷ [])) (begun_after q b (c ∷ [])) cs
    (one c.number c.call) e
  where
    stopped_or : (t : Bool) → (if t then false else a) ≡ true → (if t then false else b) ≡ true
    stopped_or true f = f
    stopped_or false f = h f

    one : (k : ℕ) (c : Call) → begun_after q a (record { number = k; call = c } ∷ []) ≡ true
        → begun_after q b (record { number = k; call = c } ∷ []) ≡ true
    one k (calls.Begin p) f =
        elim (or_cases a (p == q) f) [ inl g ↦ or_left b (p == q) (h g) | inr g ↦ or_right b (p == q) g ]
    one k (calls.EndQuery p) f = stopped_or (p == q) f
    one k _ f = h f

-- a call of a list keeps what is begun
pub flag_after : (m k : ℕ) (qs : IdMap Query) (c : Call) (b : ℕ → Bool)
    → ((q : ℕ) → counts_invocations (get qs q) ≡ true → flag (get qs q) ≡ b q)
    → (q : ℕ) → counts_invocations (get (queries_after m qs c) q) ≡ true
    → flag (get (queries_after m qs c) q) ≡ begun_after q (b q) (record { number = k; call = c } ∷ [])
flag_after m k qs (calls.Begin p) b h q =
    after_begin (λ q o. counts_invocations o ≡ true → flag o ≡ (b q || (p == q))) qs p
    (λ e. counted_begun (get qs p) (sym (started_counts (get qs p)) ∙ e)
    ∙ sym (or_right (b p) (p == p) (eq-eqb p p refl)))
    (λ q apart e. h q e ∙ sym (or_off (b q) (p == q) (ne_eqb p q (λ s. apart (sym s)))))
    q
flag_after m k qs (calls.EndQuery p) b h q =
    after_end (λ q o. counts_invocations o ≡ true → flag o ≡ (if p == q then false else b q)) m qs p
    (λ e. counted_ended m (get qs p) ∙ sym (ap (λ t. if t then false else b p) (eq-eqb p p refl)))
    (λ q apart e. h q e ∙ sym (ap (λ t. if t then false else b q) (ne_eqb p q (λ s. apart (sym s)))))
    q
flag_after m k qs _ b h q = h q

-- so a call of a list that is executed comes in turn
pub ready_now : (start qs : IdMap Query) (f : ℕ → Bool) (before : List Numbered) (c : Call)
    → ((q : ℕ) → counts_invocations (get qs q) ≡ true → counts_invocations (get start q) ≡ true)
    → ((q : ℕ) → counts_invocations (get qs q) ≡ true → flag (get qs q) ≡ begun_after q (f q) before)
    → list_any f (begins c) ≡ false → Ready start (λ q. begun_after q false before) c
    → Ready qs (λ q. flag (get qs q)) c
ready_now start qs f before (calls.Begin p) sorts flags none r = λ e. flags p e
    ∙ ap (λ b. begun_after p b before) (or_parts (f p) false none).0 ∙ r (sorts p e)
ready_now start qs f before (calls.EndQuery p) sorts flags none r = λ e. flags p e
    ∙ begun_still p false (f p) before (λ t. absurd cc) (r (sorts p e))
ready_now start qs f before _ sorts flags none r = tt

pub any_parts : (f : ℕ → Bool) (xs ys : List ℕ) → list_any f (xs ++ ys) ≡ false → (list_any f xs ≡ false)
    × (list_any f ys ≡ false)
any_parts f [] ys e = (refl, e)
any_parts f (x ∷ xs) ys e =
    let p = or_parts (f x) (list_any f (xs ++ ys)) e in
    let r = any_parts f xs ys p.1 in
    (ap (λ (b : Bool). b || list_any f xs) p.0 ∙ r.0, r.1)

-- the items of a list, from queries of which none is begun that the list begins
goes_list : (start : IdMap Query) (f : ℕ → Bool) (front : List Turn) (n m : ℕ) (past : Past) (o : Objects)
    (before cs : List Numbered) → n ≤ m → AllAgree front n o.queries
    → ((q : ℕ) → counts_invocations (get o.queries q) ≡ true → counts_invocations (get start q) ≡ true)
    → ((q : ℕ) → counts_invocations (get o.queries q) ≡ true → flag (get o.queries q) ≡ begun_after q (f q) before)
    → list_any f (begun_in_list cs) ≡ false → AtEach (InTurn start) before cs
    → Goes front (list_items m past o cs) m (played_all m o cs).queries
goes_list start f front n m past o before [] le h sorts flags none turn =
    goes_item front m m true Set_state [] n m o.queries le refl h
goes_list start f front n m past o before (c ∷ cs) le h sorts flags none turn =
    let parts = any_parts f (begins c.call) (begun_in_list cs) none in
    let one = goes_played front n m c.number false past o (bindings_of o 0) c.call
    (of_makers past (binds o (bindings_of o 0) c.call)) le h
    (ready_now start o.queries f before c.call sorts flags parts.0 turn.0) in
    let t : Turn = item_of m c.number false past o c.call in
    let next : Objects = played m o c.call in
    goes_on front t (list_items m past next cs) m m next.queries (played_all m next cs).queries one
    (goes_list start f (front ++ t ∷ []) m m past next (before ++ c ∷ []) cs (omega arith) one.agree
    (λ q e. sorts q (sym (counts_after m o.queries c.call q) ∙ e))
    (λ q e. flag_after m c.number o.queries c.call (λ q. begun_after q (f q) before) flags q e
    ∙ sym (begun_more q (f q) before (c ∷ [])))
    parts.1 turn.1)

pub calls_have : (P : List Numbered → Type 0) (l : Option (List Numbered)) → P []
    → ((cs : List Numbered) → l ≡ Some cs → P cs) → P (calls_if l)
calls_have P None none h = none
calls_have P (Some cs) none h = h cs refl

-- ---- queries that are made and destroyed

no_query : (front : List Turn) (n q : ℕ) (o : Option Query) → flag o ≡ false → Agrees front n q o
    → Agrees front n q None
no_query front n q o idle h = record {
  begun = h.begun ∙ unbegun o idle;
  ended = λ e c s. absurd cc;
  past =
      λ e s. absurd cc;
}
  where
    unbegun : (o : Option Query) → flag o ≡ false → counting o ≡ false
    unbegun None e = refl
    unbegun (Some x) e = and_right (x.sort == 2) x.begun e

agree_made : (front : List Turn) (n : ℕ) (qs : IdMap Query) (id sort : ℕ) → is_some (get qs id) ≡ false
    → AllAgree front n qs
    → AllAgree front n (insert qs id (record { sort = sort; begun = false; ended = None }))
agree_made front n qs id sort free h q = elim (cases_eq q id) [
  | inl e ↦ subst (λ k. Agrees front n k (get (insert qs id new) k)) (sym e)
      (subst (Agrees front n id) (sym (get_same qs id new)) (record {
        begun = (h id).begun ∙ ap counting (free_id (get qs id) free) ∙ sym (and_right (sort == 2) false refl);
        ended = λ e c s. absurd cc;
        past = λ e s. absurd cc;
      }))
  | inr apart ↦ subst (Agrees front n q) (sym (get_other qs id new q apart)) (h q)
]
  where
    new : Query
    new = record { sort = sort; begun = false; ended = None }

agree_removed : (front : List Turn) (n : ℕ) (qs : IdMap Query) (id : ℕ) → flag (get qs id) ≡ false
    → AllAgree front n qs → AllAgree front n (remove qs id)
agree_removed front n qs id idle h q = subst (Agrees front n q) (sym (get-remove qs id q)) (elim (cases_eq q id) [
  | inl e ↦ either (eq_by_cmp nat_cmp q id) (no_query front n q (get qs q) (ap (λ k. flag (get qs k)) e ∙ idle) (h q))
  | inr apart ↦ subst (λ b. Agrees front n q (cond b None (get qs q))) (sym (other_key q id apart)) (h q)
])
  where
    either : (b : Bool) → Agrees front n q None → Agrees front n q (cond b None (get qs q))
    either true k = k
    either false k = h q

agree_destroyed : (t1 t2 t3 t4 : Bool) (front : List Turn) (n : ℕ) (o : Objects) (i : ℕ) (last : List Check)
    → AllPassed (if t1 then unused_buffer o i else if t2 then unused_view o i else if t3 then unused_shader o i else
    if t4 then unused_query o i else last)
    → AllAgree front n o.queries
    → AllAgree front n (if t1 then record o { buffers = remove o.buffers i } else if t2 then record o {
      views =
          remove o.views i;
    } else if t3 then record o { shaders = remove o.shaders i } else if t4 then record o
    { queries = remove o.queries i } else record o { lists = remove o.lists i }).queries
agree_destroyed true t2 t3 t4 front n o i last p h = h
agree_destroyed false true t3 t4 front n o i last p h = h
agree_destroyed false false true t4 front n o i last p h = h
agree_destroyed false false false true front n o i last p h =
    agree_removed front n o.queries i (or_parts (is_set o (λ b. holds_query b i) || is_listed o 4 i)
    (flag (get o.queries i)) p.1.0).1 h
agree_destroyed false false false false front n o i last p h = h

-- ---- all calls

goes_each : (front : List Turn) (n m : ℕ) (s : State) (x : ℕ) (c : Call) → n ≤ m
    → Ready s.objects.queries (λ q. is_begun_on s.objects x q) c → AllAgree front n s.objects.queries
    → Goes front (if x == 0 then item_of m m true s.past s.objects c ∷ [] else Passed m ∷ []) m
    (if x == 0 then played m s.objects c else recorded_on m s.objects x c).queries
goes_each front n m s x c le r h =
    elim (x == 0) as
    (λ b. Ready s.objects.queries (λ q. if b then flag (get s.objects.queries q) else begun_after q false
    (context_of s.objects x).recorded) c
    → Goes front (if b then item_of m m true s.past s.objects c ∷ [] else Passed m ∷ []) m
    (if b then played m s.objects c else recorded_on m s.objects x c).queries) [
      | true ↦ λ r. goes_played front n m m true s.past s.objects (bindings_of s.objects 0) c
          (of_makers s.past (binds s.objects (bindings_of s.objects 0) c)) le h r
      | false ↦ λ r. goes_quiet front (Passed m) n m s.objects.queries le (quiet_passed m) tt h
    ] r

goes_making : (front : List Turn) (n m : ℕ) (past : Past) (c : Call) (qs : IdMap Query) → n ≤ m
    → AllAgree front n qs → Goes front (Item m m true (making_of m past c) [] ∷ []) m qs
goes_making front n m past c qs le h = goes_item front m m true (making_of m past c) [] n m qs le
    (making_quiet m past c) h

goes_accepted : (front : List Turn) (n m : ℕ) (s : State) (x : ℕ) (c : Call) → n < m
    → AllPassed (call_checks s.objects s.past x c) → ListsInTurn s.objects → AllAgree front n s.objects.queries
    → Goes front (turns_by_place (place_of c) m s x c) m (objects_after m s.objects x c).queries
goes_accepted front n m s x (calls.Buffer id size usage bind misc stride bytes) lt p lists h =
    goes_making front n m s.past (calls.Buffer id size usage bind misc stride bytes) s.objects.queries
    (omega (arith, lt)) h
goes_accepted front n m s x (calls.View view res kind form components first count) lt p lists h =
    goes_making front n m s.past (calls.View view res kind form components first count) s.objects.queries
    (omega (arith, lt)) h
goes_accepted front n m s x (calls.CreateShader id words) lt p lists h =
    goes_making front n m s.past (calls.CreateShader id words) s.objects.queries (omega (arith, lt)) h
goes_accepted front n m s x (calls.Query id sort) lt p lists h =
    goes_making front n m s.past (calls.Query id sort) _ (omega (arith, lt))
    (agree_made front n s.objects.queries id sort p.1.0 h)
goes_accepted front n m s x (calls.Destroy class id) lt p lists h =
    goes_making front n m s.past (calls.Destroy class id) _ (omega (arith, lt))
    (agree_destroyed (class == 1) (class == 2) (class == 3) (class == 4) front n s.objects id
    (if class == 5 then known_list s.objects id else (true, BadUsage) ∷ []) p h)
goes_accepted front n m s x (calls.MapRead res flag offset len) lt p lists h =
    goes_quiet front (Asked m _ _ _) n m s.objects.queries (omega (arith, lt)) (quiet_asked m _ _ _) tt h
goes_accepted front n m s x (calls.GetData query flag) lt p lists h =
    let o = get s.objects.queries query in
    let sort = sort_if o in
    goes_quiet front (Asked m (ask_of query sort) (use_in s (calls.GetData query flag)) (flag == 1)) n m
    s.objects.queries (omega (arith, lt)) (quiet_asked m (ask_of query sort)
    (use_in s (calls.GetData query flag)) (flag == 1))
    (asked_right front n m query (query_value sort 0) o lt (h query) (not-false (query_is_one o has_result) p.1.1.0)) h
goes_accepted front n m s x calls.Flush lt p lists h = goes_quiet front (Flushed m) n m s.objects.queries
    (omega (arith, lt)) (quiet_flushed m) tt h
goes_accepted front n m s x (calls.ExecuteList list flag) lt p lists h =
    goes_list s.objects.queries (λ q. query_is_one (get s.objects.queries q) (λ x. x.begun)) front n m s.past
    (list_start s.objects) [] (calls_of_list s.objects list) (omega (arith, lt)) h (λ q e. e) (λ q e. refl)
    p.1.1.0
    (calls_have (ListInTurn s.objects.queries) (get s.objects.lists list) tt (lists.1 list))
goes_accepted front n m s x (calls.FinishList list) lt p lists h =
    goes_quiet front (Passed m) n m s.objects.queries (omega (arith, lt)) (quiet_passed m) tt h
goes_accepted front n m s x c lt p lists h = goes_each front n m s x c (omega (arith, lt))
    (ready_on s.objects s.past x c p) h

goes_unless : (front : List Turn) (n m : ℕ) (s : State) (i : Issued) (v : Option Refusal) → n < m
    → verdict_in s i ≡ v → ListsInTurn s.objects → AllAgree front n s.objects.queries
    → Goes front (turns_unless m s i v) m (unless_refused m s i v).objects.queries
goes_unless front n m s i (Some why) lt e lists h = goes_quiet front (Refused m) n m s.objects.queries
    (omega (arith, lt)) (quiet_refused m) tt h
goes_unless front n m s i None lt e lists h = goes_accepted front n m s i.context i.call lt
    (own_checks s.objects s.past i.context i.call e) lists h

goes_one : (front : List Turn) (n m : ℕ) (s : State) (i : Option Issued) → n < m → ListsInTurn s.objects
    → AllAgree front n s.objects.queries → Goes front (turns_in m s i) m (after_call m s i).objects.queries
goes_one front n m s None lt lists h = goes_nothing front n m s.objects.queries (omega (arith, lt)) h
goes_one front n m s (Some i) lt lists h = goes_unless front n m s i (verdict_in s i) lt refl lists h

script_goes : (log : List Issued) (n : ℕ) → Goes [] (turns_upto log n) n (after_calls log n).objects.queries
unfolding turns_upto after_calls
script_goes log zero = record {
  right = tt;
  agree = λ q. subst (Agrees [] 0 q) (sym (get-empty Query q))
      (record { begun = refl; ended = λ e c s. absurd cc; past = λ e s. absurd cc });
}
script_goes log (suc n) =
    let before = script_goes log n in
    let here = goes_one (turns_upto log n) n (suc n) (after_calls log n) (slice_get log n) (omega arith)
    (lists_in_turn log n) before.agree in
    record {
      right = each_append Right [] (turns_upto log n) (turns_of log (suc n)) before.right here.right;
      agree =
          here.agree;
    }

-- each turn of the script asks rightly of those before it
pub script_right : (log : List Issued) (front : List Turn) (t : Turn) (back : List Turn)
    → (script_of log).turns ≡ front ++ t ∷ back → Right front t
script_right log front t back e = at_middle Right [] (turns_upto log (length log))
    (script_goes log (length log)).right front t back e
