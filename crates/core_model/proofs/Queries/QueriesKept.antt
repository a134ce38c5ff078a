-- What holds of queries is kept by each turn that App takes; and a call that asks for a count gets the query's count
-- in order.
use Rattle.std.proofs.Common.{◌≡◌, ℕ, suc, ◌+◌, ◌≤◌, Bool, true, false, List, [], ◌∷◌, ◌++◌, refl, sym, ap, ◌∙◌}
use Rattle.std.proofs.Common.{subst, ◌⊎◌, inl, inr, Option, Some, None, arith, append-nil}
use Rattle.std.proofs.lemmas.Bool.{cases_lt}
use Rattle.vk_types.specs.Effects.{Meaning}
use Rattle.base_lemmas.specs.Lists.{numbers_from}
use Rattle.core_model.specs.Script.{Create, Discard, No_overwrite, Stage, Command, Destroy, Create_shader, Mark_query}
use Rattle.core_model.specs.Script.{Set_state, Count, Turn, Refused, Passed, Flushed, Asked, Item, Script, at_start}
use Rattle.core_model.specs.Script.{in_order}
use Rattle.core_model.specs.Chunking.{is_due, joined}
use Rattle.core_model.specs.CoreState.{Segment, Core, segments, later, listed, last_finished, Value_said, End_said}
use Rattle.core_model.specs.Readings.{Reading}
use Rattle.core_model.specs.Adding.{with_turn, with_reply}
use Rattle.core_model.specs.AppActs.{TakesTurn}
use Rattle.core_model.specs.OtherParts.{sum_from, all_marks}
use Rattle.core_model.specs.Worlds.{empty, run_world}
use Rattle.core_model.specs.Lawful.{IsLawful}
use Rattle.core_model.specs.Invariant.{turns_of, Good}
use Rattle.core_model.specs.Kept.{Kept}
use Rattle.core_model.specs.Queries.{count_in_order, commands_by, commands_in, turn_marks, marks_from, IsMarked}
use Rattle.core_model.specs.Queries.{AreMarked, ValuesRight, newest_of, ends_by, QueriesRight}
use Rattle.core_model.proofs.Steps.Opened.{listed_open}
use Rattle.core_model.proofs.Steps.Turning.{segments_handed, answered_good}
use Rattle.core_model.proofs.Runs.TurnsKeepAll.{turn_traced, pending_kept}
use Rattle.core_model.proofs.Blocks.BoundRanges.{unconcerned, quiet_beside}
use Rattle.core_model.proofs.Queries.InOrderCounts.{numbers_more, sum_same, sum_split, sums, commands_append}
use Rattle.core_model.proofs.Queries.QueryMarks.{marks_append, marked_front, marked_back, marked_append}
use Rattle.core_model.proofs.Queries.QueryAnswers.{kept_cut, answer_right}
use Rattle.core_model.proofs.Queries.QueryTurns.{Adds, takes_adds}
use Rattle.core_model.proofs.Queries.QueryMoves.{queries_moved}
use Rattle.core_model.proofs.Queries.CountsKept.{CountsStay, counts_kept}

by_few : (t : Turn) → (commands_by t ≡ 0) ⊎ (commands_by t ≡ 1)
by_few (Refused call) = inl refl
by_few (Passed call) = inl refl
by_few (Flushed call) = inl refl
by_few (Asked call ask used may_pend) = inl refl
by_few (Item call item ends (Create buffer bytes) bound) = inl refl
by_few (Item call item ends (Discard buffer from bytes) bound) = inl refl
by_few (Item call item ends (No_overwrite buffer from bytes) bound) = inl refl
by_few (Item call item ends (Stage [] target skip) bound) = inl refl
by_few (Item call item ends (Stage (b ∷ bs) None skip) bound) = inl refl
by_few (Item call item ends (Stage (b ∷ bs) (Some target) skip) bound) = inr refl
by_few (Item call item ends (Command w skip) bound) = inr refl
by_few (Item call item ends (Destroy buffer) bound) = inl refl
by_few (Item call item ends Create_shader bound) = inl refl
by_few (Item call item ends (Mark_query query begins) bound) = inl refl
by_few (Item call item ends Set_state bound) = inl refl

-- sums that agree up to a place, and with one number more, agree there
next_same : (f g : ℕ → ℕ) (k : ℕ) → ((m : ℕ) → m ≤ k → f m ≡ g m) → sum_from f 1 (k + 1) ≡ sum_from g 1 (k + 1)
    → f (suc k) ≡ g (suc k)
next_same f g k h e =
    let front = sum_same f g k 1 (λ m l u. h m (omega (arith, u))) in
    let a = sum_split f k 1 1 in
    let b = sum_split g k 1 1 in
    let at : 1 + k ≡ suc k = omega arith in
    let c = ap f at in
    let d = ap g at in
    omega (arith, e, front, a, b, c, d)

module _ (meaning : Meaning) (reading : Reading) (script : Script) (old new : Core) (t : Turn) (turns : List Turn)
    (e : old.future ≡ t ∷ turns) (k : Kept meaning reading script old)
    (g : Good meaning reading script new) (a : Adds t (commands_by t) (turn_marks old.commands t) old new)
    (stay : CountsStay meaning old new) (q : QueriesRight meaning script old) where
  abbrev f : ℕ → ℕ
  f = count_in_order meaning script

  abbrev front : List Segment
  front = old.taken ++ later old

  numbers : new.commands ≡ commands_in new.past
  numbers =
      let n = a.commands in
      let was = q.commands in
      let p = ap commands_in a.past ∙ commands_append old.past (t ∷ []) in
      omega (arith, n, was, p)

  -- the commands before the open chunk, and with it
  abbrev before : ℕ
  before = 0 + commands_in (joined (turns_of front))

  in_chunk : old.commands ≡ before + commands_in old.open_chunk.turns
  in_chunk =
      let was = q.commands in
      let p = ap commands_in k.traced.past ∙ commands_append (joined (turns_of front)) old.open_chunk.turns in
      omega (arith, was, p)

  old_marked : AreMarked 0 (front ++ old.open_chunk ∷ [])
  old_marked = subst (AreMarked 0) (segments_handed old) q.marked

  open_marked : IsMarked before old.open_chunk
  open_marked = (marked_back 0 front (old.open_chunk ∷ []) old_marked).0

  now_marked : IsMarked before new.open_chunk
  now_marked = record {
    queries =
        a.queries ∙ ap (λ l. l ++ turn_marks old.commands t) open_marked.queries
        ∙ ap (λ n. marks_from before old.open_chunk.turns ++ turn_marks n t) in_chunk
        ∙ ap (λ l. marks_from before old.open_chunk.turns ++ l)
        (sym (append-nil (turn_marks (before + commands_in old.open_chunk.turns) t)))
        ∙ sym (marks_append before old.open_chunk.turns (t ∷ []))
        ∙ ap (marks_from before) (sym a.turns);
    numbered =
        a.numbers ∙ ap (λ l. l ++ numbers_from (suc old.commands) (commands_by t)) open_marked.numbered
        ∙ (let c : suc old.commands ≡ suc before + commands_in old.open_chunk.turns =
        (let z = in_chunk in omega (arith, z)) in
        ap (λ k. numbers_from (suc before) (commands_in old.open_chunk.turns) ++ numbers_from k (commands_by t)) c)
        ∙ sym (numbers_more (commands_in old.open_chunk.turns) (suc before) (commands_by t))
        ∙ ap (numbers_from (suc before)) (let z = commands_append old.open_chunk.turns (t ∷ []) in omega (arith, z))
        ∙ ap (λ l. numbers_from (suc before) (commands_in l)) (sym a.turns);
    above = a.above before (let c = in_chunk in omega (arith, c)) open_marked.above;
  }

  same_front : new.taken ++ later new ≡ front
  same_front = ap (λ l. l ++ later new) a.taken ∙ ap (λ l. old.taken ++ l) a.later

  all_marked : AreMarked 0 (segments new)
  all_marked =
      subst (AreMarked 0) (ap (λ l. l ++ new.open_chunk ∷ []) (sym same_front) ∙ sym (segments_handed new))
      (marked_append 0 front (new.open_chunk ∷ []) (marked_front 0 front (old.open_chunk ∷ []) old_marked)
      (now_marked, tt))

  -- the commands before this turn run what they did
  old_counts : (n : ℕ) → n ≤ old.commands → (run_world meaning (listed new) empty).counts n ≡ f n
  old_counts n l =
      ap (λ l. (run_world meaning l empty).counts n) (listed_open new) ∙ stay n l
      ∙ ap (λ l. (run_world meaning l empty).counts n) (sym (listed_open old)) ∙ q.counts n l

  -- and its own what it runs in order
  new_count : commands_by t ≡ 1 → (run_world meaning (listed new) empty).counts (suc old.commands)
      ≡ f (suc old.commands)
  new_count one =
      let counts = (run_world meaning (listed new) empty).counts in
      let n : new.commands ≡ old.commands + 1 = a.commands ∙ ap (λ m. old.commands + m) one in
      next_same counts f old.commands old_counts
      (sym (ap (sum_from counts 1) n) ∙ sym g.totals.total ∙ sums meaning script new.past new.future
      (sym g.sound.position) ∙ ap (sum_from f 1) (sym numbers ∙ n))

  all_counts : (n : ℕ) → n ≤ new.commands → (run_world meaning (listed new) empty).counts n ≡ f n
  all_counts n l = elim (cases_lt old.commands n) [
    | inr h ↦ old_counts n h
    | inl h ↦ elim (by_few t) [
      | inl none ↦ let c = a.commands in absurd (let z : ⊥ = omega (arith, h, l, c, none) in z)
      | inr one ↦
          let c = a.commands in
          let at : suc old.commands ≡ n = omega (arith, h, l, c, one) in
          subst (λ n. (run_world meaning (listed new) empty).counts n ≡ f n) at (new_count one)
    ]
  ]

  queries_added : QueriesRight meaning script new
  queries_added = record {
    commands = numbers;
    counts = all_counts;
    marked = all_marked;
    messages = subst (λ l. ValuesRight f l (new.posts ++ new.completions)) (sym a.taken)
        (subst (ValuesRight f old.taken) (sym a.messages) q.messages);
    values = λ query. ap (λ v. v query) a.values ∙ q.values query
        ∙ ap (λ l. newest_of (ends_by (last_finished l)) f [] (all_marks l) query 0) (sym a.taken);
  }

-- A turn
pub turn_queries : (meaning : Meaning) (reading : Reading) (script : Script) → IsLawful meaning script
    → (old : Core) (t : Turn) (turns : List Turn) (new : Core) → old.future ≡ t ∷ turns
    → is_due script old.open_chunk.turns old.future ≡ false → TakesTurn reading script t turns old new
    → Kept meaning reading script old → Kept meaning reading script new → QueriesRight meaning script old
    → QueriesRight meaning script new
turn_queries meaning reading script lawful old t turns new e due p k now q =
    queries_added meaning reading script old new t turns e k now.good (takes_adds reading script t turns old new p)
    (counts_kept meaning reading script lawful old t turns new e due p k) q

-- The end
pub end_queries : (meaning : Meaning) (script : Script) (old : Core) → QueriesRight meaning script old
    → QueriesRight meaning script (with_reply End_said (record old { ended = true }))
end_queries meaning script old q = queries_moved meaning script old
    (with_reply End_said (record old { ended = true })) refl refl refl refl refl q.messages q

-- A call that asks for a count is answered by the query's count in order, or as pending
pub count_kept : (meaning : Meaning) (reading : Reading) (script : Script) → IsLawful meaning script
    → (old : Core) (call query : ℕ) (used : Option ℕ) (may_pend : Bool) (turns : List Turn) (new : Core)
    → old.future ≡ Asked call (Count query) used may_pend ∷ turns
    → is_due script old.open_chunk.turns old.future ≡ false
    → TakesTurn reading script (Asked call (Count query) used may_pend) turns old new
    → QueriesRight meaning script old → Kept meaning reading script old → Kept meaning reading script new
count_kept meaning reading script lawful old call query used may_pend turns new e due (inr h) q k =
    subst (Kept meaning reading script) (sym h.2) (pending_kept meaning reading script old call (Count query) used
    may_pend turns e due h.0 k)
count_kept meaning reading script lawful old call query used may_pend turns new e due (inl h) q k =
    let t = Asked call (Count query) used may_pend in
    let here : script.turns ≡ old.past ++ t ∷ turns = sym (ap (λ l. old.past ++ l) (sym e) ∙ k.good.sound.position) in
    let is : old.values query ≡ (in_order meaning script old.past at_start).count query =
    answer_right meaning script lawful old (kept_cut meaning reading script old k) q query used
    (lawful.uses old.past call (Count query) used may_pend turns here) h.0 in
    subst (Kept meaning reading script) (sym h.1) (record {
      good = answered_good meaning reading script old turns due call (Count query) used may_pend e
          (Value_said call (old.values query))
          (λ at. (
            Count query,
            used,
            record { front = old.past; may_pend = may_pend; back = turns; here = here },
            is,
          )) k.good;
      beside = unconcerned script _ (with_reply (Value_said call (old.values query)) (with_turn t turns old))
          (quiet_beside script old t (λ r. refl) k.beside);
      fenced = k.fenced;
      traced = turn_traced meaning reading script old t k;
    })
