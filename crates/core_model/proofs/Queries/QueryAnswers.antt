-- App knows the count of a query whose last End is finished; and what it knows once it took a post.
use Rattle.std.proofs.Common.{◌≡◌, ℕ, ◌+◌, ◌<◌, ◌≤◌, Bool, true, false, not, ◌&&◌, ◌==◌, nat_le, List, [], ◌∷◌, ◌++◌}
use Rattle.std.proofs.Common.{refl, sym, ap, ◌∙◌, subst, inl, inr, Option, None, arith, append_assoc, append-nil}
use Rattle.std.specs.List.{AllByRecursion}
use Rattle.std.proofs.lemmas.Bool.{cases_Bool, le-leb}
use Rattle.vk_types.specs.declared.message.QueryMark.{QueryMark}
use Rattle.base_lemmas.specs.Lists.{Pairwise}
use Rattle.vk_types.specs.Effects.{Meaning}
use Rattle.base_lemmas.proofs.Lists.{all_front, all_back, all_append, all_map, all_both}
use Rattle.core_model.specs.Script.{Turn, Script, at_start, in_order}
use Rattle.core_model.specs.Chunking.{call_of, chunks, cut, last_call, joined}
use Rattle.core_model.specs.CoreState.{Segment, Message, Core, of_messages, later, last_finished, done}
use Rattle.core_model.specs.Readings.{Reading}
use Rattle.core_model.specs.TakingPosts.{newest_values, with_post}
use Rattle.core_model.specs.AppActs.{is_finished}
use Rattle.core_model.specs.OtherParts.{all_marks, values_of}
use Rattle.core_model.specs.Lawful.{last_end, IsLawful}
use Rattle.core_model.specs.Invariant.{turns_of}
use Rattle.core_model.specs.Kept.{Kept}
use Rattle.core_model.specs.Queries.{count_in_order, commands_in, marks_from, AreMarked, newest_of, is_end, ends_by}
use Rattle.core_model.specs.Queries.{QueriesRight}
use Rattle.core_model.proofs.Runs.LastUses.{joined_append}
use Rattle.core_model.proofs.Steps.Segments.{turns_of-append}
use Rattle.core_model.proofs.Steps.Turning.{segments_handed}
use Rattle.core_model.proofs.Queries.QueryMarks.{marks_append, all_marks_append, marked_marks, marked_front}
use Rattle.core_model.proofs.Queries.QueryMarks.{marked_back, marks_have, marks_rise}
use Rattle.core_model.proofs.Queries.QueryCalls.{calls_rise, calls_behind, cut_filled, finished_last, below_last}
use Rattle.core_model.proofs.Queries.QueryCalls.{ends_low}
use Rattle.core_model.proofs.Queries.NewestValues.{newest_append, newest_none, newest_same, ends_between}
use Rattle.core_model.proofs.Queries.NewestValues.{newest_message, newest_joined, newest_later}
use Rattle.core_model.proofs.Queries.InOrderQueries.{counts_right}

-- an End that is finished is picked either way
picked_alike : (q d : ℕ) (m : QueryMark) → ((is_end m && (q == m.query)) ≡ true → m.call ≤ d)
    → (ends_by d m && (q == m.query)) ≡ (is_end m && (q == m.query))
picked_alike q d m h =
    elim (cases_Bool (is_end m && (q == m.query))) [
      | inl t ↦ ap (λ c. (not m.begins && c) && (q == m.query)) (le-leb m.call d (h t)) ∙ just m.begins (q == m.query)
      | inr f ↦ never m.begins (nat_le m.call d) (q == m.query) f ∙ sym f
    ]
  where
    just : (a b : Bool) → ((not a && true) && b) ≡ (not a && b)
    just true b = refl
    just false b = refl

    never : (a c b : Bool) → (not a && b) ≡ false → ((not a && c) && b) ≡ false
    never true c b e = refl
    never false true b e = e
    never false false b e = refl

-- an End that is not finished is none of the query's
not_picked : (q d : ℕ) (m : QueryMark) → ((is_end m && (q == m.query)) ≡ true → m.call ≤ d) → d < m.call
    → (is_end m && (q == m.query)) ≡ false
not_picked q d m h l =
    elim (cases_Bool (is_end m && (q == m.query))) [
      | inl t ↦ let z = h t in absurd (let x : ⊥ = omega (arith, l, z) in x)
      | inr f ↦ f
    ]

-- where a state stands in the script, and how the turns behind it are cut
pub record IsCut (script : Script) (core : Core) : Type 0 where
  pub position : script.turns ≡ core.past ++ core.future
  pub cut : chunks script ≡ turns_of (core.taken ++ later core) ++ cut script core.open_chunk.turns core.future
  pub past : core.past ≡ joined (turns_of (core.taken ++ later core)) ++ core.open_chunk.turns

pub kept_cut : (meaning : Meaning) (reading : Reading) (script : Script) (core : Core)
    → Kept meaning reading script core → IsCut script core
kept_cut meaning reading script core k = record {
  position = sym k.good.sound.position;
  cut =
      k.good.sound.cut;
  past = k.traced.past;
}

pub posted_cut : (script : Script) (old : Core) (m : Message) (ms : List Message) → old.posts ≡ m ∷ ms
    → IsCut script old → IsCut script (with_post m ms old)
posted_cut script old m ms e k =
    let new = with_post m ms old in
    let same : old.taken ++ later old ≡ (old.taken ++ m.segment ∷ []) ++ later new =
    ap (λ l. old.taken ++ (of_messages l ++ later (record old { posts = [] }))) e
    ∙ sym (append_assoc old.taken (m.segment ∷ []) (later new)) in
    record {
      position = k.position;
      cut = k.cut ∙ ap (λ l. turns_of l ++ cut script old.open_chunk.turns old.future) same;
      past = k.past ∙ ap (λ l. joined (turns_of l) ++ old.open_chunk.turns) same;
    }

module _ (meaning : Meaning) (script : Script) (lawful : IsLawful meaning script) (old : Core)
    (k : IsCut script old) (r : QueriesRight meaning script old) where
  abbrev f : ℕ → ℕ
  f = count_in_order meaning script

  abbrev jt : List Turn
  jt = joined (turns_of old.taken)

  abbrev back : List Turn
  back = joined (turns_of (later old)) ++ old.open_chunk.turns

  is_past : old.past ≡ jt ++ back
  is_past = k.past ∙ ap (λ l. l ++ old.open_chunk.turns) (joined_append old.taken (later old))
      ∙ append_assoc jt (joined (turns_of (later old))) old.open_chunk.turns

  split : script.turns ≡ jt ++ (back ++ old.future)
  split = k.position ∙ ap (λ l. l ++ old.future) is_past ∙ append_assoc jt back old.future

  abbrev rest_marks : List QueryMark
  rest_marks = marks_from (0 + commands_in jt) back

  marks_are : marks_from 0 old.past ≡ all_marks old.taken ++ rest_marks
  marks_are =
      ap (marks_from 0) is_past ∙ marks_append 0 jt back
      ∙ ap (λ l. l ++ rest_marks)
      (sym (marked_marks 0 old.taken (marked_front 0 old.taken (later old)
      (marked_front 0 (old.taken ++ later old) (old.open_chunk ∷ [])
      (subst (AreMarked 0) (segments_handed old) r.marked)))))

  rest_above : AllByRecursion (λ m. done old < m.call) rest_marks
  rest_above = marks_have (λ c. done old < c) (0 + commands_in jt) back
      (calls_behind meaning script lawful back old.taken [] old.future split)

  -- the value is the query's count in order
  pub answer_right : (q : ℕ) (used : Option ℕ) → used ≡ last_end q old.past None
      → is_finished used (done old) ≡ true → old.values q ≡ (in_order meaning script old.past at_start).count q
  answer_right q used last fin =
      let low : AllByRecursion (λ m. (is_end m && (q == m.query)) ≡ true
      → m.call ≤ done old) (all_marks old.taken ++ rest_marks) =
      subst (AllByRecursion (λ m. (is_end m && (q == m.query)) ≡ true → m.call ≤ done old)) marks_are
      (ends_low q (done old) old.past 0 None (calls_rise meaning script lawful old.past [] old.future k.position)
      (ap (λ u. is_finished u (done old)) (sym last) ∙ fin)) in
      r.values q
      ∙ newest_same (ends_by (done old)) is_end f [] (all_marks old.taken) q 0
      (all_map (λ m. (is_end m && (q == m.query)) ≡ true → m.call ≤ done old)
      (λ m. (ends_by (done old) m && (q == m.query)) ≡ (is_end m && (q == m.query)))
      (λ m h. picked_alike q (done old) m h)
      (all_marks old.taken) (all_front _ (all_marks old.taken) rest_marks low))
      ∙ sym (newest_none is_end f (all_marks old.taken) rest_marks q (newest_of is_end f [] (all_marks old.taken) q 0)
      (all_map (λ m. ((is_end m && (q == m.query)) ≡ true → m.call ≤ done old)
      × (done old < m.call)) (λ m. (is_end m && (q == m.query)) ≡ false)
      (λ m h. not_picked q (done old) m h.0 h.1) rest_marks
      (all_both _ _ rest_marks (all_back _ (all_marks old.taken) rest_marks low) rest_above)))
      ∙ sym (newest_append is_end f [] (all_marks old.taken) rest_marks q 0)
      ∙ ap (λ l. newest_of is_end f [] l q 0) (sym marks_are)
      ∙ sym (counts_right meaning script old.past old.future k.position q)

  -- A post ----------------------------------------------------------------------------------------------------------

  module _ (m : Message) (ms : List Message) (e : old.posts ≡ m ∷ ms) where
    abbrev s : Segment
    s = m.segment

    later_is : later old ≡ s ∷ later (with_post m ms old)
    later_is = ap (λ l. of_messages l ++ later (record old { posts = [] })) e

    -- the chunk's turns stand behind those of the chunks before it
    chunk_split : back ≡ s.turns ++ (joined (turns_of (later (with_post m ms old))) ++ old.open_chunk.turns)
    chunk_split = ap (λ l. joined (turns_of l) ++ old.open_chunk.turns) later_is
        ∙ append_assoc s.turns (joined (turns_of (later (with_post m ms old)))) old.open_chunk.turns

    chunk_calls : AllByRecursion (λ t. done old < call_of t) s.turns
    chunk_calls =
        let rest = joined (turns_of (later (with_post m ms old))) ++ old.open_chunk.turns in
        calls_behind meaning script lawful s.turns old.taken [] (rest ++ old.future)
        (split ∙ ap (λ l. jt ++ (l ++ old.future)) chunk_split
        ∙ ap (λ l. jt ++ l) (append_assoc s.turns rest old.future))

    chunk_filled : s.turns ≡ [] → ⊥
    chunk_filled =
        let all : AllByRecursion (λ l. l ≡ [] → ⊥) (turns_of (old.taken ++ later old)
        ++ cut script old.open_chunk.turns old.future) =
        subst (AllByRecursion (λ l. l ≡ [] → ⊥)) k.cut (cut_filled script script.turns []) in
        let chunks : AllByRecursion (λ l. l ≡ [] → ⊥) (turns_of (old.taken ++ later old)) =
        all_front (λ l. l ≡ [] → ⊥) (turns_of (old.taken ++ later old))
        (cut script old.open_chunk.turns old.future) all in
        let parts : AllByRecursion (λ l. l ≡ [] → ⊥) (turns_of old.taken ++ turns_of (later old)) =
        subst (AllByRecursion (λ l. l ≡ [] → ⊥)) (turns_of-append old.taken (later old)) chunks in
        let behind : AllByRecursion (λ l. l ≡ [] → ⊥) (turns_of (s ∷ later (with_post m ms old))) =
        subst (λ l. AllByRecursion (λ l. l ≡ [] → ⊥) (turns_of l)) later_is
        (all_back (λ l. l ≡ [] → ⊥) (turns_of old.taken) (turns_of (later old)) parts) in
        behind.0

    rises : done old ≤ last_call s.turns
    rises = below_last (done old) s.turns chunk_filled chunk_calls

    abbrev now : List QueryMark
    now = all_marks (old.taken ++ s ∷ [])

    now_marked : AreMarked 0 (old.taken ++ s ∷ [])
    now_marked =
        let all : AreMarked 0 (old.taken ++ (s ∷ later (with_post m ms old))) =
        subst (λ l. AreMarked 0 (old.taken ++ l)) later_is
        (marked_front 0 (old.taken ++ later old) (old.open_chunk ∷ [])
        (subst (AreMarked 0) (segments_handed old) r.marked)) in
        marked_front 0 (old.taken ++ s ∷ []) (later (with_post m ms old))
        (subst (AreMarked 0) (sym (append_assoc old.taken (s ∷ []) (later (with_post m ms old)))) all)

    now_rise : Pairwise (λ m k. m.call ≤ k.call) now
    now_rise =
        let rest = joined (turns_of (later (with_post m ms old))) ++ old.open_chunk.turns in
        let joins : joined (turns_of (old.taken ++ s ∷ [])) ≡ jt ++ s.turns = joined_append old.taken (s ∷ [])
        ∙ ap (λ l. jt ++ l) (append-nil s.turns) in
        let here : script.turns ≡ joined (turns_of (old.taken ++ s ∷ [])) ++ (rest ++ old.future) =
        split ∙ ap (λ l. jt ++ (l ++ old.future)) chunk_split
        ∙ ap (λ l. jt ++ l) (append_assoc s.turns rest old.future)
        ∙ sym (append_assoc jt s.turns (rest ++ old.future)) ∙ ap (λ l. l ++ (rest ++ old.future)) (sym joins) in
        subst (Pairwise (λ m k. m.call ≤ k.call)) (sym (marked_marks 0 (old.taken ++ s ∷ []) now_marked))
        (marks_rise 0 (joined (turns_of (old.taken ++ s ∷ [])))
        (calls_rise meaning script lawful (joined (turns_of (old.taken ++ s ∷ []))) [] (rest ++ old.future) here))

    -- the chunk's marks are of later calls
    chunk_marks : AllByRecursion (λ m. done old < m.call) (all_marks (s ∷ []))
    chunk_marks =
        let here : AreMarked (0 + commands_in jt) (s ∷ []) = marked_back 0 old.taken (s ∷ []) now_marked in
        all_append (λ m. done old < m.call) s.queries [] (subst (AllByRecursion (λ m. done old < m.call))
        (sym here.0.queries) (marks_have (λ c. done old < c) (0 + commands_in jt) s.turns chunk_calls)) tt

    pub posted_values : (q : ℕ) → m.values ≡ values_of f old.taken s
        → newest_values m.values old.values q ≡ newest_of (ends_by (last_finished (old.taken ++ s ∷ []))) f [] now q 0
    posted_values q is =
        let low = done old in
        let high = last_call s.turns in
        let before : newest_of (ends_by low) f [] now q 0 ≡ old.values q =
        ap (λ l. newest_of (ends_by low) f [] l q 0) (all_marks_append old.taken (s ∷ []))
        ∙ newest_append (ends_by low) f [] (all_marks old.taken) (all_marks (s ∷ [])) q 0
        ∙ newest_later f low (all_marks old.taken) (all_marks (s ∷ [])) q
        (newest_of (ends_by low) f [] (all_marks old.taken) q 0) chunk_marks ∙ sym (r.values q) in
        ap (λ v. newest_values v old.values q) is ∙ newest_message f low high [] now old.values q
        ∙ ap (newest_of (ends_between low high) f [] now q) (sym before)
        ∙ newest_joined f low high rises [] now q 0 now_rise
        ∙ ap (λ d. newest_of (ends_by d) f [] now q 0) (sym (finished_last old.taken s))
