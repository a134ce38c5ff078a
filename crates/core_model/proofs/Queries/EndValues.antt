-- A message's values are the counts that the Ends leave in order whose calls its chunk finishes.
use Rattle.std.proofs.Common.{◌≡◌, ℕ, suc, ◌+◌, ◌-◌, Bool, true, false, cond, not, ◌&&◌, nat_lt, nat_le, List, []}
use Rattle.std.proofs.Common.{◌∷◌, ◌++◌, length, refl, sym, ap, ◌∙◌, subst, inl, inr, arith, append_assoc, append-nil}
use Rattle.std.proofs.Common.{length-append}
use Rattle.std.proofs.lemmas.Bool.{eq-eqb}
use Rattle.vk_types.specs.declared.message.QueryMark.{QueryMark}
use Rattle.vk_types.specs.declared.message.QueryValue.{QueryValue}
use Rattle.vk_types.specs.Effects.{Meaning}
use Rattle.core_model.specs.Script.{Create, Discard, No_overwrite, Stage, Command, Destroy, Create_shader, Mark_query}
use Rattle.core_model.specs.Script.{Set_state, Turn, Refused, Passed, Flushed, Asked, Item, Script, InOrder, at_start}
use Rattle.core_model.specs.Script.{turn_in_order, in_order}
use Rattle.core_model.specs.Chunking.{chunks, cut, upto, last_call, joined}
use Rattle.core_model.specs.CoreState.{Segment, Message, Core, of_messages, of_running, later, last_finished}
use Rattle.core_model.specs.Readings.{Reading}
use Rattle.core_model.specs.OtherParts.{value_at, values_between, values_of}
use Rattle.core_model.specs.Succession.{turns_upto, end_of, end_values, values_after}
use Rattle.core_model.specs.Invariant.{turns_of}
use Rattle.core_model.specs.Kept.{Kept}
use Rattle.core_model.specs.Queries.{count_in_order, commands_in, commands_by, turn_marks, marks_from, AreMarked}
use Rattle.core_model.specs.Queries.{ValuesRight, QueriesRight}
use Rattle.core_model.proofs.Messages.ScriptChunks.{upto_there, finished_is}
use Rattle.core_model.proofs.Listing.Worlds.{of_messages-append}
use Rattle.core_model.proofs.Steps.Segments.{messages_length, turns_of-append}
use Rattle.core_model.proofs.Steps.Turning.{segments_handed, in_order-append}
use Rattle.core_model.proofs.Runs.LastUses.{joined_append}
use Rattle.core_model.proofs.Queries.InOrderCounts.{commands_append}
use Rattle.core_model.proofs.Queries.InOrderQueries.{mark_cases, Reached, ended, reached_next, reached_start}
use Rattle.core_model.proofs.Queries.NewestValues.{ends_between}
use Rattle.core_model.proofs.Queries.QueryMarks.{marked_marks, marked_front}
use Rattle.core_model.proofs.Queries.QueryCalls.{finished_last}
use Rattle.core_model.proofs.Queries.QueryAnswers.{kept_cut}

-- Values of turns ---------------------------------------------------------------------------------------------------

values_append : (f : ℕ → ℕ) (low high : ℕ) (xs earlier ys : List QueryMark)
    → values_between f low high earlier (xs ++ ys) ≡ values_between f low high earlier xs
    ++ values_between f low high (earlier ++ xs) ys
values_append f low high [] earlier ys = ap (λ l. values_between f low high l ys) (sym (append-nil earlier))
values_append f low high (x ∷ xs) earlier ys =
    let rest = values_append f low high xs (earlier ++ x ∷ []) ys
    ∙ ap (λ l. values_between f low high (earlier ++ x ∷ []) xs ++ values_between f low high l ys)
    (append_assoc earlier (x ∷ []) xs) in
    ap (λ l. cond (ends_between low high x) (value_at f earlier x ∷ l) l) rest
    ∙ by (ends_between low high x) (value_at f earlier x) (values_between f low high (earlier ++ x ∷ []) xs)
    (values_between f low high (earlier ++ x ∷ xs) ys)
  where
    by : (c : Bool) (v : QueryValue) (l m : List QueryValue) → cond c (v ∷ (l ++ m)) (l ++ m) ≡ cond c (v ∷ l) l ++ m
    by true v l m = refl
    by false v l m = refl

-- the value of a mark by the counts of queries in order
abbrev marks_end : ℕ → ℕ → List QueryMark → InOrder → List QueryValue
marks_end low high [] s = []
marks_end low high (m ∷ ms) s = cond (ends_between low high m)
    (record { call = m.call; query = m.query; value = s.count m.query } ∷ []) []

end_marks : (low high n : ℕ) (t : Turn) (s : InOrder) → end_of low high t s ≡ marks_end low high (turn_marks n t) s
end_marks low high n (Refused call) s = refl
end_marks low high n (Passed call) s = refl
end_marks low high n (Flushed call) s = refl
end_marks low high n (Asked call ask used may_pend) s = refl
end_marks low high n (Item call item ends (Create buffer bytes) bound) s = refl
end_marks low high n (Item call item ends (Discard buffer from bytes) bound) s = refl
end_marks low high n (Item call item ends (No_overwrite buffer from bytes) bound) s = refl
end_marks low high n (Item call item ends (Stage bytes target skip) bound) s = refl
end_marks low high n (Item call item ends (Command w skip) bound) s = refl
end_marks low high n (Item call item ends (Destroy buffer) bound) s = refl
end_marks low high n (Item call item ends Create_shader bound) s = refl
end_marks low high n (Item call item ends (Mark_query query true) bound) s = refl
end_marks low high n (Item call item ends (Mark_query query false) bound) s = refl
end_marks low high n (Item call item ends Set_state bound) s = refl

module _ (meaning : Meaning) (script : Script) (low high : ℕ) where
  abbrev f : ℕ → ℕ
  f = count_in_order meaning script

  -- a turn's value
  turn_value : (n : ℕ) (t : Turn) (earlier : List QueryMark) (s : InOrder) → Reached meaning script n earlier s
      → marks_end low high (turn_marks n t) (turn_in_order meaning script t s)
      ≡ values_between f low high earlier (turn_marks n t)
  turn_value n t earlier s r =
      let after = turn_in_order meaning script t s in
      elim (mark_cases meaning script n t s) [
        | inl u ↦ ap (λ l. marks_end low high l after) u.0 ∙ sym (ap (values_between f low high earlier) u.0)
        | inr o ↦ elim o [
          | inl b ↦
              let m = b.0 in
              ap (λ l. marks_end low high l after) b.1
              ∙ ap (λ c. cond (not c && (nat_lt low m.call && nat_le m.call high)) (one m (after.count m.query)) []) b.2
              ∙ ap (λ c. cond (not c && (nat_lt low m.call && nat_le m.call high)) (value_at f earlier m ∷ []) [])
              (sym b.2)
              ∙ sym (ap (values_between f low high earlier) b.1)
          | inr b ↦
              let m = b.0 in
              let value : after.count m.query ≡ (value_at f earlier m).value =
              b.5 m.query ∙ ap (λ c. cond c (s.total - s.begun m.query) (s.count m.query))
              (eq-eqb m.query m.query refl) ∙ ended meaning script n t earlier s b r in
              ap (λ l. marks_end low high l after) b.1
              ∙ ap (λ v. cond (ends_between low high m) (one m v) []) value
              ∙ sym (ap (values_between f low high earlier) b.1)
        ]
      ]
    where
      one : QueryMark → ℕ → List QueryValue
      one m v = record { call = m.call; query = m.query; value = v } ∷ []

  pub ends_from : (ts front back : List Turn) (earlier : List QueryMark) → script.turns ≡ front ++ (ts ++ back)
      → Reached meaning script (commands_in front) earlier (in_order meaning script front at_start)
      → end_values meaning script low high ts (in_order meaning script front at_start)
      ≡ values_between f low high earlier (marks_from (commands_in front) ts)
  ends_from [] front back earlier e r = refl
  ends_from (t ∷ ts) front back earlier e r =
      let n = commands_in front in
      let s = in_order meaning script front at_start in
      let after = turn_in_order meaning script t s in
      let here = turn_marks n t in
      let next = front ++ t ∷ [] in
      let same : in_order meaning script next at_start ≡ after =
      in_order-append meaning script front (t ∷ []) at_start in
      let number : commands_in next ≡ n + commands_by t = (let c = commands_append front (t ∷ []) in
      omega (arith, c)) in
      let rest = ends_from ts next back (earlier ++ here) (e
      ∙ sym (append_assoc front (t ∷ []) (ts ++ back))) (reached_next meaning script front t (ts ++ back)
      earlier e r) in
      ap (λ l. l ++ end_values meaning script low high ts after) (end_marks low high n t after
      ∙ turn_value n t earlier s r)
      ∙ ap (λ s. values_between f low high earlier here ++ end_values meaning script low high ts s) (sym same)
      ∙ ap (λ l. values_between f low high earlier here ++ l) (rest
      ∙ ap (λ k. values_between f low high (earlier ++ here) (marks_from k ts)) number)
      ∙ sym (values_append f low high here earlier (marks_from (n + commands_by t) ts))

-- Messages ----------------------------------------------------------------------------------------------------------

-- of a chunk behind others: its values by the counts that its commands run in order
values_are : (meaning : Meaning) (script : Script) (earlier : List Segment) (s : Segment) (more : List (List Turn))
    (back : List Turn) → chunks script ≡ turns_of (earlier ++ s ∷ []) ++ more
    → script.turns ≡ joined (turns_of (earlier ++ s ∷ [])) ++ back → AreMarked 0 (earlier ++ s ∷ [])
    → values_of (count_in_order meaning script) earlier s ≡ values_after meaning script (suc (length earlier))
values_are meaning script earlier s more back cuts here marked =
    let f = count_in_order meaning script in
    let all = earlier ++ s ∷ [] in
    let ts = joined (turns_of all) in
    let count : length all ≡ suc (length earlier) = (let l = length-append earlier (s ∷ []) in omega (arith, l)) in
    let low : last_finished earlier ≡ upto script (length earlier) =
    finished_is script earlier (s.turns ∷ more) (cuts ∙ ap (λ l. l ++ more) (turns_of-append earlier (s ∷ []))
    ∙ append_assoc (turns_of earlier) (s.turns ∷ []) more) in
    let high : last_call s.turns ≡ upto script (suc (length earlier)) = sym (finished_last earlier s)
    ∙ finished_is script all more cuts ∙ ap (upto script) count in
    let turns : turns_upto script (suc (length earlier)) ≡ ts = upto_there script earlier s more cuts in
    ap (values_between f (last_finished earlier) (last_call s.turns) []) (marked_marks 0 all marked)
    ∙ sym (ends_from meaning script (last_finished earlier) (last_call s.turns) ts [] back [] here
    (reached_start meaning script))
    ∙ ap (λ n. end_values meaning script n (last_call s.turns) ts at_start) low
    ∙ ap (λ n. end_values meaning script (upto script (length earlier)) n ts at_start) high
    ∙ ap (λ l. end_values meaning script (upto script (length earlier)) (upto script (suc (length earlier))) l
    at_start) (sym turns)

-- the messages behind these have what is said of each
at_message : (f : ℕ → ℕ) (earlier : List Segment) (front : List Message) (m : Message) (back : List Message)
    → ValuesRight f earlier (front ++ m ∷ back) → m.values ≡ values_of f (earlier ++ of_messages front) m.segment
at_message f earlier [] m back h = h.0 ∙ ap (λ l. values_of f l m.segment) (sym (append-nil earlier))
at_message f earlier (x ∷ front) m back h = at_message f (earlier ++ x.segment ∷ []) front m back h.1
    ∙ ap (λ l. values_of f l m.segment) (append_assoc earlier (x.segment ∷ []) (of_messages front))

-- each completion and each post
pub message_values : (meaning : Meaning) (reading : Reading) (script : Script) (core : Core)
    → Kept meaning reading script core → QueriesRight meaning script core
    → (front : List Message) (m : Message) (back : List Message)
    → core.posts ++ core.completions ≡ front ++ m ∷ back
    → m.values ≡ values_after meaning script (suc (length core.taken + length front))
message_values meaning reading script core k q front m back e =
    let f = count_in_order meaning script in
    let earlier = core.taken ++ of_messages front in
    let all = earlier ++ m.segment ∷ [] in
    let rest = of_messages back ++ (of_running core.accepted ++ (core.submissions ++ (core.batches ++ core.chunks))) in
    let line : core.taken ++ later core ≡ all ++ rest =
    ap (λ l. core.taken ++ l)
    (sym (append_assoc (of_messages core.posts) (of_messages core.completions)
    (of_running core.accepted ++ (core.submissions ++ (core.batches ++ core.chunks))))
    ∙ ap (λ l. l ++ (of_running core.accepted ++ (core.submissions ++ (core.batches ++ core.chunks))))
    (sym (of_messages-append core.posts core.completions) ∙ ap of_messages e
    ∙ of_messages-append front (m ∷ back))
    ∙ append_assoc (of_messages front) (m.segment ∷ of_messages back)
    (of_running core.accepted ++ (core.submissions ++ (core.batches ++ core.chunks))))
    ∙ sym (append_assoc core.taken (of_messages front) (m.segment ∷ rest))
    ∙ sym (append_assoc earlier (m.segment ∷ []) rest) in
    let c = kept_cut meaning reading script core k in
    let cuts : chunks script ≡ turns_of all ++ (turns_of rest ++ cut script core.open_chunk.turns core.future) =
    c.cut ∙ ap (λ l. l ++ cut script core.open_chunk.turns core.future) (ap turns_of line
    ∙ turns_of-append all rest) ∙ append_assoc (turns_of all) (turns_of rest)
    (cut script core.open_chunk.turns core.future) in
    let here : script.turns ≡ joined (turns_of all) ++ ((joined (turns_of rest) ++ core.open_chunk.turns)
    ++ core.future) =
    c.position ∙ ap (λ l. l ++ core.future) (c.past ∙ ap (λ l. joined (turns_of l) ++ core.open_chunk.turns) line
    ∙ ap (λ l. l ++ core.open_chunk.turns) (joined_append all rest)
    ∙ append_assoc (joined (turns_of all)) (joined (turns_of rest)) core.open_chunk.turns)
    ∙ append_assoc (joined (turns_of all)) (joined (turns_of rest) ++ core.open_chunk.turns) core.future in
    let marked : AreMarked 0 (all ++ rest) = subst (AreMarked 0) line
    (marked_front 0 (core.taken ++ later core) (core.open_chunk ∷ [])
    (subst (AreMarked 0) (segments_handed core) q.marked)) in
    let count : length earlier ≡ length core.taken + length front =
    (let l = length-append core.taken (of_messages front) in let n = messages_length front in
    omega (arith, l, n)) in
    at_message f core.taken front m back (subst (ValuesRight f core.taken) e q.messages)
    ∙ values_are meaning script earlier m.segment (turns_of rest ++ cut script core.open_chunk.turns core.future)
    ((joined (turns_of rest) ++ core.open_chunk.turns) ++ core.future) cuts here (marked_front 0 all rest marked)
    ∙ ap (λ n. values_after meaning script (suc n)) count
