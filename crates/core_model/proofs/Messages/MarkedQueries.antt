-- The commands, query marks and shaders of messages that succeed each other are those that the script's turns make.
use Rattle.std.proofs.Common.{◌≡◌, ℕ, suc, ◌+◌, ◌<◌, ◌≤◌, true, false, List, [], ◌∷◌, ◌++◌, map, length, refl}
use Rattle.std.proofs.Common.{sym, ap, ◌∙◌, subst, arith, append_assoc, append-nil}
use Rattle.std.specs.List.{AllByRecursion}
use Rattle.vk_types.specs.declared.message.Placed.{Placed}
use Rattle.vk_types.specs.Effects.{Meaning}
use Rattle.base_lemmas.specs.Lists.{Pairwise, numbers_from}
use Rattle.base_lemmas.proofs.Lists.{all_append, all_map}
use Rattle.core_model.specs.Script.{Turn, Refused, Passed, Flushed, Asked, Item, Script}
use Rattle.core_model.specs.Chunking.{upto, chunk_turns, joined}
use Rattle.core_model.specs.CoreState.{last_finished}
use Rattle.core_model.specs.Renaming.{BlockMap}
use Rattle.core_model.specs.OtherParts.{created, needed, is_among, values_between}
use Rattle.core_model.specs.Batching.{Made, nothing_made, next_chunk, make_turns, make_chunks, made}
use Rattle.core_model.specs.BatchOrder.{queries_from, queries_of}
use Rattle.core_model.specs.Invariant.{turns_of}
use Rattle.core_model.specs.Lawful.{IsLawful}
use Rattle.core_model.specs.Queries.{commands_in, marks_from, count_in_order, AreInTurn}
use Rattle.core_model.specs.Spine.{Succeeds, made_of}
use Rattle.core_model.specs.Succession.{Head, Log, turns_upto, places_in, values_after}
use Rattle.core_model.proofs.Ends.NeededShaders.{created_append, among_front}
use Rattle.core_model.proofs.Steps.Segments.{turns_length}
use Rattle.core_model.proofs.Steps.Uses.{map_append}
use Rattle.core_model.proofs.Messages.HeadLines.{chunk_of, chunks_of, one_longer, turns_numbered, joined_last}
use Rattle.core_model.proofs.Messages.HeadLines.{heads_last, LastOf, last_of}
use Rattle.core_model.proofs.Messages.MadeCounts.{Adds, turns_add, shaders_in, turn_shaders}
use Rattle.core_model.proofs.Messages.HeadStates.{length_of_chunks}
use Rattle.core_model.proofs.Messages.ScriptChunks.{finished_is}
use Rattle.core_model.proofs.Messages.Placements.{GivesLine}
use Rattle.core_model.proofs.Queries.EndValues.{ends_from}
use Rattle.core_model.proofs.Queries.InOrderCounts.{commands_append}
use Rattle.core_model.proofs.Queries.InOrderQueries.{reached_start}
use Rattle.core_model.proofs.Queries.MarksInTurn.{in_turn_from}
use Rattle.core_model.proofs.Queries.QueryCalls.{calls_rise, calls_behind}
use Rattle.core_model.proofs.Queries.QueryMarks.{marks_append, marks_have, marks_behind, marks_rise, numbers_rise}

-- Messages behind what was made ---------------------------------------------------------------------------------------

module _ (script : Script) where
  -- the turns of these messages, the first of which is of chunk k
  abbrev turns_from : ℕ → List Head → List Turn
  turns_from k hs = joined (turns_of (chunks_of script k hs))

  abbrev next : ℕ → Head → Made → Made
  next k h m = make_turns script (chunk_turns script k) h.placed (next_chunk m)

  line_commands : (k : ℕ) (hs : List Head) (m : Made) (old new : BlockMap)
      → GivesLine script old (chunks_of script k hs) new
      → (make_chunks script k (places_in hs) m).commands ≡ m.commands + commands_in (turns_from k hs)
  line_commands k [] m old new g = omega arith
  line_commands k (h ∷ hs) m old new g =
      let here = (turns_add script (chunk_turns script k) h.placed old g.0 (next_chunk m) g.1).commands in
      let rest = line_commands (suc k) hs (next k h m) g.0 new g.2 in
      let both = commands_append (chunk_turns script k) (turns_from (suc k) hs) in
      omega (arith, here, rest, both)

  line_queries : (k : ℕ) (hs : List Head) (m : Made) (old new : BlockMap)
      → GivesLine script old (chunks_of script k hs) new
      → queries_from script k (places_in hs) m ≡ marks_from m.commands (turns_from k hs)
  line_queries k [] m old new g = refl
  line_queries k (h ∷ hs) m old new g =
      let ts = chunk_turns script k in
      let here = turns_add script ts h.placed old g.0 (next_chunk m) g.1 in
      ap (λ l. l ++ queries_from script (suc k) (places_in hs) (next k h m)) here.queries
      ∙ ap (λ l. marks_from m.commands ts ++ l) (line_queries (suc k) hs (next k h m) g.0 new g.2
      ∙ ap (λ i. marks_from i (turns_from (suc k) hs)) here.commands)
      ∙ sym (marks_append m.commands ts (turns_from (suc k) hs))

  queries_last : (k : ℕ) (pss : List (List Placed)) (ps : List Placed) (m : Made)
      → queries_from script k (pss ++ ps ∷ []) m
      ≡ queries_from script k pss m ++ (make_chunks script k (pss ++ ps ∷ []) m).queries
  queries_last k [] ps m = append-nil (make_turns script (chunk_turns script k) ps (next_chunk m)).queries
  queries_last k (qs ∷ pss) ps m =
      let n = make_turns script (chunk_turns script k) qs (next_chunk m) in
      ap (λ l. n.queries ++ l) (queries_last (suc k) pss ps n)
      ∙ sym (append_assoc n.queries (queries_from script (suc k) pss n)
      (make_chunks script (suc k) (pss ++ ps ∷ []) n).queries)

-- The shaders of turns ------------------------------------------------------------------------------------------------

module _ (meaning : Meaning) (script : Script) (lawful : IsLawful meaning script) where
  abbrev AreCreated : List Turn → List ℕ → Type 0
  AreCreated ts ns = AllByRecursion (λ shader. is_among shader (created ts) ≡ true) ns

  turn_created : (front back : List Turn) (t : Turn) → script.turns ≡ front ++ t ∷ back
      → AreCreated front (turn_shaders t)
  turn_created front back (Refused call) e = tt
  turn_created front back (Passed call) e = tt
  turn_created front back (Flushed call) e = tt
  turn_created front back (Asked call ask used may_pend) e = tt
  turn_created front back (Item call item ends play bound) e = lawful.shaders front call item ends play bound back e

  turns_created : (ts front back : List Turn) → script.turns ≡ front ++ (ts ++ back)
      → AreCreated (front ++ ts) (shaders_in ts)
  turns_created [] front back e = tt
  turns_created (t ∷ ts) front back e =
      let all = front ++ t ∷ ts in
      all_append (λ shader. is_among shader (created all) ≡ true) (turn_shaders t) (shaders_in ts)
      (all_map (λ shader. is_among shader (created front) ≡ true) (λ shader. is_among shader (created all) ≡ true)
      (λ shader k. subst (λ l. is_among shader l ≡ true) (sym (created_append front (t ∷ ts)))
      (among_front shader (created front) (created (t ∷ ts)) k)) (turn_shaders t)
      (turn_created front (ts ++ back) t e))
      (subst (λ l. AreCreated l (shaders_in ts)) (append_assoc front (t ∷ []) ts)
      (turns_created ts (front ++ t ∷ []) back (e ∙ sym (append_assoc front (t ∷ []) (ts ++ back)))))

-- The last message ----------------------------------------------------------------------------------------------------

module _ (log : Log) (front : List Head) (h : Head) (s : Succeeds log (front ++ h ∷ [])) where
  abbrev last : LastOf log front h
  last = last_of log front h s

  abbrev past : List Turn
  past = turns_upto log.script (length front)

  abbrev here : List Turn
  here = chunk_turns log.script (suc (length front))

  before_is : past ≡ joined (turns_of (chunks_of log.script 1 front))
  before_is = ap joined (turns_numbered log.script 1 front)

  commands_before : (made_of log front).commands ≡ commands_in past
  commands_before =
      let line = line_commands log.script 1 front nothing_made _ _ last.line in
      let same = ap commands_in before_is in
      omega (arith, line, same)

  adds : Adds (next_chunk (made_of log front)) (made_of log (front ++ h ∷ [])) (commands_in here)
      (marks_from (made_of log front).commands here) (shaders_in here)
  adds = subst (λ n. Adds (next_chunk (made_of log front)) n (commands_in here)
      (marks_from (made_of log front).commands here) (shaders_in here)) (sym last.made_here)
      (turns_add log.script here h.placed last.before last.after (next_chunk (made_of log front)) last.gives)

  turns_here : turns_upto log.script (suc (length front)) ≡ joined (turns_of (chunks_of log.script 1 front)) ++ here
  turns_here =
      ap (λ k. joined (map (chunk_turns log.script) (numbers_from 1 k))) (sym (one_longer front h))
      ∙ ap joined (turns_numbered log.script 1 (front ++ h ∷ []))
      ∙ ap (λ l. joined (turns_of l)) (heads_last log.script front h)
      ∙ joined_last (chunks_of log.script 1 front) (chunk_of log.script (suc (length front)) h)

  turns_first : log.script.turns ≡ turns_upto log.script (suc (length front)) ++ last.back
  turns_first = last.turns ∙ sym (append_assoc (joined (turns_of (chunks_of log.script 1 front))) here last.back)
      ∙ ap (λ l. l ++ last.back) (sym turns_here)

  pub turns_there : (rest : List Turn) × (log.script.turns ≡ turns_upto log.script (suc (length front)) ++ rest)
  turns_there = (last.back, turns_first)

  pub commands_numbered : map (λ d. d.number) (made_of log (front ++ h ∷ [])).listed
      ≡ numbers_from (suc (commands_in past)) (commands_in here)
  commands_numbered = adds.numbered ∙ ap (λ i. numbers_from (suc i) (commands_in here)) commands_before

  pub queries_marked : (made_of log (front ++ h ∷ [])).queries ≡ marks_from (commands_in past) here
  queries_marked = adds.queries ∙ ap (λ i. marks_from i here) commands_before

  pub queries_all : queries_of log.script (places_in (front ++ h ∷ []))
      ≡ marks_from 0 (turns_upto log.script (suc (length front)))
  queries_all =
      let first = joined (turns_of (chunks_of log.script 1 front)) in
      let split = map_append (λ (h : Head). h.placed) front (h ∷ []) in
      ap (queries_of log.script) split ∙ queries_last log.script 1 (places_in front) h.placed nothing_made
      ∙ ap (λ l. l ++ (made log.script (places_in front ++ h.placed ∷ [])).queries)
      (line_queries log.script 1 front nothing_made _ _ last.line)
      ∙ ap (λ l. marks_from 0 first ++ (made log.script l).queries) (sym split)
      ∙ ap (λ l. marks_from 0 first ++ l) (queries_marked
      ∙ ap (λ i. marks_from i here) (let e = ap commands_in before_is in
      let z : commands_in past ≡ 0 + commands_in first = omega (arith, e) in z))
      ∙ sym (marks_append 0 first here) ∙ ap (marks_from 0) (sym turns_here)

  pub queries_in_turn : IsLawful log.meaning log.script → (query : ℕ)
      → AreInTurn query false (queries_of log.script (places_in (front ++ h ∷ [])))
  queries_in_turn lawful query = subst (AreInTurn query false) (sym queries_all)
      (in_turn_from log.meaning log.script lawful (turns_upto log.script (suc (length front))) [] last.back
      turns_first query)

  pub queries_rise : IsLawful log.meaning log.script
      → Pairwise (λ m k. m.call ≤ k.call) (queries_of log.script (places_in (front ++ h ∷ [])))
  queries_rise lawful = subst (Pairwise (λ m k. m.call ≤ k.call)) (sym queries_all)
      (marks_rise 0 (turns_upto log.script (suc (length front))) (calls_rise log.meaning log.script lawful
      (turns_upto log.script (suc (length front))) [] last.back turns_first))

  pub values_between_marks : values_after log.meaning log.script (suc (length front))
      ≡ values_between (count_in_order log.meaning log.script) (upto log.script (length front))
      (upto log.script (suc (length front))) [] (queries_of log.script (places_in (front ++ h ∷ [])))
  values_between_marks =
      let low = upto log.script (length front) in
      let high = upto log.script (suc (length front)) in
      ends_from log.meaning log.script low high (turns_upto log.script (suc (length front))) [] last.back []
      turns_first (reached_start log.meaning log.script)
      ∙ ap (values_between (count_in_order log.meaning log.script) low high []) (sym queries_all)

  pub shaders_created : IsLawful log.meaning log.script
      → AllByRecursion (λ shader. is_among shader (created (turns_upto log.script (suc (length front)))) ≡ true)
      (needed (made_of log (front ++ h ∷ [])).listed)
  shaders_created lawful =
      subst (AllByRecursion (λ shader. is_among shader (created (turns_upto log.script (suc (length front)))) ≡ true))
      (sym adds.shaders)
      (subst (λ l. AllByRecursion (λ shader. is_among shader (created l) ≡ true) (shaders_in here)) (sym turns_here)
      (turns_created log.meaning log.script lawful here (joined (turns_of (chunks_of log.script 1 front))) last.back
      last.turns))

  pub names_rise : Pairwise (λ m k. m.before ≤ k.before) (queries_of log.script (places_in (front ++ h ∷ [])))
  names_rise = subst (Pairwise (λ m k. m.before ≤ k.before)) (sym queries_all)
      (numbers_rise 0 (turns_upto log.script (suc (length front))))

  pub queries_behind : AllByRecursion (λ m. (made_of log front).commands < m.before)
      (made_of log (front ++ h ∷ [])).queries
  queries_behind = subst (AllByRecursion (λ m. (made_of log front).commands < m.before)) (sym adds.queries)
      (marks_behind (made_of log front).commands here)

  pub queries_late : IsLawful log.meaning log.script
      → AllByRecursion (λ m. upto log.script (length front) < m.call) (made_of log (front ++ h ∷ [])).queries
  queries_late lawful =
      let first = chunks_of log.script 1 front in
      let long : length first ≡ length front = sym (turns_length first) ∙ length_of_chunks log.script 1 front in
      let ended : last_finished first ≡ upto log.script (length front) =
      finished_is log.script first (here ∷ last.rest) last.cut ∙ ap (upto log.script) long in
      subst (λ n. AllByRecursion (λ m. n < m.call) (made_of log (front ++ h ∷ [])).queries) ended
      (subst (AllByRecursion (λ m. last_finished first < m.call)) (sym adds.queries)
      (marks_have (λ c. last_finished first < c) (made_of log front).commands here
      (calls_behind log.meaning log.script lawful here first [] last.back last.turns)))
