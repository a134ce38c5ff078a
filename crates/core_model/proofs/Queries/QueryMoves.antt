-- What holds of queries as a run begins, and the steps of other parts than App, posts and a hand-over keep it.
use Rattle.std.proofs.Common.{◌≡◌, ℕ, zero, suc, ◌+◌, ◌≤◌, false, cond, ◌==◌, List, [], ◌∷◌, ◌++◌, refl, sym, ap, ◌∙◌}
use Rattle.std.proofs.Common.{subst, inl, inr, arith, append_assoc, append-nil}
use Rattle.std.specs.List.{AllByRecursion}
use Rattle.std.proofs.lemmas.Bool.{cases_Bool, eqb-true}
use Rattle.base_lemmas.specs.Lists.{Sublist}
use Rattle.vk_types.specs.Memory.{Memory}
use Rattle.vk_types.specs.Effects.{Meaning, Act, Host_write, Device, Host_read, invocations}
use Rattle.vk_types.specs.Entries.{Entry}
use Rattle.base_lemmas.proofs.Lists.{all_front, all_back}
use Rattle.core_model.specs.Script.{Script}
use Rattle.core_model.specs.Chunking.{last_call, joined}
use Rattle.core_model.specs.CoreState.{Segment, entries, flat, Running, Message, Core, start, empty_segment}
use Rattle.core_model.specs.CoreState.{of_messages, of_running, rests, waiting, segments, later, on_device, listed}
use Rattle.core_model.specs.CoreState.{last_finished}
use Rattle.core_model.specs.Readings.{Reading}
use Rattle.core_model.specs.TakingPosts.{with_post, TakesPosts, with_fence}
use Rattle.core_model.specs.AppActs.{handed_over}
use Rattle.core_model.specs.OtherParts.{counted, all_marks, values_of}
use Rattle.core_model.specs.CoreStep.{Event, App, Cs, Pipe, Submit, Accept, Run, Complete, Finish, Come_home}
use Rattle.core_model.specs.CoreStep.{is_of_app, Step}
use Rattle.core_model.specs.Worlds.{World, empty, world_step, run_world}
use Rattle.core_model.specs.Lawful.{IsLawful}
use Rattle.core_model.specs.Invariant.{turns_of}
use Rattle.core_model.specs.Kept.{Kept}
use Rattle.core_model.specs.Queries.{count_in_order, commands_in, marks_from, act_is_above, AreMarked, ValuesRight}
use Rattle.core_model.specs.Queries.{newest_of, ends_by, QueriesRight}
use Rattle.core_model.proofs.Listing.Worlds.{flat-append, of_messages-append, of_running-append, run_world-append}
use Rattle.core_model.proofs.Steps.Segments.{behind_six, run_out, segments_parts, device_parts, rests_have}
use Rattle.core_model.proofs.Runs.Tracing.{joined_last}
use Rattle.core_model.proofs.Steps.Turning.{segments_handed}
use Rattle.core_model.proofs.Runs.LastUses.{joined_append}
use Rattle.core_model.proofs.Queries.InOrderCounts.{commands_append}
use Rattle.core_model.proofs.Queries.QueryMarks.{marked_marks, marked_front, marked_back, marked_append, marked_above}
use Rattle.core_model.proofs.Queries.QueryMarks.{marks_before}
use Rattle.core_model.proofs.Queries.NewestValues.{values_same}
use Rattle.core_model.proofs.Queries.QueryAnswers.{IsCut, kept_cut, posted_cut, posted_values}

-- Counts that stay --------------------------------------------------------------------------------------------------

pub count_stays : (meaning : Meaning) (k n : ℕ) (a : Act) (memory : Memory) (counts : ℕ → ℕ) → act_is_above k a
    → n ≤ k → counted meaning a memory counts n ≡ counts n
count_stays meaning k n (Host_write target bytes) memory counts h l = refl
count_stays meaning k n (Device d) memory counts h l =
    let other : (n == d.number) ≡ false = elim (cases_Bool (n == d.number)) [
      | inl t ↦ let e =
          eqb-true n d.number t in absurd (let z : ⊥ = omega (arith, h, l, e) in z)
      | inr f ↦ f
    ] in
    ap (λ c. counts n + cond c (invocations meaning d memory) 0) other
    ∙ (let z : counts n + 0 ≡ counts n = omega arith in z)
count_stays meaning k n (Host_read source) memory counts h l = refl

-- commands with greater numbers leave what a command ran
pub counts_stay : (meaning : Meaning) (k n : ℕ) (xs : List Entry) (w : World)
    → AllByRecursion (λ x. act_is_above k x.act) xs → n ≤ k → (run_world meaning xs w).counts n ≡ w.counts n
counts_stay meaning k n [] w h l = refl
counts_stay meaning k n (x ∷ xs) w h l = counts_stay meaning k n xs (world_step meaning x w) h.1 l
    ∙ count_stays meaning k n x.act w.memory w.counts h.0 l

-- One message more --------------------------------------------------------------------------------------------------

values_last : (f : ℕ → ℕ) (earlier : List Segment) (ms : List Message) (m : Message) → ValuesRight f earlier ms
    → m.values ≡ values_of f (earlier ++ of_messages ms) m.segment → ValuesRight f earlier (ms ++ m ∷ [])
values_last f earlier [] m h k = (k ∙ ap (λ l. values_of f l m.segment) (append-nil earlier), tt)
values_last f earlier (n ∷ ms) m h k = (
  h.0,
  values_last f (earlier ++ n.segment ∷ []) ms m h.1 (k
      ∙ ap (λ l. values_of f l m.segment) (sym (append_assoc earlier (n.segment ∷ []) (of_messages ms)))),
)

-- Chunks that move on -----------------------------------------------------------------------------------------------

pub queries_moved : (meaning : Meaning) (script : Script) (old new : Core) → new.past ≡ old.past
    → new.commands ≡ old.commands → segments new ≡ segments old → new.taken ≡ old.taken → new.values ≡ old.values
    → ValuesRight (count_in_order meaning script) old.taken (new.posts ++ new.completions)
    → QueriesRight meaning script old → QueriesRight meaning script new
queries_moved meaning script old new past commands same taken values messages r =
    let f = count_in_order meaning script in
    record {
      commands = commands ∙ r.commands ∙ ap commands_in (sym past);
      counts = λ n l. ap (λ l. (run_world meaning (flat l) empty).counts n) same
          ∙ r.counts n (subst (λ c. n ≤ c) commands l);
      marked = subst (AreMarked 0) (sym same) r.marked;
      messages = subst (λ l. ValuesRight f l (new.posts ++ new.completions)) (sym taken) messages;
      values = λ q. ap (λ v. v q) values ∙ r.values q
          ∙ ap (λ l. newest_of (ends_by (last_finished l)) f [] (all_marks l) q 0) (sym taken);
    }

-- the chunks, with these behind those that completed
abbrev in_line : Core → List Segment → List Segment
in_line old rest = old.taken ++ (of_messages old.posts ++ (of_messages old.completions ++ rest))

module _ (meaning : Meaning) (reading : Reading) (script : Script) (old : Core)
    (k : Kept meaning reading script old) (q : QueriesRight meaning script old) (r : Running) (rs : List Running)
    (e : old.accepted ≡ r ∷ rs)
    (out : r.rest ≡ []) where
  abbrev f : ℕ → ℕ
  f = count_in_order meaning script

  -- the chunks that are complete with this one, and those behind them
  abbrev complete : List Segment
  complete = run_out old ++ r.segment ∷ []

  abbrev open_ones : List Segment
  open_ones = of_running rs ++ waiting old

  abbrev upto : ℕ
  upto = commands_in (joined (turns_of complete))

  all_split : segments old ≡ complete ++ open_ones
  all_split = segments_parts old ∙ ap (λ l. run_out old ++ (of_running l ++ waiting old)) e
      ∙ sym (append_assoc (run_out old) (r.segment ∷ []) open_ones)

  device_split : on_device old ≡ complete ++ of_running rs
  device_split = device_parts old ∙ ap (λ l. run_out old ++ of_running l) e
      ∙ sym (append_assoc (run_out old) (r.segment ∷ []) (of_running rs))

  marked : AreMarked 0 (complete ++ open_ones)
  marked = subst (AreMarked 0) all_split q.marked

  open_above : AllByRecursion (λ x. act_is_above upto x.act) (flat open_ones)
  open_above =
      let z : 0 + upto ≡ upto = omega arith in
      marked_above upto open_ones (subst (λ n. AreMarked n open_ones) z (marked_back 0 complete open_ones marked))

  running_above : AllByRecursion (λ x. act_is_above upto x.act) (flat (of_running rs))
  running_above = all_front (λ x. act_is_above upto x.act) (flat (of_running rs)) (flat (waiting old))
      (subst (AllByRecursion (λ x. act_is_above upto x.act)) (flat-append (of_running rs) (waiting old)) open_above)

  waiting_above : AllByRecursion (λ x. act_is_above upto x.act) (flat (waiting old))
  waiting_above = all_back (λ x. act_is_above upto x.act) (flat (of_running rs)) (flat (waiting old))
      (subst (AllByRecursion (λ x. act_is_above upto x.act)) (flat-append (of_running rs) (waiting old)) open_above)

  commands_each : (ss : List Segment) → AllByRecursion (λ x. act_is_above upto x.act) (flat ss)
      → AllByRecursion (λ s. AllByRecursion (λ x. act_is_above upto x.act) s.commands) ss
  commands_each [] h = tt
  commands_each (s ∷ ss) h =
      let P : Entry → Type 0 = λ x. act_is_above upto x.act in (
        all_back P s.writes s.commands (all_back P s.reads (s.writes ++ s.commands)
            (all_front P (entries s) (flat ss) h)),
        commands_each ss (all_back P (entries s) (flat ss) h),
      )

  left_above : AllByRecursion (λ x. act_is_above upto x.act) (rests rs)
  left_above =
      rests_have (λ x. act_is_above upto x.act) rs
      (let w : AllByRecursion (λ r. Sublist r.rest r.segment.commands) (r ∷ rs) =
      subst (AllByRecursion (λ r. Sublist r.rest r.segment.commands)) e k.good.sound.within in w).1
      (commands_each (of_running rs) running_above)

  few : upto ≤ old.commands
  few =
      let split : joined (turns_of (segments old)) ≡ joined (turns_of complete) ++ joined (turns_of open_ones) =
      ap (λ l. joined (turns_of l)) all_split ∙ joined_append complete open_ones in
      let past : old.past ≡ joined (turns_of (segments old)) = k.traced.past
      ∙ sym (ap (λ l. joined (turns_of l)) (segments_handed old)
      ∙ joined_last (old.taken ++ later old) old.open_chunk) in
      let all = ap commands_in (past ∙ split) ∙ commands_append (joined (turns_of complete))
      (joined (turns_of open_ones)) in
      let c = q.commands in
      omega (arith, all, c)

  -- what the device counted of complete chunks is what their commands run in order
  counted_right : (n : ℕ) → n ≤ upto → old.counts n ≡ f n
  counted_right n l =
      let w : World = record { memory = old.memory; counts = old.counts } in
      let rest : rests old.accepted ≡ rests rs = ap rests e ∙ ap (λ l. l ++ rests rs) out in
      let all : listed old ≡ flat (on_device old) ++ flat (waiting old) =
      ap flat (all_split ∙ sym (append_assoc complete (of_running rs) (waiting old))
      ∙ ap (λ l. l ++ waiting old) (sym device_split)) ∙ flat-append (on_device old) (waiting old) in
      sym (counts_stay meaning upto n (rests rs) w left_above l)
      ∙ ap (λ l. (run_world meaning l w).counts n) (sym rest)
      ∙ ap (λ w. w.counts n) k.good.sound.device
      ∙ sym (counts_stay meaning upto n (flat (waiting old)) (run_world meaning (flat (on_device old)) empty)
      waiting_above l)
      ∙ ap (λ w. w.counts n) (sym (run_world-append meaning (flat (on_device old)) (flat (waiting old)) empty))
      ∙ ap (λ l. (run_world meaning l empty).counts n) (sym all)
      ∙ q.counts n (let c = few in omega (arith, l, c))

  message_right : values_of old.counts (run_out old) r.segment ≡ values_of f (run_out old) r.segment
  message_right =
      values_same old.counts f upto (last_finished (run_out old)) (last_call r.segment.turns) counted_right []
      (all_marks complete)
      (let z : 0 + upto ≡ upto = omega arith in
      subst (AllByRecursion (λ m. m.before ≤ suc upto)) (sym
      (marked_marks 0 complete (marked_front 0 complete open_ones marked)))
      (subst (λ n. AllByRecursion (λ m. m.before ≤ suc n) (marks_from 0 (joined (turns_of complete)))) z
      (marks_before 0 (joined (turns_of complete)))))

-- The other parts ---------------------------------------------------------------------------------------------------

completed_queries : (meaning : Meaning) (reading : Reading) (script : Script) (old new : Core)
    → Step meaning reading script old Complete new → Kept meaning reading script old → QueriesRight meaning script old
    → QueriesRight meaning script new
completed_queries meaning reading script old new p k q =
    let r = p.0 in
    let rs = p.1 in
    let f = count_in_order meaning script in
    subst (QueriesRight meaning script) (sym p.5)
    (queries_moved meaning script old _ refl refl
    (ap (λ l. old.taken ++ (of_messages old.posts ++ l))
    (ap (λ l. l ++ (of_running rs ++ waiting old)) (of_messages-append old.completions (_ ∷ []))
    ∙ append_assoc (of_messages old.completions) (r.segment ∷ []) (of_running rs ++ waiting old)
    ∙ ap (λ l. of_messages old.completions ++ (of_running l ++ waiting old)) (sym p.2)))
    refl refl
    (subst (ValuesRight f old.taken) (append_assoc old.posts old.completions (_ ∷ []))
    (values_last f old.taken (old.posts ++ old.completions) _ q.messages
    (message_right meaning reading script old k q r rs p.2 p.3
    ∙ ap (λ l. values_of f (old.taken ++ l) r.segment) (sym (of_messages-append old.posts old.completions)))))
    q)

pub others_queries : (meaning : Meaning) (reading : Reading) (script : Script) (old : Core) (e : Event) (new : Core)
    → is_of_app e ≡ false → Step meaning reading script old e new
    → Kept meaning reading script old → QueriesRight meaning script old → QueriesRight meaning script new
others_queries meaning reading script old (App posts) new h p k q = absurd (cc h)
others_queries meaning reading script old Cs new h p k q =
    let s = p.0 in
    let ss = p.1 in
    let o = old.open_chunk ∷ [] in
    subst (QueriesRight meaning script) (sym p.4)
    (queries_moved meaning script old _ refl refl
    (ap (λ l. in_line old (of_running old.accepted ++ (old.submissions ++ l)))
    (append_assoc old.batches (s ∷ []) (ss ++ o) ∙ ap (λ l. old.batches ++ (l ++ o)) (sym p.2))) refl refl
    q.messages q)
others_queries meaning reading script old (Pipe j) new h p k q =
    subst (QueriesRight meaning script) (sym p.2) (queries_moved meaning script old _ refl refl refl refl refl
    q.messages q)
others_queries meaning reading script old Submit new h p k q =
    let s = p.0 in
    let ss = p.1 in
    let rest = old.chunks ++ old.open_chunk ∷ [] in
    subst (QueriesRight meaning script) (sym p.5)
    (queries_moved meaning script old _ refl refl
    (ap (λ l. in_line old (of_running old.accepted ++ l)) (append_assoc old.submissions (s ∷ []) (ss ++ rest)
    ∙ ap (λ l. old.submissions ++ (l ++ rest)) (sym p.2))) refl refl q.messages q)
others_queries meaning reading script old Accept new h p k q =
    let s = p.0 in
    let ss = p.1 in
    let r : Running = record { segment = s; rest = s.commands } in
    let rest = old.batches ++ (old.chunks ++ old.open_chunk ∷ []) in
    subst (QueriesRight meaning script) (sym p.4)
    (queries_moved meaning script old _ refl refl
    (ap (in_line old)
    (ap (λ l. l ++ (ss ++ rest)) (of_running-append old.accepted (r ∷ []))
    ∙ append_assoc (of_running old.accepted) (s ∷ []) (ss ++ rest)
    ∙ ap (λ l. of_running old.accepted ++ (l ++ rest)) (sym p.2)))
    refl refl q.messages q)
others_queries meaning reading script old (Run j) new h p k q =
    let front = p.0 in
    let r = p.1 in
    let back = p.2 in
    let now : Running = record { segment = r.segment; rest = p.4 ++ p.6 } in
    subst (QueriesRight meaning script) (sym p.10)
    (queries_moved meaning script old _ refl refl
    (ap (λ l. in_line old (l ++ waiting old)) (of_running-append front (now ∷ back)
    ∙ sym (of_running-append front (r ∷ back)) ∙ ap of_running (sym p.3))) refl refl q.messages q)
others_queries meaning reading script old Complete new h p k q = completed_queries meaning reading script old new p k q
others_queries meaning reading script old Finish new h p k q =
    let m = p.0 in
    let ms = p.1 in
    let rest = of_running old.accepted ++ waiting old in
    let f = count_in_order meaning script in
    subst (QueriesRight meaning script) (sym p.4)
    (queries_moved meaning script old _ refl refl
    (ap (λ l. old.taken ++ l)
    (ap (λ l. l ++ (of_messages ms ++ rest)) (of_messages-append old.posts (m ∷ []))
    ∙ append_assoc (of_messages old.posts) (m.segment ∷ []) (of_messages ms ++ rest)
    ∙ ap (λ l. of_messages old.posts ++ (of_messages l ++ rest)) (sym p.2)))
    refl refl
    (subst (ValuesRight f old.taken) (ap (λ l. old.posts ++ l) p.2
    ∙ sym (append_assoc old.posts (m ∷ []) ms)) q.messages)
    q)
others_queries meaning reading script old (Come_home block place) new h p k q =
    subst (QueriesRight meaning script) (sym p.6) (queries_moved meaning script old _ refl refl refl refl refl
    q.messages q)

-- Posts -------------------------------------------------------------------------------------------------------------

posted_queries : (meaning : Meaning) (script : Script) → IsLawful meaning script
    → (old : Core) (m : Message) (ms : List Message) → old.posts ≡ m ∷ ms → IsCut script old
    → QueriesRight meaning script old → QueriesRight meaning script (with_post m ms old)
posted_queries meaning script lawful old m ms e k q =
    let f = count_in_order meaning script in
    let new = with_post m ms old in
    let rest = of_messages old.completions ++ (of_running old.accepted ++ waiting old) in
    let same : segments new ≡ segments old = append_assoc old.taken (m.segment ∷ []) (of_messages ms ++ rest)
    ∙ ap (λ l. old.taken ++ (of_messages l ++ rest)) (sym e) in
    let messages : ValuesRight f old.taken (m ∷ (ms ++ old.completions)) =
    subst (λ l. ValuesRight f old.taken (l ++ old.completions)) e q.messages in
    record {
      commands = q.commands;
      counts = λ n l. ap (λ l. (run_world meaning (flat l) empty).counts n) same ∙ q.counts n l;
      marked = subst (AreMarked 0) (sym same) q.marked;
      messages = messages.1;
      values = λ query. posted_values meaning script lawful old k q m ms e query messages.0;
    }

taken_queries : (meaning : Meaning) (script : Script) → IsLawful meaning script → (n : ℕ) (old mid : Core)
    → TakesPosts n old mid → IsCut script old
    → QueriesRight meaning script old → QueriesRight meaning script mid
taken_queries meaning script lawful zero old mid h k q = subst (QueriesRight meaning script) (sym h) q
taken_queries meaning script lawful (suc n) old mid h k q =
    taken_queries meaning script lawful n (with_post h.0 h.1 old) mid h.3 (posted_cut script old h.0 h.1 h.2 k)
    (posted_queries meaning script lawful old h.0 h.1 h.2 k q)

pub posts_queries : (meaning : Meaning) (reading : Reading) (script : Script) → IsLawful meaning script
    → (n : ℕ) (old mid : Core) → TakesPosts n old mid → Kept meaning reading script old
    → QueriesRight meaning script old → QueriesRight meaning script (with_fence n mid)
posts_queries meaning reading script lawful n old mid h k q =
    fenced n (taken_queries meaning script lawful n old mid h (kept_cut meaning reading script old k) q)
  where
    fenced : (n : ℕ) → QueriesRight meaning script mid → QueriesRight meaning script (with_fence n mid)
    fenced zero q = q
    fenced (suc n) q = queries_moved meaning script mid (with_fence (suc n) mid) refl refl refl refl refl q.messages q

-- A hand-over -------------------------------------------------------------------------------------------------------

pub hand_over_queries : (meaning : Meaning) (script : Script) (old : Core) → QueriesRight meaning script old
    → QueriesRight meaning script (handed_over old)
hand_over_queries meaning script old q =
    let new = handed_over old in
    let line : segments new ≡ segments old ++ empty_segment ∷ [] =
    ap (λ l. in_line old (of_running old.accepted ++ (old.submissions ++ (old.batches ++ l))))
    (append_assoc old.chunks (old.open_chunk ∷ []) (empty_segment ∷ []))
    ∙ behind_seven old.taken (of_messages old.posts) (of_messages old.completions) (of_running old.accepted)
    old.submissions old.batches old.chunks (old.open_chunk ∷ []) (empty_segment ∷ []) in
    let same : listed new ≡ listed old = ap flat line ∙ flat-append (segments old) (empty_segment ∷ [])
    ∙ append-nil (flat (segments old)) in
    record {
      commands = q.commands;
      counts = λ n l. ap (λ l. (run_world meaning l empty).counts n) same ∙ q.counts n l;
      marked = subst (AreMarked 0) (sym line) (marked_append 0 (segments old) (empty_segment ∷ []) q.marked
          (record { queries = refl; above = tt; numbered = refl }, tt));
      messages = q.messages;
      values = q.values;
    }
  where
    behind_seven : (a b c d e f g o z : List Segment) → a ++ (b ++ (c ++ (d ++ (e ++ (f ++ (g ++ (o ++ z)))))))
        ≡ (a ++ (b ++ (c ++ (d ++ (e ++ (f ++ (g ++ o))))))) ++ z
    behind_seven a b c d e f g o z =
        ap (λ l. a ++ (b ++ (c ++ (d ++ (e ++ (f ++ l)))))) (sym (append_assoc g o z))
        ∙ ap (λ l. a ++ l) (behind_six b c d e f (g ++ o) z)
        ∙ sym (append_assoc a (b ++ (c ++ (d ++ (e ++ (f ++ (g ++ o)))))) z)

-- As a run begins ---------------------------------------------------------------------------------------------------

pub start_queries : (meaning : Meaning) (script : Script) → QueriesRight meaning script (start script)
start_queries meaning script = record {
  commands = refl;
  counts = λ n l. let z : 0 ≡ n = omega (arith, l) in ap (count_in_order meaning script) z;
  marked = (record { queries = refl; above = tt; numbered = refl }, tt);
  messages = tt;
  values = λ q. refl;
}
