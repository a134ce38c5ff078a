-- At the end nothing is on its way.
use Rattle.std.proofs.Common.{◌≡◌, ℕ, zero, suc, ◌≤◌, Bool, true, false, cond, not, ◌||◌, ◌&&◌, nat_le, List, [], ◌∷◌}
use Rattle.std.proofs.Common.{◌++◌, refl, sym, ap, ◌∙◌, subst, inl, inr, Option, Some, None, arith, append-nil}
use Rattle.std.proofs.Common.{append_assoc}
use Rattle.std.specs.List.{AllByRecursion}
use Rattle.std.proofs.lemmas.Bool.{le-leb}
use Rattle.vk_types.specs.declared.command.Command as c
use Rattle.vk_types.specs.declared.op.VkOp.{VkOp}
use Rattle.vk_types.specs.declared.op.VkOp.TheVariants as op
use Rattle.vk_types.specs.BarrierCauses.{barriers_from}
use Rattle.vk_types.specs.Effects.{Meaning}
use Rattle.vk_types.specs.Entries.{Counts, after_barrier}
use Rattle.core_model.specs.Script.{Ask, Bytes, Count, Constant, Turn, Refused, Passed, Flushed, Asked, Item, Script}
use Rattle.core_model.specs.Chunking.{ends_call, entry_count, in_list, is_full, is_due, cut, joined}
use Rattle.core_model.specs.CoreState.{Running, Message, Core, start, of_messages, of_running, later, last_finished}
use Rattle.core_model.specs.CoreState.{done, End_said}
use Rattle.core_model.specs.Readings.{Reading}
use Rattle.core_model.specs.Adding.{with_turn, with_reply}
use Rattle.core_model.specs.AppActs.{TakesTurn, Acts, answer}
use Rattle.core_model.specs.TakingPosts.{TakesPosts, with_post, with_fence}
use Rattle.core_model.specs.CoreStep.{Event, App, Cs, Pipe, Submit, Accept, Run, Complete, Finish, Come_home, Step}
use Rattle.core_model.specs.CoreStep.{Chain}
use Rattle.core_model.specs.Listed.{is_of_device, plain_entries}
use Rattle.core_model.specs.Lawful.{IsLawful}
use Rattle.core_model.specs.Invariant.{turns_of, handed}
use Rattle.core_model.specs.Kept.{Kept}
use Rattle.core_model.specs.Ends.{IsWhole}
use Rattle.core_model.proofs.Messages.ItemCases.{result_is}
use Rattle.core_model.proofs.Runs.StepsKeepAll.{posts_kept}
use Rattle.core_model.proofs.Runs.Chains.{reached}
use Rattle.core_model.proofs.Ends.LastTurns.{from_behind, all_taken}

-- Lists -------------------------------------------------------------------------------------------------------------

front_none : {A : Type 0} (xs ys : List A) → xs ++ ys ≡ [] → (xs ≡ []) × (ys ≡ [])
front_none [] ys e = (refl, e)
front_none (x ∷ xs) ys e = absurd (cc e)

messages_none : (ms : List Message) → of_messages ms ≡ [] → ms ≡ []
messages_none [] e = refl
messages_none (m ∷ ms) e = absurd (cc e)

running_none : (rs : List Running) → of_running rs ≡ [] → rs ≡ []
running_none [] e = refl
running_none (r ∷ rs) e = absurd (cc e)

no_middle : {A : Type 0} (xs : List A) (y : A) (ys : List A) → [] ≡ xs ++ y ∷ ys → ⊥
no_middle [] y ys e = cc e
no_middle (x ∷ xs) y ys e = cc e

in_list_behind : (f : List Turn) (x : Turn) → in_list (f ++ x ∷ []) ≡ not (ends_call x)
in_list_behind [] x = refl
in_list_behind (t ∷ []) x = refl
in_list_behind (t ∷ u ∷ f) x = in_list_behind (u ∷ f) x

-- without a command no barrier is needed
no_ops : (staging : ℕ → Bool) (recent batch : List c.Command) (counts : Counts) (ops : List VkOp)
    → AllByRecursion (λ o. is_of_device o ≡ true) ops
    → plain_entries counts [] ops ≡ [] → barriers_from staging recent batch ops ≡ []
no_ops staging recent batch counts [] h e = refl
no_ops staging recent batch counts (op.HostWrite r call ∷ ops) h e = absurd (cc h.0)
no_ops staging recent batch counts (op.Pipeline shader ∷ ops) h e = absurd (cc h.0)
no_ops staging recent batch counts (op.Barrier barrier ∷ ops) h e =
    no_ops staging recent batch (after_barrier counts barrier) ops h.1 e
no_ops staging recent batch counts (op.Command command ∷ ops) h e = absurd (cc e)
no_ops staging recent batch counts (op.Submit k ∷ ops) h e = absurd (cc h.0)
no_ops staging recent batch counts (op.Fence k ∷ ops) h e = absurd (cc h.0)
no_ops staging recent batch counts (op.HostRead r call ∷ ops) h e = absurd (cc h.0)

-- The end -----------------------------------------------------------------------------------------------------------

module _ (meaning : Meaning) (reading : Reading) (script : Script) (lawful : IsLawful meaning script) where
  abbrev WholeAtEnd : Core → Type 0
  WholeAtEnd core = core.ended ≡ true → IsWhole script core

  module _ (old : Core) (k : Kept meaning reading script old)
      (due : is_due script old.open_chunk.turns old.future ≡ false) (over : old.future ≡ []) where
    abbrev o : List Turn
    o = old.open_chunk.turns

    all_past : old.past ≡ script.turns
    all_past = sym (append-nil old.past) ∙ ap (λ l. old.past ++ l) (sym over) ∙ k.good.sound.position

    -- no list goes on
    no_list : in_list o ≡ false
    no_list = elim (from_behind o) [
      | inl e ↦ ap in_list e
      | inr r ↦
          let jt = joined (turns_of (handed old)) in
          let here : script.turns ≡ (jt ++ r.0) ++ r.1 ∷ [] = sym all_past ∙ k.traced.past ∙ ap (λ l. jt ++ l) r.2
          ∙ sym (append_assoc jt r.0 (r.1 ∷ [])) in
          ap in_list r.2 ∙ in_list_behind r.0 r.1 ∙ ap not (lawful.ends (jt ++ r.0) r.1 here)
    ]

    not_due : is_due script o [] ≡ false
    not_due = subst (λ l. is_due script o l ≡ false) over due

    bare : entry_count o ≡ 0
    bare = by (entry_count o) (last (is_full script o) (nat_le 1 (entry_count o)) (in_list o) no_list not_due)
      where
        last : (a b c : Bool) → c ≡ false → (a || (b && (not c && true))) ≡ false → b ≡ false
        last true b c f h = absurd (cc h)
        last false true true f h = absurd (cc f)
        last false true false f h = absurd (cc h)
        last false false c f h = refl

        by : (n : ℕ) → nat_le 1 n ≡ false → n ≡ 0
        by zero h = refl
        by (suc n) h = absurd (let z : true ≡ false = sym (le-leb 1 (suc n) (omega arith)) ∙ h in cc z)

    whole_here : last_finished (handed old) ≤ done old → IsWhole script
        (with_reply End_said (record old { ended = true }))
    whole_here low =
        let none : later old ≡ [] = all_taken meaning reading script lawful old k bare
        (λ t ts f. absurd (let z : [] ≡ t ∷ ts = sym over ∙ f in cc z)) low in
        let p = front_none (of_messages old.posts) _ none in
        let q = front_none (of_messages old.completions) _ p.1 in
        let r = front_none (of_running old.accepted) _ q.1 in
        let s = front_none old.submissions _ r.1 in
        let b = front_none old.batches old.chunks s.1 in
        let silent = k.traced.quiet bare in
        let grows = k.good.sound.grows in
        let turns : handed old ≡ old.taken = ap (λ l. old.taken ++ l) none ∙ append-nil old.taken in
        let cuts : cut script o old.future ≡ [] = ap (cut script o) over ∙ ap (λ c. cond c (o ∷ []) []) not_due in
        record {
          chunks = sym (k.good.sound.cut ∙ ap (λ l. turns_of (handed old) ++ l) cuts
              ∙ append-nil (turns_of (handed old)) ∙ ap turns_of turns);
          posts = messages_none old.posts p.0;
          completions = messages_none old.completions q.0;
          accepted = running_none old.accepted r.0;
          submissions = s.0;
          batches = b.0;
          none_queued = b.1;
          writes = silent.0;
          commands = silent.1;
          ops = grows.opened.barriers ∙ no_ops old.is_staging _ _ _ old.open_chunk.ops grows.of_device (grows.works
              ∙ silent.1);
          past = all_past;
        }

  -- App ends nothing else
  posts_ended : (n : ℕ) (old mid : Core) → TakesPosts n old mid → mid.ended ≡ old.ended
  posts_ended zero old mid p = ap (λ c. c.ended) p
  posts_ended (suc n) old mid p = posts_ended n (with_post p.0 p.1 old) mid p.3

  fence_ended : (n : ℕ) (core : Core) → (with_fence n core).ended ≡ core.ended
  fence_ended zero core = refl
  fence_ended (suc n) core = refl

  answer_ended : (call : ℕ) (ask : Ask) (used : Option ℕ) (core : Core) → (answer call ask used core).ended ≡ core.ended
  answer_ended call (Bytes source) None core = refl
  answer_ended call (Bytes source) (Some used) core = refl
  answer_ended call (Count query) used core = refl
  answer_ended call (Constant value) used core = refl

  turn_ended : (old : Core) (t : Turn) (turns : List Turn) (new : Core) → TakesTurn reading script t turns old new
      → new.ended ≡ old.ended
  turn_ended old (Refused call) turns new n = ap (λ c. c.ended) n
  turn_ended old (Passed call) turns new n = ap (λ c. c.ended) n
  turn_ended old (Flushed call) turns new n = ap (λ c. c.ended) n
  turn_ended old (Asked call ask used may_pend) turns new (inl n) = ap (λ c. c.ended) n.1
      ∙ answer_ended call ask used (with_turn (Asked call ask used may_pend) turns old)
  turn_ended old (Asked call ask used may_pend) turns new (inr n) = ap (λ c. c.ended) n.2
  turn_ended old (Item call item ends play bound) turns new n =
      ap (λ c. c.ended) (result_is reading script call item play bound
      (with_turn (Item call item ends play bound) turns old) new n)

  act_whole : (old new : Core) → Kept meaning reading script old → Acts reading script old new → WholeAtEnd new
  act_whole old new k a e = elim a.1 [
    | inl x ↦ absurd (let z : true ≡ false = sym e ∙ ap (λ c. c.ended) x.2 ∙ a.0 in cc z)
    | inr x ↦ elim x [
      | inl y ↦ absurd (let z : true ≡ false = sym e ∙ turn_ended old y.1 y.2 new y.4 ∙ a.0 in cc z)
      | inr y ↦ subst (IsWhole script) (sym y.3) (whole_here old k y.0 y.1 y.2)
    ]
  ]

  whole_step : (old : Core) (e : Event) (new : Core) → Step meaning reading script old e new
      → Kept meaning reading script old → WholeAtEnd old → WholeAtEnd new
  whole_step old (App n) new p k h e =
      elim p.4 [
        | inl a ↦ act_whole (with_fence n p.2) new (posts_kept meaning reading script n old p.2 p.3 k) a e
        | inr a ↦ absurd (let z : true ≡ false = sym e ∙ ap (λ c. c.ended) a.2 ∙ fence_ended n p.2
            ∙ posts_ended n old p.2 p.3 ∙ p.0 in cc z)
      ]
  whole_step old Cs new p k h e = let w = h (sym (ap (λ c. c.ended) p.4) ∙ e) in
      absurd (let z : [] ≡ p.0 ∷ p.1 = sym w.none_queued ∙ p.2 in cc z)
  whole_step old (Pipe j) new p k h e = let w = h (sym (ap (λ c. c.ended) p.2) ∙ e) in
      subst (IsWhole script) (sym p.2) (record {
        chunks = w.chunks;
        posts = w.posts;
        completions =
            w.completions;
        accepted = w.accepted;
        submissions = w.submissions;
        batches = w.batches;
        none_queued =
            w.none_queued;
        writes = w.writes;
        commands = w.commands;
        ops = w.ops;
        past = w.past;
      })
  whole_step old Submit new p k h e = let w = h (sym (ap (λ c. c.ended) p.5) ∙ e) in
      absurd (let z : [] ≡ p.0 ∷ p.1 = sym w.batches ∙ p.2 in cc z)
  whole_step old Accept new p k h e = let w = h (sym (ap (λ c. c.ended) p.4) ∙ e) in
      absurd (let z : [] ≡ p.0 ∷ p.1 = sym w.submissions ∙ p.2 in cc z)
  whole_step old (Run j) new p k h e = let w = h (sym (ap (λ c. c.ended) p.10) ∙ e) in
      absurd (no_middle p.0 p.1 p.2 (sym w.accepted ∙ p.3))
  whole_step old Complete new p k h e = let w = h (sym (ap (λ c. c.ended) p.5) ∙ e) in
      absurd (let z : [] ≡ p.0 ∷ p.1 = sym w.accepted ∙ p.2 in cc z)
  whole_step old Finish new p k h e = let w = h (sym (ap (λ c. c.ended) p.4) ∙ e) in
      absurd (let z : [] ≡ p.0 ∷ p.1 = sym w.completions ∙ p.2 in cc z)
  whole_step old (Come_home block place) new p k h e = let w = h (sym (ap (λ c. c.ended) p.6) ∙ e) in
      subst (IsWhole script) (sym p.6) (record {
        chunks = w.chunks;
        posts = w.posts;
        completions =
            w.completions;
        accepted = w.accepted;
        submissions = w.submissions;
        batches = w.batches;
        none_queued =
            w.none_queued;
        writes = w.writes;
        commands = w.commands;
        ops = w.ops;
        past = w.past;
      })

  pub ends_whole : (events : List Event) (core : Core) → Chain meaning reading script (start script) events core
      → core.ended ≡ true → IsWhole script core
  ends_whole events core h = reached meaning reading script lawful WholeAtEnd whole_step (λ e. absurd (cc e)) events
      core h
