-- In every state that steps reach, in each reading, a call that was answered as pending was so by what App knew.
use Rattle.std.proofs.Common.{◌≡◌, ℕ, zero, suc, ◌+◌, ◌-◌, ◌<◌, ◌≤◌, Bool, true, false, cond, List, [], ◌∷◌, ◌++◌}
use Rattle.std.proofs.Common.{length, take, refl, sym, ap, ◌∙◌, subst, inl, inr, Option, Some, None, arith}
use Rattle.std.proofs.Common.{append_assoc, append-nil}
use Rattle.std.specs.List.{AllByRecursion}
use Rattle.std.proofs.lemmas.Bool.{cases_Bool, cases_lt, le-leb, leb-true}
use Rattle.vk_types.specs.Effects.{Meaning}
use Rattle.base_lemmas.proofs.Lists.{all_front, all_back, all_append, all_map}
use Rattle.core_model.specs.Script.{Ask, Bytes, Count, Constant, Turn, Refused, Passed, Flushed, Asked, Item, Script}
use Rattle.core_model.specs.Chunking.{call_of, ends_call, last_call, joined, chunks, cut, is_due, upto}
use Rattle.core_model.specs.CoreState.{Segment, Core, start, later, last_finished, done, taken_count, handed_count}
use Rattle.core_model.specs.CoreState.{Said, Bytes_said, Value_said, Still_said, Refused_said, End_said}
use Rattle.core_model.specs.Readings.{Reading, has_place}
use Rattle.core_model.specs.Adding.{with_turn}
use Rattle.core_model.specs.AppActs.{is_finished, used_or_zero, TakesTurn, Acts}
use Rattle.core_model.specs.TakingPosts.{TakesPosts, with_post, with_fence}
use Rattle.core_model.specs.CoreStep.{Event, App, Cs, Pipe, Submit, Accept, Run, Complete, Finish, Come_home, Step}
use Rattle.core_model.specs.CoreStep.{Chain}
use Rattle.core_model.specs.Lawful.{IsLawful}
use Rattle.core_model.specs.Invariant.{IsAsked, turns_of, handed}
use Rattle.core_model.specs.Kept.{Kept}
use Rattle.core_model.specs.Stills.{IsBelow, StillRight, SaidAfter, StillsAreRight}
use Rattle.core_model.proofs.Steps.Segments.{turns_of-append, turns_length}
use Rattle.core_model.proofs.Messages.ItemCases.{result_is}
use Rattle.core_model.proofs.Messages.ListedBatches.{handed_long}
use Rattle.core_model.proofs.Messages.ScriptChunks.{finished_is}
use Rattle.core_model.proofs.Queries.QueryCalls.{cut_filled, finished_last}
use Rattle.core_model.proofs.Runs.Chains.{reached}
use Rattle.core_model.proofs.Runs.HostAnswers.{asked_once}
use Rattle.core_model.proofs.Runs.LastUses.{after_segments, joined_append, is_bare}
use Rattle.core_model.proofs.Runs.StepsKeepAll.{posts_kept}
use Rattle.core_model.proofs.Ends.LastTurns.{from_behind, last_call_behind}

-- Lists -------------------------------------------------------------------------------------------------------------

front_taken : {A : Type 0} (xs ys : List A) → take (length xs) (xs ++ ys) ≡ xs
front_taken [] ys = refl
front_taken (x ∷ xs) ys = ap (λ l. x ∷ l) (front_taken xs ys)

cut_at : {A : Type 0} (k : ℕ) (xs : List A) → k ≤ length xs → (f : List A) × (b : List A) × (xs ≡ f ++ b)
    × (length f ≡ k)
cut_at zero xs l = ([], xs, refl, refl)
cut_at (suc k) [] l = absurd (omega (arith, l))
cut_at (suc k) (x ∷ xs) l = let r = cut_at k xs (omega (arith, l)) in (x ∷ r.0, r.1, ap (λ l. x ∷ l) r.2, ap suc r.3)

below_more : (script : Script) (d e : ℕ) → d ≤ e → (said : Said) → IsBelow script d said → IsBelow script e said
below_more script d e l (Bytes_said call bytes) h = λ ask used at. let low = h ask used at in omega (arith, l, low)
below_more script d e l (Value_said call value) h = λ ask used at. let low = h ask used at in omega (arith, l, low)
below_more script d e l (Still_said call used finished) h = omega (arith, l, h)
below_more script d e l (Refused_said call) h = tt
below_more script d e l End_said h = tt

stills_last : (script : Script) (earlier saids : List Said) (said : Said) → StillsAreRight script earlier saids
    → SaidAfter script (earlier ++ saids) said → StillsAreRight script earlier (saids ++ said ∷ [])
stills_last script earlier [] said h k = (subst (λ l. SaidAfter script l said) (append-nil earlier) k, tt)
stills_last script earlier (x ∷ saids) said h k = (
  h.0,
  stills_last script (earlier ++ x ∷ []) saids said h.1
      (subst (λ l. SaidAfter script l said) (sym (append_assoc earlier (x ∷ []) saids)) k),
)

more_taken : (n : ℕ) (old mid : Core) → TakesPosts n old mid → (more : List Segment) × (mid.taken ≡ old.taken ++ more)
more_taken zero old mid p = ([], ap (λ c. c.taken) p ∙ sym (append-nil old.taken))
more_taken (suc n) old mid p =
    let r = more_taken n (with_post p.0 p.1 old) mid p.3 in
    (p.0.segment ∷ r.0, r.1 ∙ append_assoc old.taken (p.0.segment ∷ []) r.0)

posts_replies : (n : ℕ) (old mid : Core) → TakesPosts n old mid → mid.replies ≡ old.replies
posts_replies zero old mid p = ap (λ c. c.replies) p
posts_replies (suc n) old mid p = posts_replies n (with_post p.0 p.1 old) mid p.3

fence_same : (n : ℕ) (core : Core) → ((with_fence n core).replies ≡ core.replies)
    × ((with_fence n core).taken ≡ core.taken)
fence_same zero core = (refl, refl)
fence_same (suc n) core = (refl, refl)

module _ (meaning : Meaning) (reading : Reading) (script : Script) (lawful : IsLawful meaning script) where
  -- What is finished rises ------------------------------------------------------------------------------------------

  module _ (core : Core) (k : Kept meaning reading script core) where
    filled : AllByRecursion (λ l. l ≡ [] → ⊥) (turns_of (handed core))
    filled = all_front (λ l. l ≡ [] → ⊥) (turns_of (handed core)) (cut script core.open_chunk.turns core.future)
        (subst (AllByRecursion (λ l. l ≡ [] → ⊥)) k.good.sound.cut (cut_filled script script.turns []))

    -- with more chunks no less is finished
    rises : (ss ts more : List Segment) → handed core ≡ (ss ++ ts) ++ more → last_finished ss ≤ last_finished (ss ++ ts)
    rises ss ts more e = elim (from_behind ts) [
      | inl none ↦ let z = ap (λ l. last_finished (ss ++ l)) none ∙ ap last_finished (append-nil ss) in omega (arith, z)
      | inr r ↦
          let f = r.0 in
          let t = r.1 in
          let line : ss ++ ts ≡ (ss ++ f) ++ t ∷ [] = ap (λ l. ss ++ l) r.2 ∙ sym (append_assoc ss f (t ∷ [])) in
          let whole : handed core ≡ (ss ++ f) ++ t ∷ more = e ∙ ap (λ l. l ++ more) line
          ∙ append_assoc (ss ++ f) (t ∷ []) more in
          let some : AllByRecursion (λ l. l ≡ [] → ⊥) (turns_of (ss ++ f) ++ t.turns ∷ turns_of more) =
          subst (AllByRecursion (λ l. l ≡ [] → ⊥)) (ap turns_of whole ∙ turns_of-append (ss ++ f) (t ∷ more)) filled in
          let here = (all_back (λ l. l ≡ [] → ⊥) (turns_of (ss ++ f)) (t.turns ∷ turns_of more) some).0 in
          let last : last_finished (ss ++ ts) ≡ last_call t.turns = ap last_finished line ∙ finished_last (ss ++ f) t in
          elim (from_behind t.turns) [
            | inl none ↦ absurd (here none)
            | inr w ↦
                let x = w.1 in
                let rest = joined (turns_of more) ++ (core.open_chunk.turns ++ core.future) in
                let js = joined (turns_of ss) in
                let jf = joined (turns_of f) in
                let turns : script.turns ≡ joined (turns_of (handed core)) ++ (core.open_chunk.turns ++ core.future) =
                sym k.good.sound.position ∙ ap (λ l. l ++ core.future) k.traced.past
                ∙ append_assoc (joined (turns_of (handed core))) core.open_chunk.turns core.future in
                let parts : joined (turns_of (handed core)) ≡ js ++ (jf ++ (t.turns ++ joined (turns_of more))) =
                ap (λ l. joined (turns_of l)) (whole ∙ append_assoc ss f (t ∷ more))
                ∙ joined_append ss (f ++ t ∷ more) ∙ ap (λ l. js ++ l) (joined_append f (t ∷ more)) in
                let all : script.turns ≡ js ++ ((jf ++ w.0) ++ x ∷ rest) =
                turns ∙ ap (λ l. l ++ (core.open_chunk.turns ++ core.future)) parts
                ∙ append_assoc js (jf ++ (t.turns ++ joined (turns_of more)))
                (core.open_chunk.turns ++ core.future)
                ∙ ap (λ l. js ++ l) (append_assoc jf (t.turns ++ joined (turns_of more))
                (core.open_chunk.turns ++ core.future)
                ∙ ap (λ l. jf ++ l) (append_assoc t.turns (joined (turns_of more))
                (core.open_chunk.turns ++ core.future) ∙ ap (λ l. l ++ rest) w.2 ∙ append_assoc w.0 (x ∷ []) rest)
                ∙ sym (append_assoc jf w.0 (x ∷ rest))) in
                let less = after_segments meaning script lawful ss [] (jf ++ w.0) x rest all in
                let end : last_finished (ss ++ ts) ≡ last_call (x ∷ []) = last ∙ ap last_call w.2
                ∙ last_call_behind w.0 x in
                at_last (ends_call x) (call_of x) (last_finished ss) (last_finished (ss ++ ts)) less end
          ]
    ]
      where
        at_last : (c : Bool) (n a b : ℕ) → a < n → b ≡ cond c n (n - 1) → a ≤ b
        at_last true n a b l e = omega (arith, l, e)
        at_last false n a b l e = omega (arith, l, e)

    -- what is finished is what the taken chunks finish
    done_is : done core ≡ upto script (taken_count core)
    done_is = finished_is script core.taken (turns_of (later core) ++ cut script core.open_chunk.turns core.future)
        (k.good.sound.cut ∙ ap (λ l. l ++ cut script core.open_chunk.turns core.future)
        (turns_of-append core.taken (later core)) ∙ append_assoc (turns_of core.taken) (turns_of (later core))
        (cut script core.open_chunk.turns core.future))

    within : handed_count core ≤ taken_count core + 32
    within = elim (cases_Bool (has_place reading 4)) [
      | inl t ↦ k.good.sound.bounded t
      | inr f ↦
          let s = k.good.sound.sizes f in
          let a = s.0 in
          let b = s.1 in
          omega (arith, a, b)
    ]

    near : upto script (handed_count core - 32) ≤ done core
    near =
        let w = within in
        let low : handed_count core - 32 ≤ taken_count core = omega (arith, w) in
        let c = cut_at (handed_count core - 32) core.taken low in
        let line : handed core ≡ (c.0 ++ c.1) ++ later core = ap (λ l. l ++ later core) c.2 in
        let cuts : chunks script ≡ turns_of c.0 ++ (turns_of c.1
        ++ (turns_of (later core) ++ cut script core.open_chunk.turns core.future)) =
        k.good.sound.cut ∙ ap (λ l. l ++ cut script core.open_chunk.turns core.future)
        (ap turns_of (line ∙ append_assoc c.0 c.1 (later core)) ∙ turns_of-append c.0 (c.1 ++ later core)
        ∙ ap (λ l. turns_of c.0 ++ l) (turns_of-append c.1 (later core)))
        ∙ append_assoc (turns_of c.0) (turns_of c.1 ++ turns_of (later core))
        (cut script core.open_chunk.turns core.future)
        ∙ ap (λ l. turns_of c.0 ++ l) (append_assoc (turns_of c.1) (turns_of (later core))
        (cut script core.open_chunk.turns core.future)) in
        let here : last_finished c.0 ≡ upto script (handed_count core - 32) = finished_is script c.0 _ cuts
        ∙ ap (upto script) c.3 in
        let up = rises c.0 c.1 (later core) line in
        let whole : last_finished (c.0 ++ c.1) ≡ done core = ap last_finished (sym c.2) in
        omega (arith, here, up, whole)

  -- Each step -------------------------------------------------------------------------------------------------------

  record StillsKept (core : Core) : Type 0 where
    pub stills : StillsAreRight script [] core.replies
    pub below : AllByRecursion (IsBelow script (done core)) core.replies

  same : (old new : Core) → new.replies ≡ old.replies → done old ≤ done new → StillsKept old → StillsKept new
  same old new r d h = record {
    stills = subst (StillsAreRight script []) (sym r) h.stills;
    below = subst (AllByRecursion (IsBelow script (done new))) (sym r)
        (all_map (IsBelow script (done old)) (IsBelow script (done new))
        (λ said k. below_more script (done old) (done new) d said k) old.replies h.below);
  }

  stays : (old new : Core) → new.replies ≡ old.replies → new.taken ≡ old.taken → StillsKept old → StillsKept new
  stays old new r t h = let e = ap last_finished t in same old new r (omega (arith, e)) h

  says : (old new : Core) (said : Said) → new.replies ≡ old.replies ++ said ∷ [] → new.taken ≡ old.taken
      → SaidAfter script old.replies said → IsBelow script (done old) said → StillsKept old → StillsKept new
  says old new said r t after low h =
      let d : done new ≡ done old = ap last_finished t in
      record {
        stills = subst (StillsAreRight script []) (sym r) (stills_last script [] old.replies said h.stills after);
        below = subst (λ n. AllByRecursion (IsBelow script n) new.replies) (sym d)
            (subst (AllByRecursion (IsBelow script (done old))) (sym r)
            (all_append (IsBelow script (done old)) old.replies (said ∷ []) h.below (low, tt)));
      }

  module _ (old : Core) (k : Kept meaning reading script old) (h : StillsKept old) where
    module _ (call : ℕ) (ask : Ask) (used : Option ℕ) (may_pend : Bool) (turns : List Turn)
        (e : old.future ≡ Asked call ask used may_pend ∷ turns) where
      abbrev at : IsAsked script call ask used
      at = record {
        front = old.past;
        may_pend = may_pend;
        back = turns;
        here = sym k.good.sound.position
            ∙ ap (λ l. old.past ++ l) e;
      }

      used_below : is_finished used (done old) ≡ true → (other : Ask) (n : ℕ) → IsAsked script call other (Some n)
          → n ≤ done old
      used_below fin other n there =
          let once = asked_once meaning script lawful call other ask (Some n) used there at in
          leb-true n (done old) (ap (λ o. is_finished o (done old)) once.2 ∙ fin)

    still : (call : ℕ) (ask : Ask) (used : Option ℕ) (may_pend : Bool) (turns : List Turn)
        → old.future ≡ Asked call ask used may_pend ∷ turns → is_due script old.open_chunk.turns old.future ≡ false
        → is_finished used (done old) ≡ false → StillRight script old.replies call (used_or_zero used) (done old)
    still call ask None may_pend turns e due f = absurd (cc f)
    still call ask (Some n) may_pend turns e due f = record {
      ask = ask;
      asked = at call ask (Some n) may_pend turns e;
      less = elim (cases_lt (done old) n) [
        | inl l ↦ l
        | inr l ↦ (let z : true ≡ false = sym (le-leb n (done old) l)
            ∙ f in absurd (cc z))
      ];
      chunk = taken_count old;
      cut = done_is old k;
      known = h.below;
      count = handed_count old;
      rest = old.open_chunk.turns;
      held =
          k.traced.past
          ∙ ap (λ l. joined l ++ old.open_chunk.turns)
          (sym (ap (λ n. take n (chunks script)) (sym (handed_long old) ∙ sym (turns_length (handed old)))
          ∙ ap (λ l. take (length (turns_of (handed old))) l) k.good.sound.cut
          ∙ front_taken (turns_of (handed old)) (cut script old.open_chunk.turns old.future)));
      none_more = is_bare meaning reading script lawful old k call ask (Some n) may_pend turns e due;
      near = near old k;
    }

    turn_kept : (t : Turn) (turns : List Turn) (new : Core) → old.future ≡ t ∷ turns
        → is_due script old.open_chunk.turns old.future ≡ false → TakesTurn reading script t turns old new
        → StillsKept new
    turn_kept (Refused call) turns new e due n = says old new (Refused_said call) (ap (λ c. c.replies) n)
        (ap (λ c. c.taken) n) tt tt h
    turn_kept (Passed call) turns new e due n = stays old new (ap (λ c. c.replies) n) (ap (λ c. c.taken) n) h
    turn_kept (Flushed call) turns new e due n = stays old new (ap (λ c. c.replies) n) (ap (λ c. c.taken) n) h
    turn_kept (Asked call (Bytes source) None may_pend) turns new e due (inl n) =
        says old new _ (ap (λ c. c.replies) n.1) (ap (λ c. c.taken) n.1) tt
        (used_below call (Bytes source) None may_pend turns e n.0) h
    turn_kept (Asked call (Bytes source) (Some used) may_pend) turns new e due (inl n) =
        says old new _ (ap (λ c. c.replies) n.1) (ap (λ c. c.taken) n.1) tt
        (used_below call (Bytes source) (Some used) may_pend turns e n.0) h
    turn_kept (Asked call (Count query) used may_pend) turns new e due (inl n) =
        says old new _ (ap (λ c. c.replies) n.1) (ap (λ c. c.taken) n.1) tt
        (used_below call (Count query) used may_pend turns e n.0) h
    turn_kept (Asked call (Constant value) used may_pend) turns new e due (inl n) =
        says old new _ (ap (λ c. c.replies) n.1) (ap (λ c. c.taken) n.1) tt
        (used_below call (Constant value) used may_pend turns e n.0) h
    turn_kept (Asked call ask used may_pend) turns new e due (inr n) =
        says old new (Still_said call (used_or_zero used) (done old)) (ap (λ c. c.replies) n.2)
        (ap (λ c. c.taken) n.2) (still call ask used may_pend turns e due n.0) (omega arith) h
    turn_kept (Item call item ends play bound) turns new e due n =
        let is = result_is reading script call item play bound
        (with_turn (Item call item ends play bound) turns old) new n in
        stays old new (ap (λ c. c.replies) is) (ap (λ c. c.taken) is) h

    act_kept : (new : Core) → Acts reading script old new → StillsKept new
    act_kept new a = elim a.1 [
      | inl x ↦ stays old new (ap (λ c. c.replies) x.2) (ap (λ c. c.taken) x.2) h
      | inr x ↦ elim x [
        | inl y ↦ turn_kept y.1 y.2 new y.3 y.0 y.4
        | inr y ↦ says old new End_said (ap (λ c. c.replies) y.3) (ap (λ c. c.taken) y.3) tt tt h
      ]
    ]

  step_kept : (old : Core) (e : Event) (new : Core) → Step meaning reading script old e new
      → Kept meaning reading script old → StillsKept old → StillsKept new
  step_kept old (App n) new p k h =
      let mid = with_fence n p.2 in
      let kept : Kept meaning reading script mid = posts_kept meaning reading script n old p.2 p.3 k in
      let more = more_taken n old p.2 p.3 in
      let taken : mid.taken ≡ old.taken ++ more.0 = (fence_same n p.2).1 ∙ more.1 in
      let up = rises mid kept old.taken more.0 (later mid) (ap (λ l. l ++ later mid) taken) in
      let d : last_finished (old.taken ++ more.0) ≡ done mid = ap last_finished (sym taken) in
      let here : StillsKept mid = same old mid ((fence_same n p.2).0
      ∙ posts_replies n old p.2 p.3) (omega (arith, up, d)) h in
      elim p.4 [
        | inl a ↦ act_kept mid kept here new a
        | inr a ↦ subst StillsKept (sym a.2) here
      ]
  step_kept old Cs new p k h = stays old new (ap (λ c. c.replies) p.4) (ap (λ c. c.taken) p.4) h
  step_kept old (Pipe j) new p k h = stays old new (ap (λ c. c.replies) p.2) (ap (λ c. c.taken) p.2) h
  step_kept old Submit new p k h = stays old new (ap (λ c. c.replies) p.5) (ap (λ c. c.taken) p.5) h
  step_kept old Accept new p k h = stays old new (ap (λ c. c.replies) p.4) (ap (λ c. c.taken) p.4) h
  step_kept old (Run j) new p k h = stays old new (ap (λ c. c.replies) p.10) (ap (λ c. c.taken) p.10) h
  step_kept old Complete new p k h = stays old new (ap (λ c. c.replies) p.5) (ap (λ c. c.taken) p.5) h
  step_kept old Finish new p k h = stays old new (ap (λ c. c.replies) p.4) (ap (λ c. c.taken) p.4) h
  step_kept old (Come_home block place) new p k h = stays old new (ap (λ c. c.replies) p.6) (ap (λ c. c.taken) p.6) h

  pub stills_right : (events : List Event) (core : Core) → Chain meaning reading script (start script) events core
      → StillsAreRight script [] core.replies
  stills_right events core h =
      (reached meaning reading script lawful StillsKept step_kept (record { stills = tt; below = tt }) events core
      h).stills
