-- Without a schedule nothing is pending: App acts where no other part is enabled, so that at most one chunk is on its
-- way, and what is asked for is finished.
use Rattle.std.proofs.Common.{◌≡◌, ℕ, zero, suc, ◌≤◌, Bool, true, false, cond, ◌==◌, nat_lt, List, [], ◌∷◌, ◌++◌}
use Rattle.std.proofs.Common.{length, refl, sym, ap, ◌∙◌, subst, inl, inr, Option, Some, None, arith, length-append}
use Rattle.std.proofs.lemmas.Bool.{lt-ltb}
use Rattle.vk_types.specs.Effects.{Meaning}
use Rattle.core_model.specs.Script.{Ask, Bytes, Count, Constant, Turn, Refused, Passed, Flushed, Asked, Item, Script}
use Rattle.core_model.specs.Chunking.{is_due}
use Rattle.core_model.specs.CoreState.{Message, Said, Bytes_said, Value_said, Still_said, Refused_said, End_said}
use Rattle.core_model.specs.CoreState.{Core, start, of_messages, of_running, later, marks}
use Rattle.core_model.specs.Readings.{First_choices}
use Rattle.core_model.specs.Adding.{with_turn}
use Rattle.core_model.specs.AppActs.{TakesTurn, Acts, answer}
use Rattle.core_model.specs.TakingPosts.{TakesPosts, with_post, with_fence}
use Rattle.core_model.specs.CoreStep.{Event, Cs, Pipe, Submit, Accept, Run, Complete, Finish, is_of_app, Step}
use Rattle.core_model.specs.CoreStep.{AppSteps, AllComeHome}
use Rattle.core_model.specs.Lawful.{IsLawful}
use Rattle.core_model.specs.Invariant.{handed}
use Rattle.core_model.specs.Kept.{Kept}
use Rattle.core_model.specs.Runs.{settling, FirstEnabled, Settles, At_end, Settling, IsRun, pending, pending_in}
use Rattle.core_model.proofs.Messages.ItemCases.{result_is}
use Rattle.core_model.proofs.Messages.Scenes.{other_scene}
use Rattle.core_model.proofs.Runs.StepsKeepAll.{posts_kept}
use Rattle.core_model.proofs.Ends.CoreReached.{Ready, ready_start}
use Rattle.core_model.proofs.Ends.Resting.{AtRest, behind_none, later_none, asked_finished}
use Rattle.core_model.proofs.Ends.Enabled.{OnlyPosts, AllRefused, before_app, only_posts}
use Rattle.core_model.proofs.Ends.RunsExist.{ready_first}

abbrev NonePending : List Said → Type 0
NonePending rs = (n : ℕ) → pending_in rs n ≡ None

-- an answer that is no pending one
abbrev IsSettled : Said → Type 0
IsSettled (Bytes_said call bytes) = Unit {0}
IsSettled (Value_said call value) = Unit {0}
IsSettled (Still_said call used finished) = ⊥
IsSettled (Refused_said call) = Unit {0}
IsSettled End_said = Unit {0}

one_said : (said : Said) (n : ℕ) → IsSettled said → pending_in (said ∷ []) n ≡ None
one_said (Bytes_said call bytes) n h = refl
one_said (Value_said call value) n h = refl
one_said (Still_said call used finished) n h = absurd h
one_said (Refused_said call) n h = refl
one_said End_said n h = refl

more_said : (rs : List Said) (said : Said) (n : ℕ) → IsSettled said → pending_in rs n ≡ None
    → pending_in (rs ++ said ∷ []) n ≡ None
more_said [] said n h e = one_said said n h
more_said (Bytes_said call bytes ∷ rs) said n h e = more_said rs said n h e
more_said (Value_said call value ∷ rs) said n h e = more_said rs said n h e
more_said (Still_said call used finished ∷ rs) said n h e = by (call == n) e (λ f. more_said rs said n h f)
  where
    by : (c : Bool) → cond c (Some finished) (pending_in rs n) ≡ None
        → (pending_in rs n ≡ None → pending_in (rs ++ said ∷ []) n ≡ None)
        → cond c (Some finished) (pending_in (rs ++ said ∷ []) n) ≡ None
    by true e rec = absurd (cc e)
    by false e rec = rec e
more_said (Refused_said call ∷ rs) said n h e = more_said rs said n h e
more_said (End_said ∷ rs) said n h e = more_said rs said n h e

-- at most one chunk is on its way, and nothing is pending
record Calm (core : Core) : Type 0 where
  pub few : length (later core) ≤ 1
  pub none : NonePending core.replies

calm_as : (old new : Core) → later new ≡ later old → new.replies ≡ old.replies → Calm old → Calm new
calm_as old new e f c = let l = ap length e in let few = c.few in
    record { few = omega (arith, l, few); none = subst NonePending (sym f) c.none }

messages_long : (ms : List Message) → length (of_messages ms) ≡ length ms
messages_long [] = refl
messages_long (m ∷ ms) = ap suc (messages_long ms)

-- Posts -------------------------------------------------------------------------------------------------------------

rest_after : (ps : List Message) (old mid : Core) → old.posts ≡ ps → TakesPosts (length ps) old mid → OnlyPosts old
    → AtRest mid
rest_after [] old mid e p o =
    subst AtRest (sym p) (record {
      posts = e;
      completions = o.completions;
      accepted = o.accepted;
      submissions =
          o.submissions;
      batches = o.batches;
      chunks = o.chunks;
    })
rest_after (m ∷ ms) old mid e p o =
    let z : m ∷ ms ≡ p.0 ∷ p.1 = sym e ∙ p.2 in
    let s : ms ≡ p.1 = cc z in
    rest_after ms (with_post p.0 p.1 old) mid (sym s) p.3 (record {
      completions = o.completions;
      accepted =
          o.accepted;
      submissions = o.submissions;
      batches = o.batches;
      chunks = o.chunks;
    })

posts_replies : (n : ℕ) (old mid : Core) → TakesPosts n old mid → mid.replies ≡ old.replies
posts_replies zero old mid p = ap (λ c. c.replies) p
posts_replies (suc n) old mid p = posts_replies n (with_post p.0 p.1 old) mid p.3

fence_rest : (n : ℕ) (core : Core) → AtRest core → AtRest (with_fence n core)
fence_rest zero core r = r
fence_rest (suc n) core r = record {
  posts = r.posts;
  completions = r.completions;
  accepted =
      r.accepted;
  submissions = r.submissions;
  batches = r.batches;
  chunks = r.chunks;
}

fence_replies : (n : ℕ) (core : Core) → (with_fence n core).replies ≡ core.replies
fence_replies zero core = refl
fence_replies (suc n) core = refl

answer_later : (call : ℕ) (ask : Ask) (used : Option ℕ) (core : Core) → later (answer call ask used core) ≡ later core
answer_later call (Bytes source) None core = refl
answer_later call (Bytes source) (Some used) core = refl
answer_later call (Count query) used core = refl
answer_later call (Constant value) used core = refl

answer_none : (call : ℕ) (ask : Ask) (used : Option ℕ) (core : Core) → NonePending core.replies
    → NonePending (answer call ask used core).replies
answer_none call (Bytes source) None core h n = more_said core.replies _ n tt (h n)
answer_none call (Bytes source) (Some used) core h n = more_said core.replies _ n tt (h n)
answer_none call (Count query) used core h n = more_said core.replies _ n tt (h n)
answer_none call (Constant value) used core h n = more_said core.replies _ n tt (h n)

module _ (meaning : Meaning) (script : Script) (lawful : IsLawful meaning script) where
  -- App -------------------------------------------------------------------------------------------------------------

  module _ (old : Core) (k : Kept meaning First_choices script old) (rest : AtRest old)
      (none : NonePending old.replies) where
    calm : (new : Core) → later new ≡ later old → NonePending new.replies → Calm new
    calm new e h = let l = ap length (e ∙ later_none old rest) in record { few = omega (arith, l); none = h }

    turn_calm : (t : Turn) (turns : List Turn) (new : Core) → old.future ≡ t ∷ turns
        → is_due script old.open_chunk.turns old.future ≡ false → TakesTurn First_choices script t turns old new
        → Calm new
    turn_calm (Refused call) turns new e due n = calm new (ap later n) (λ m. ap (λ c. pending_in c.replies m) n
        ∙ more_said old.replies (Refused_said call) m tt (none m))
    turn_calm (Passed call) turns new e due n = calm new (ap later n) (λ m. ap (λ c. pending_in c.replies m) n ∙ none m)
    turn_calm (Flushed call) turns new e due n = calm new (ap later n) (λ m. ap (λ c. pending_in c.replies m) n
        ∙ none m)
    turn_calm (Asked call ask used may_pend) turns new e due (inl n) =
        let taken = with_turn (Asked call ask used may_pend) turns old in
        calm new (ap later n.1 ∙ answer_later call ask used taken) (λ m. ap (λ c. pending_in c.replies m) n.1
        ∙ answer_none call ask used taken none m)
    turn_calm (Asked call ask used may_pend) turns new e due (inr n) =
        let z : true ≡ false =
        sym (asked_finished meaning script lawful old k rest call ask used may_pend turns e due)
        ∙ n.0 in absurd (cc z)
    turn_calm (Item call item ends play bound) turns new e due n =
        let is = result_is First_choices script call item play bound
        (with_turn (Item call item ends play bound) turns old) new n in
        calm new (ap later is) (λ m. ap (λ c. pending_in c.replies m) is ∙ none m)

    act_calm : (new : Core) → Acts First_choices script old new → Calm new
    act_calm new a = elim a.1 [
      | inl x ↦
          let l : length (later new) ≡ 1 = ap (λ c. length (later c)) x.2
          ∙ ap length (behind_none old rest (old.chunks ++ old.open_chunk ∷ [])
          ∙ ap (λ l. l ++ old.open_chunk ∷ []) rest.chunks) in
          record { few = omega (arith, l); none = λ m. ap (λ c. pending_in c.replies m) x.2 ∙ none m }
      | inr x ↦ elim x [
        | inl y ↦ turn_calm y.1 y.2 new y.3 y.0 y.4
        | inr y ↦ calm new (ap later y.3) (λ m. ap (λ c. pending_in c.replies m) y.3
            ∙ more_said old.replies End_said m tt (none m))
      ]
    ]

  few_posts : (old : Core) → Calm old → nat_lt (length old.posts) 4 ≡ true
  few_posts old c =
      let few = c.few in
      let rest = of_messages old.completions ++ (of_running old.accepted
      ++ (old.submissions ++ (old.batches ++ old.chunks))) in
      let l = length-append (of_messages old.posts) rest in
      let m = messages_long old.posts in
      lt-ltb (length old.posts) 4 (omega (arith, few, l, m))

  app_calm : (old new : Core) → Ready meaning script lawful old → Calm old → old.ended ≡ false
      → AllRefused meaning script old before_app → AppSteps First_choices script (length old.posts) old new → Calm new
  app_calm old new r c goes_on refused p =
      let n = length old.posts in
      let core = with_fence n p.2 in
      let o = only_posts meaning script lawful old r goes_on refused (few_posts old c) in
      let rest = fence_rest n p.2 (rest_after old.posts old p.2 refl p.3 o) in
      let k = posts_kept meaning First_choices script n old p.2 p.3 r.based.holds.0 in
      let none : NonePending core.replies = subst NonePending
      (sym (fence_replies n p.2 ∙ posts_replies n old p.2 p.3)) c.none in
      elim p.4 [
        | inl a ↦ act_calm core k rest none new a
        | inr a ↦ subst Calm (sym a.2) (calm core k rest none core refl none)
      ]

  -- The other parts -------------------------------------------------------------------------------------------------

  other_calm : (old : Core) (e : Event) (new : Core) → is_of_app e ≡ false
      → Step meaning First_choices script old e new → new.taken ≡ old.taken → new.replies ≡ old.replies → Calm old
      → Calm new
  other_calm old e new n s t f c =
      let same : length (handed new) ≡ length (handed old) =
      ap (λ v. length v.handed) (other_scene meaning First_choices script old e new n s) in
      let a = length-append new.taken (later new) in
      let b = length-append old.taken (later old) in
      let front = ap length t in
      let few = c.few in
      record { few = omega (arith, same, a, b, front, few); none = subst NonePending (sym f) c.none }

  home_calm : (bs : List ℕ) (old new : Core) → AllComeHome meaning script bs old new → Calm old → Calm new
  home_calm [] old new h c = subst Calm (sym h) c
  home_calm (b ∷ bs) old new (inl h) c = home_calm bs old new h.1 c
  home_calm (b ∷ bs) old new (inr h) c = home_calm bs h.6 new h.8
      (calm_as old h.6 (ap later h.7.6) (ap (λ k. k.replies) h.7.6) c)

  first_calm : (old new : Core) → Ready meaning script lawful old → Calm old
      → FirstEnabled meaning script old settling new → Calm new
  first_calm old new r c f = elim f [
    | inl s ↦ let p = s.1 in home_calm (marks p.2.segment) p.0 new p.5
        (other_calm old Finish p.0 refl p.1 (ap (λ k. k.taken) p.1.4) (ap (λ k. k.replies) p.1.4) c)
    | inr f1 ↦ elim f1.1 [
      | inl s ↦ other_calm old Complete new refl s.1 (ap (λ k. k.taken) s.1.5) (ap (λ k. k.replies) s.1.5) c
      | inr f2 ↦ elim f2.1 [
        | inl s ↦ other_calm old (Run 0) new refl s.1 (ap (λ k. k.taken) s.1.10) (ap (λ k. k.replies) s.1.10) c
        | inr f3 ↦ elim f3.1 [
          | inl s ↦ other_calm old Accept new refl s.1 (ap (λ k. k.taken) s.1.4) (ap (λ k. k.replies) s.1.4) c
          | inr f4 ↦ elim f4.1 [
            | inl s ↦ other_calm old Submit new refl s.1 (ap (λ k. k.taken) s.1.5) (ap (λ k. k.replies) s.1.5) c
            | inr f5 ↦ elim f5.1 [
              | inl s ↦ other_calm old (Pipe 0) new refl s.1 (ap (λ k. k.taken) s.1.2) (ap (λ k. k.replies) s.1.2) c
              | inr f6 ↦ elim f6.1 [
                | inl s ↦ other_calm old Cs new refl s.1 (ap (λ k. k.taken) s.1.4) (ap (λ k. k.replies) s.1.4) c
                | inr f7 ↦ elim f7.1 [
                  | inl s ↦ app_calm old new r c s.0 (f1.0, (f2.0, (f3.0, (f4.0, (f5.0, (f6.0, (f7.0, tt))))))) s.1
                  | inr f8 ↦ absurd f8.1
                ]
              ]
            ]
          ]
        ]
      ]
    ]
  ]

  settles_calm : (old new : Core) → Settles meaning script old new → Ready meaning script lawful old → Calm old
      → Calm new
  settles_calm old new (At_end _ e) r c = c
  settles_calm old new (Settling _ mid _ f s) r c = settles_calm mid new s
      (ready_first meaning script lawful old mid f r) (first_calm old mid r c f)

  pub none_waits : (core : Core) → IsRun meaning script [] core → (n : ℕ) → pending core n ≡ None
  none_waits core h n =
      let c : Calm (start script) = record { few = omega arith; none = λ n. refl } in
      (settles_calm h.0 core h.2 (subst (Ready meaning script lawful) (sym h.1) (ready_start meaning script lawful))
      (subst Calm (sym h.1) c)).none n
