-- Until the end some settling event is enabled.
use Rattle.std.proofs.Common.{◌≡◌, ℕ, true, false, ◌==◌, nat_lt, List, [], ◌∷◌, ◌++◌, length, refl, sym, ap, ◌∙◌}
use Rattle.std.proofs.Common.{subst, inl, inr, ◌⊎◌, slice_get, append_assoc}
use Rattle.std.specs.List.{AllByRecursion}
use Rattle.std.proofs.lemmas.Bool.{cases_Bool, or_cases, eqb-true}
use Rattle.vk_types.specs.Effects.{Meaning}
use Rattle.core_model.specs.Script.{Script}
use Rattle.core_model.specs.CoreState.{Segment, Core, of_messages, of_running}
use Rattle.core_model.specs.Readings.{First_choices}
use Rattle.core_model.specs.OtherParts.{created, needed, is_among}
use Rattle.core_model.specs.AppActs.{device_commands}
use Rattle.core_model.specs.CoreStep.{AppSteps, CoreStep}
use Rattle.core_model.specs.Lawful.{IsLawful}
use Rattle.core_model.specs.Invariant.{handed}
use Rattle.core_model.specs.Runs.{Actor, App_acts, Cs_acts, Pipe_acts, Submit_acts, Device_accepts, Device_completes}
use Rattle.core_model.specs.Runs.{Device_runs, Finish_acts, event_in, IsEnabled, settling, FirstEnabled}
use Rattle.core_model.proofs.Ends.CoreReached.{Ready}
use Rattle.core_model.proofs.Ends.Progress.{shaders_of}
use Rattle.core_model.proofs.Ends.NeededShaders.{some_unmade, LineNeeds, line_at, among_front, joined_turns}
use Rattle.core_model.proofs.Ends.NeededShaders.{shaders_joined}
use Rattle.core_model.proofs.Ends.FinishGoes.{finish_goes}
use Rattle.core_model.proofs.Ends.Deciding.{Decided, head_or, all_or_one, decide_finish, decide_complete, decide_run}
use Rattle.core_model.proofs.Ends.Deciding.{decide_accept, decide_submit, decide_pipe, decide_cs}
use Rattle.core_model.proofs.Ends.AppDecides.{decide_app, app_with_posts}
use Rattle.core_model.proofs.Ends.Resting.{AtRest, acts_at_rest}

abbrev pub AllRefused : Meaning → Script → Core → List Actor → Type 0
AllRefused meaning script core actors = AllByRecursion (λ a. IsEnabled meaning script core a → ⊥) actors

-- all parts but App
abbrev pub before_app : List Actor
before_app = Finish_acts ∷ Device_completes ∷ Device_runs 0 ∷ Device_accepts ∷ Submit_acts ∷ Pipe_acts 0 ∷ Cs_acts ∷ []

-- nothing is on its way but posts
pub record OnlyPosts (core : Core) : Type 0 where
  pub completions : core.completions ≡ []
  pub accepted : core.accepted ≡ []
  pub submissions : core.submissions ≡ []
  pub batches : core.batches ≡ []
  pub chunks : core.chunks ≡ []

pub at_rest : (core : Core) → core.posts ≡ [] → OnlyPosts core → AtRest core
at_rest core e o = record {
  posts = e;
  completions = o.completions;
  accepted = o.accepted;
  submissions =
      o.submissions;
  batches = o.batches;
  chunks = o.chunks;
}

pub all_at : (P : ℕ → Type 0) (n : ℕ) (ns : List ℕ) → AllByRecursion P ns → is_among n ns ≡ true → P n
all_at P n [] h a = absurd (cc a)
all_at P n (m ∷ ns) h a = elim (or_cases (m == n) (is_among n ns) a)
    [ inl t ↦ subst P (eqb-true m n t) h.0 | inr t ↦ all_at P n ns h.1 t ]

pub refused_at_end : (meaning : Meaning) (script : Script) (core : Core) (a : Actor) → core.ended ≡ true
    → IsEnabled meaning script core a → ⊥
refused_at_end meaning script core a t p = let z : true ≡ false = sym t ∙ p.1.0 in cc z

pub taken_step : (meaning : Meaning) (script : Script) (core : Core) (actors : List Actor) (new : Core)
    → FirstEnabled meaning script core actors new → (a : Actor) × CoreStep meaning script core (event_in core a) new
taken_step meaning script core [] new h = absurd h
taken_step meaning script core (a ∷ actors) new (inl h) = (a, h)
taken_step meaning script core (a ∷ actors) new (inr h) = taken_step meaning script core actors new h.1

module _ (meaning : Meaning) (script : Script) (lawful : IsLawful meaning script) (core : Core)
    (r : Ready meaning script lawful core) where
  goes : core.ended ≡ false → (a : Actor) → Decided meaning script core a
  goes f App_acts = decide_app meaning script core f
  goes f Cs_acts = decide_cs meaning script lawful core r.based f
  goes f (Pipe_acts place) = decide_pipe meaning script lawful core r.based f place
  goes f Submit_acts = decide_submit meaning script lawful core r.based f
  goes f Device_accepts = decide_accept meaning script lawful core r.based f
  goes f Device_completes = decide_complete meaning script lawful core r.based f
  goes f (Device_runs place) = decide_run meaning script lawful core r.based f place
  goes f Finish_acts = decide_finish meaning script lawful core r.based f

  pub decide : (a : Actor) → Decided meaning script core a
  decide a = elim (cases_Bool core.ended) [ inl t ↦ inr (refused_at_end meaning script core a t) | inr f ↦ goes f a ]

  first_or_none : (actors : List Actor) → ((new : Core) × FirstEnabled meaning script core actors new)
      ⊎ AllRefused meaning script core actors
  first_or_none [] = inr tt
  first_or_none (a ∷ actors) = elim (decide a) [
    | inl x ↦ inl (x.0, inl x.1)
    | inr n ↦ elim (first_or_none actors) [ inl x ↦ inl (x.0, inr (n, x.1)) | inr m ↦ inr (n, m) ]
  ]

  -- where no other part is enabled, and the queue of posts has a place, nothing is on its way but posts
  module _ (goes_on : core.ended ≡ false) (none : AllRefused meaning script core before_app)
      (room : nat_lt (length core.posts) 4 ≡ true) where
    has_room : {A : Type 0} (xs : List A) → xs ≡ [] → nat_lt (length xs) 4 ≡ true
    has_room xs e = ap (λ l. nat_lt (length l) 4) e

    no_completions : core.completions ≡ []
    no_completions = elim (head_or core.completions) [
      | inl e ↦ e
      | inr h ↦ absurd (none.0 (finish_goes meaning script lawful core r.based goes_on h.0 h.1 h.2 room))
    ]

    no_accepted : core.accepted ≡ []
    no_accepted = elim (head_or core.accepted) [
      | inl e ↦ e
      | inr h ↦ elim (head_or h.0.rest) [
        | inl out ↦ absurd
            (none.1.0 (_, (goes_on, (h.0, h.1, h.2, out, has_room core.completions no_completions, refl))))
        | inr x ↦ absurd (none.1.1.0 (_, (goes_on, ([], h.0, h.1, h.2, [], x.0, x.1, x.2, tt, refl, refl))))
      ]
    ]

    no_submissions : core.submissions ≡ []
    no_submissions = elim (head_or core.submissions) [
      | inl e ↦ e
      | inr h ↦ absurd (none.1.1.1.0 (_, (goes_on, (h.0, h.1, h.2, has_room core.accepted no_accepted, refl))))
    ]

    abbrev finished : List Segment
    finished = core.taken ++ of_messages core.posts

    -- all but the taken ones and the posts
    behind : (rest : List Segment)
        → core.taken ++
        (of_messages core.posts ++ (of_messages core.completions
        ++ (of_running core.accepted ++ (core.submissions ++ rest)))) ≡ finished ++ rest
    behind rest =
        ap (λ l. core.taken
        ++ (of_messages core.posts
        ++ (of_messages l ++ (of_running core.accepted ++ (core.submissions ++ rest))))) no_completions
        ∙ ap (λ l. core.taken ++ (of_messages core.posts ++ (of_running l ++ (core.submissions ++ rest)))) no_accepted
        ∙ ap (λ l. core.taken ++ (of_messages core.posts ++ (l ++ rest))) no_submissions
        ∙ sym (append_assoc core.taken (of_messages core.posts) rest)

    -- a shader that a batch needs is requested
    is_requested : (s : Segment) (ss : List Segment) → core.batches ≡ s ∷ ss → (n : ℕ)
        → is_among n (needed (device_commands s.commands)) ≡ true → is_among n core.requested ≡ true
    is_requested s ss e n a =
        let line : handed core ≡ finished ++ s ∷ (ss ++ core.chunks) = behind (core.batches ++ core.chunks)
        ∙ ap (λ l. finished ++ (l ++ core.chunks)) e in
        let all = line_at finished s (ss ++ core.chunks) [] (subst (λ l. LineNeeds [] l) line r.based.needed.handed) in
        let here : is_among n (created (joined_turns finished s)) ≡ true =
        all_at (λ n. is_among n (created (joined_turns finished s)) ≡ true) n
        (needed (device_commands s.commands)) all a in
        let asked : core.requested ≡ created (joined_turns finished s) ++ shaders_of ss =
        r.based.progress.requested ∙ ap shaders_of (behind core.batches ∙ ap (λ l. finished ++ l) e)
        ∙ shaders_joined finished s ss in
        subst (λ l. is_among n l ≡ true) (sym asked) (among_front n (created (joined_turns finished s))
        (shaders_of ss) here)

    no_batches : core.batches ≡ []
    no_batches = elim (head_or core.batches) [
      | inl e ↦ e
      | inr h ↦ elim (all_or_one core.modules (needed (device_commands h.0.commands))) [
        | inl a ↦ absurd
            (none.1.1.1.1.0 (_, (goes_on, (h.0, h.1, h.2, has_room core.submissions no_submissions, a, refl))))
        | inr m ↦
            let u = some_unmade m.0 core.modules core.requested (is_requested h.0 h.1 h.2 m.0 m.1) m.2 in
            absurd (none.1.1.1.1.1.0 (_, (goes_on, (u.0, ap (λ l. slice_get l 0) u.2, refl))))
      ]
    ]

    no_chunks : core.chunks ≡ []
    no_chunks = elim (head_or core.chunks) [
      | inl e ↦ e
      | inr h ↦ absurd (none.1.1.1.1.1.1.0 (_, (goes_on, (h.0, h.1, h.2, has_room core.batches no_batches, refl))))
    ]

    pub only_posts : OnlyPosts core
    only_posts = record {
      completions = no_completions;
      accepted = no_accepted;
      submissions =
          no_submissions;
      batches = no_batches;
      chunks = no_chunks;
    }

  stuck : core.ended ≡ false → AllRefused meaning script core settling → ⊥
  stuck goes_on none =
      let app = none.1.1.1.1.1.1.1.0 in
      let no_posts : core.posts ≡ [] = elim (head_or core.posts)
      [ inl e ↦ e | inr h ↦ absurd (app (app_with_posts meaning script core goes_on h.0 h.1 h.2)) ] in
      let others : AllRefused meaning script core before_app = (
        none.0,
        (
          none.1.0,
          (none.1.1.0, (none.1.1.1.0, (none.1.1.1.1.0, (none.1.1.1.1.1.0, (none.1.1.1.1.1.1.0, tt))))),
        ),
      ) in
      let rest = only_posts goes_on others (ap (λ l. nat_lt (length l) 4) no_posts) in
      let a = acts_at_rest meaning script lawful core r (at_rest core no_posts rest) goes_on in
      let step : AppSteps First_choices script 0 core a.0 = (
        goes_on,
        (λ h. sym (ap length no_posts)),
        core,
        refl,
        inl a.1,
      ) in
      app (a.0, (goes_on, subst (λ n. AppSteps First_choices script n core a.0) (sym (ap length no_posts)) step))

  pub some_goes : core.ended ≡ false → (new : Core) × FirstEnabled meaning script core settling new
  some_goes goes_on = elim (first_or_none settling) [ inl x ↦ x | inr none ↦ absurd (stuck goes_on none) ]
