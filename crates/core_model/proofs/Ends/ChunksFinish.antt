-- In each reading, chunks that were handed over can be finished, and blocks come home, by steps of the other parts.
use Rattle.std.proofs.Common.{◌≡◌, ℕ, zero, suc, ◌+◌, ◌*◌, ◌/◌, ◌<◌, ◌≤◌, true, false, List, [], ◌∷◌, ◌++◌, length}
use Rattle.std.proofs.Common.{refl, sym, ap, ◌∙◌, subst, inl, inr, slice_get, arith, append-nil}
use Rattle.vk_types.specs.Effects.{Meaning, act_effect}
use Rattle.vk_types.specs.Entries.{Entry, run_entries}
use Rattle.core_model.specs.Script.{Script}
use Rattle.core_model.specs.CoreState.{Segment, Running, Message, Returning, Core, start, of_messages, of_running}
use Rattle.core_model.specs.CoreState.{taken_count, finished_count, handed_count}
use Rattle.core_model.specs.Readings.{Reading, Any_choices, First_choices, In_threads, has_place}
use Rattle.core_model.specs.AppActs.{device_commands}
use Rattle.core_model.specs.OtherParts.{created, needed, is_among, unmade, snaps_of, values_of, counted}
use Rattle.core_model.specs.Owners.{finish_owner}
use Rattle.core_model.specs.CoreStep.{Event, Cs, Pipe, Submit, Accept, Run, Complete, Finish, Come_home, is_of_app}
use Rattle.core_model.specs.CoreStep.{Step, Chain}
use Rattle.core_model.specs.Ends.{Posts}
use Rattle.core_model.specs.Lawful.{IsLawful}
use Rattle.core_model.specs.Invariant.{handed}
use Rattle.core_model.proofs.Messages.Scenes.{scene, scene_kinds, reached_by_kinds}
use Rattle.core_model.proofs.Runs.RunsKeepAll.{reached_kept}
use Rattle.core_model.proofs.Ends.Progress.{Progress, progress_kinds, shaders_of, shaders_append}
use Rattle.core_model.proofs.Ends.NeededShaders.{AreNeeded, LineNeeds, needed_kinds, line_at, joined_turns}
use Rattle.core_model.proofs.Ends.NeededShaders.{shaders_joined, among_front, some_unmade}
use Rattle.core_model.proofs.Ends.FewerShaders.{one_fewer}
use Rattle.core_model.proofs.Ends.Deciding.{head_or, all_or_one}
use Rattle.core_model.proofs.Ends.FinishGoes.{place_for}
use Rattle.core_model.proofs.Ends.Enabled.{all_at}

module _ (meaning : Meaning) (reading : Reading) (script : Script) where
  room : has_place reading 0 ≡ true
  room = by reading
    where
      by : (reading : Reading) → has_place reading 0 ≡ true
      by Any_choices = refl
      by First_choices = refl
      by In_threads = refl

  has_room : {A : Type 0} (xs : List A) → xs ≡ [] → has_place reading (length xs) ≡ true
  has_room xs e = ap (λ l. has_place reading (length l)) e ∙ room

  -- one event more in front
  first : (old mid : Core) (e : Event) → is_of_app e ≡ false → Step meaning reading script old e mid
      → Posts meaning reading script mid → Posts meaning reading script old
  first old mid e n s p = (e ∷ p.0, p.1, (mid, s, p.2), (n, p.3), p.4)

  posted : (core : Core) (m : Message) (ms : List Message) → core.posts ≡ m ∷ ms → Posts meaning reading script core
  posted core m ms e = ([], core, refl, tt, let l = ap length e in omega (arith, l))

  finishes : (core : Core) (m : Message) (ms : List Message) → core.posts ≡ [] → core.completions ≡ m ∷ ms
      → Posts meaning reading script core
  finishes core m ms none e =
      let next : Core = record core {
        completions = ms;
        posts = core.posts ++ m ∷ [];
        owner =
            λ b. finish_owner (suc (finished_count core)) b (core.owner b);
      } in
      first core next Finish refl (m, ms, e, has_room core.posts none, refl)
      (posted next m [] (ap (λ l. l ++ m ∷ []) none))

  completes : (rest : List Entry) (core : Core) (r : Running) (rs : List Running) → core.posts ≡ []
      → core.completions ≡ [] → core.accepted ≡ r ∷ rs → r.rest ≡ rest → Posts meaning reading script core
  completes [] core r rs none c e out =
      let m : Message = record {
        segment = r.segment;
        snaps = snaps_of r.segment rs core.memory;
        values = values_of core.counts (core.taken ++ (of_messages core.posts ++ of_messages core.completions))
            r.segment;
      } in
      let next : Core = record core { accepted = rs; completions = core.completions ++ m ∷ [] } in
      first core next Complete refl (r, rs, e, out, has_room core.completions c, refl)
      (finishes next m [] none (ap (λ l. l ++ m ∷ []) c))
  completes (x ∷ xs) core r rs none c e out =
      let left : Running = record { segment = r.segment; rest = xs } in
      let next : Core = record core {
        accepted = left ∷ rs;
        memory = act_effect meaning x.act core.memory;
        counts =
            counted meaning x.act core.memory core.counts;
        ran = core.ran ++ x ∷ [];
      } in
      first core next (Run 0) refl ([], r, rs, e, [], x, xs, out, tt, refl, refl)
      (completes xs next left rs none c refl refl)

  accepts : (core : Core) (s : Segment) (ss : List Segment) → core.posts ≡ [] → core.completions ≡ []
      → core.accepted ≡ [] → core.submissions ≡ s ∷ ss → Posts meaning reading script core
  accepts core s ss none c a e =
      let begun : Running = record { segment = s; rest = s.commands } in
      let next : Core = record core {
        submissions = ss;
        accepted = core.accepted ++ begun ∷ [];
        memory =
            run_entries meaning s.writes core.memory;
      } in
      first core next Accept refl (s, ss, e, has_room core.accepted a, refl)
      (completes s.commands next begun [] none c (ap (λ l. l ++ begun ∷ []) a) refl)

  -- a batch whose shaders are requested: they are made, and it is submitted
  submits : (fuel : ℕ) (core : Core) (s : Segment) (ss : List Segment) → core.posts ≡ [] → core.completions ≡ []
      → core.accepted ≡ [] → core.submissions ≡ [] → core.batches ≡ s ∷ ss
      → ((n : ℕ) → is_among n (needed (device_commands s.commands)) ≡ true → is_among n core.requested ≡ true)
      → length (unmade core.modules core.requested) < fuel → Posts meaning reading script core
  submits zero core s ss none c a b e asked l = absurd (omega (arith, l))
  submits (suc fuel) core s ss none c a b e asked l =
      elim (all_or_one core.modules (needed (device_commands s.commands))) [
        | inl all ↦
            let next : Core = record core { batches = ss; submissions = core.submissions ++ s ∷ [] } in
            first core next Submit refl (s, ss, e, has_room core.submissions b, all, refl)
            (accepts next s [] none c a (ap (λ l. l ++ s ∷ []) b))
        | inr m ↦
            let u = some_unmade m.0 core.modules core.requested (asked m.0 m.1) m.2 in
            let here = ap (λ l. slice_get l 0) u.2 in
            let less = one_fewer u.0 core.modules core.requested 0 here in
            let next : Core = record core { modules = core.modules ++ u.0 ∷ [] } in
            first core next (Pipe 0) refl (u.0, here, refl) (submits fuel next s ss none c a b e asked
            (omega (arith, l, less)))
      ]

  -- the shaders of a chunk behind these, which are all that were requested before it
  asked_here : (core : Core) → AreNeeded (scene core) → (front : List Segment) (s : Segment) (back : List Segment)
      → handed core ≡ front ++ s ∷ back → (more : List ℕ)
      → (n : ℕ) → is_among n (needed (device_commands s.commands)) ≡ true
      → is_among n (created (joined_turns front s) ++ more) ≡ true
  asked_here core h front s back line more n a =
      let all = line_at front s back [] (subst (λ l. LineNeeds [] l) line h.handed) in
      among_front n (created (joined_turns front s)) more (all_at
      (λ n. is_among n (created (joined_turns front s)) ≡ true) n (needed (device_commands s.commands)) all a)

  module _ (core : Core) (p : Progress core) (h : AreNeeded (scene core)) (none : core.posts ≡ [])
      (c : core.completions ≡ []) (a : core.accepted ≡ []) (b : core.submissions ≡ []) where
    behind : (rest : List Segment)
        → core.taken ++
        (of_messages core.posts ++ (of_messages core.completions
        ++ (of_running core.accepted ++ (core.submissions ++ rest)))) ≡ core.taken ++ rest
    behind rest =
        ap (λ l. core.taken
        ++ (of_messages l ++ (of_messages core.completions
        ++ (of_running core.accepted ++ (core.submissions ++ rest))))) none
        ∙ ap (λ l. core.taken ++ (of_messages l ++ (of_running core.accepted ++ (core.submissions ++ rest)))) c
        ∙ ap (λ l. core.taken ++ (of_running l ++ (core.submissions ++ rest))) a
        ∙ ap (λ l. core.taken ++ (l ++ rest)) b

    from_batch : (s : Segment) (ss : List Segment) → core.batches ≡ s ∷ ss → Posts meaning reading script core
    from_batch s ss e =
        let line : handed core ≡ core.taken ++ s ∷ (ss ++ core.chunks) = behind (core.batches ++ core.chunks)
        ∙ ap (λ l. core.taken ++ (l ++ core.chunks)) e in
        let were : core.requested ≡ created (joined_turns core.taken s) ++ shaders_of ss =
        p.requested ∙ ap shaders_of (behind core.batches ∙ ap (λ l. core.taken ++ l) e)
        ∙ shaders_joined core.taken s ss in
        submits (suc (length (unmade core.modules core.requested))) core s ss none c a b e
        (λ n k. subst (λ l. is_among n l ≡ true) (sym were) (asked_here core h core.taken s (ss ++ core.chunks) line
        (shaders_of ss) n k)) (omega arith)

    from_chunk : (s : Segment) (ss : List Segment) → core.batches ≡ [] → core.chunks ≡ s ∷ ss
        → Posts meaning reading script core
    from_chunk s ss d e =
        let line : handed core ≡ core.taken ++ s ∷ ss = behind (core.batches ++ core.chunks)
        ∙ ap (λ l. core.taken ++ (l ++ core.chunks)) d ∙ ap (λ l. core.taken ++ l) e in
        let were : core.requested ≡ shaders_of (core.taken ++ []) = p.requested
        ∙ ap shaders_of (behind core.batches ∙ ap (λ l. core.taken ++ l) d) in
        let now : core.requested ++ created s.turns ≡ created (joined_turns core.taken s) ++ [] =
        ap (λ l. l ++ created s.turns) (were ∙ ap shaders_of (append-nil core.taken))
        ∙ ap (λ l. shaders_of core.taken ++ l) (sym (append-nil (created s.turns)))
        ∙ sym (shaders_append core.taken (s ∷ [])) ∙ shaders_joined core.taken s [] in
        let next : Core = record core {
          chunks = ss;
          batches = core.batches ++ s ∷ [];
          requested =
              core.requested ++ created s.turns;
        } in
        first core next Cs refl (s, ss, e, has_room core.batches d, refl)
        (submits (suc (length (unmade next.modules next.requested))) next s [] none c a b (ap (λ l. l ++ s ∷ []) d)
        (λ n k. subst (λ l. is_among n l ≡ true) (sym now) (asked_here core h core.taken s ss line [] n k))
        (omega arith))

  finish_some : (core : Core) → Progress core → AreNeeded (scene core) → taken_count core < handed_count core
      → Posts meaning reading script core
  finish_some core p h some = elim (head_or core.posts) [
    | inr x ↦ posted core x.0 x.1 x.2
    | inl none ↦ elim (head_or core.completions) [
      | inr x ↦ finishes core x.0 x.1 none x.2
      | inl c ↦ elim (head_or core.accepted) [
        | inr x ↦ completes x.0.rest core x.0 x.1 none c x.2 refl
        | inl a ↦ elim (head_or core.submissions) [
          | inr x ↦ accepts core x.0 x.1 none c a x.2
          | inl b ↦ elim (head_or core.batches) [
            | inr x ↦ from_batch core p h none c a b x.0 x.1 x.2
            | inl d ↦ elim (head_or core.chunks) [
              | inr x ↦ from_chunk core p h none c a b x.0 x.1 d x.2
              | inl e ↦
                  let v = ap length none in
                  let w = ap length c in
                  let x = ap length a in
                  let y = ap length b in
                  let z = ap length d in
                  let u = ap length e in
                  absurd (omega (arith, some, v, w, x, y, z, u))
            ]
          ]
        ]
      ]
    ]
  ]

module _ (meaning : Meaning) (reading : Reading) (script : Script) (lawful : IsLawful meaning script)
    (events : List Event) (core : Core) (h : Chain meaning reading script (start script) events core) where
  progress : Progress core
  progress = reached_by_kinds meaning reading script Progress (progress_kinds meaning reading script) lawful events
      core h

  pub chunks_finish : taken_count core < handed_count core → Posts meaning reading script core
  chunks_finish some =
      finish_some meaning reading script core progress
      (reached_by_kinds meaning reading script (λ c. AreNeeded (scene c))
      (scene_kinds meaning reading script AreNeeded (needed_kinds meaning reading script lawful)) lawful events
      core h) some

  pub blocks_return : (block k : ℕ) → core.owner block ≡ Returning k → (place : ℕ) × (new : Core)
      × Step meaning reading script core (Come_home block place) new
  blocks_return block k e =
      let class = block / 64 in
      let low : class * 64 ≤ block = omega arith in
      let high : block < class * 64 + 64 = omega arith in
      let p = place_for core (reached_kept meaning reading script lawful events core h).beside.places progress.long
      block class low high (k, e) in
      (p.0, _, (class, k, e, low, high, p.2, refl))
