-- The device runs a ready command: what is left, run in the listing's order, completes what it holds then.
use Rattle.std.proofs.Common.{◌≡◌, ℕ, ◌≤◌, true, false, List, [], ◌∷◌, ◌++◌, length, sym, ap, ◌∙◌, subst, arith}
use Rattle.std.proofs.Common.{append_assoc, length-append}
use Rattle.std.specs.List.{AllByRecursion}
use Rattle.base_lemmas.specs.Lists.{Pairwise, IsReordering, Sublist}
use Rattle.vk_types.specs.Effects.{Meaning, act_effect}
use Rattle.vk_types.specs.Entries.{Entry, entry_before, entries_conflict, EntriesCovered, EntriesKeep}
use Rattle.base_lemmas.proofs.Lists.{all_front, all_back, all_append, pairs_front, pairs_back, pairs_sublist}
use Rattle.base_lemmas.proofs.Lists.{pairs_to, pairs_without, sublist_trans, sublist_without}
use Rattle.vk_types.proofs.Reorder.{to_front, Commute}
use Rattle.core_model.specs.Script.{Script}
use Rattle.core_model.specs.CoreState.{flat, Running, Core, of_messages, of_running, rests, waiting, on_device, listed}
use Rattle.core_model.specs.Readings.{Reading}
use Rattle.core_model.specs.OtherParts.{counted}
use Rattle.core_model.specs.CoreStep.{Step, Run}
use Rattle.core_model.specs.Worlds.{World, empty, world_step, run_world}
use Rattle.core_model.specs.Invariant.{SnapsRight, commands_of, Sound, Good}
use Rattle.core_model.proofs.Listing.Worlds.{run_world_is, not_ordered, flat-append, of_running-append, rests-append}
use Rattle.core_model.proofs.Listing.Reordering.{reordering_moved}
use Rattle.core_model.proofs.Steps.Segments.{segments_parts, run_out, rests_within}
use Rattle.core_model.proofs.Steps.ChunkMoves.{moved_good}

-- what holds of each pair of the listing, of the commands that the device has and of what waits behind them
pub device_on : (R : Entry → Entry → Type 0) (core : Core) → Pairwise R (listed core)
    → Pairwise R (flat (of_running core.accepted) ++ flat (waiting core))
device_on R core h =
    let r = of_running core.accepted in
    let q = waiting core in
    subst (Pairwise R) (flat-append r q)
    (pairs_back R (flat (run_out core)) (flat (r ++ q)) (subst (Pairwise R) (ap flat (segments_parts core)
    ∙ flat-append (run_out core) (r ++ q)) h))

module _ (meaning : Meaning) (reading : Reading) (script : Script) (old : Core)
    (front : List Running) (r : Running) (back : List Running) (e : old.accepted ≡ front ++ r ∷ back)
    (passed : List Entry) (x : Entry) (others : List Entry) (f : r.rest ≡ passed ++ x ∷ others) where
  abbrev after_run : Running
  after_run = record { segment = r.segment; rest = passed ++ others }

  abbrev ran : Core
  ran = record old {
    accepted = front ++ after_run ∷ back;
    memory = act_effect meaning x.act old.memory;
    counts = counted meaning x.act old.memory old.counts;
    ran = old.ran ++ x ∷ [];
  }

  ran_running : of_running (front ++ after_run ∷ back) ≡ of_running old.accepted
  ran_running = of_running-append front (after_run ∷ back) ∙ sym (of_running-append front (r ∷ back))
      ∙ ap of_running (sym e)

  ran_device : on_device ran ≡ on_device old
  ran_device = ap (λ l. old.taken ++ (of_messages old.posts ++ (of_messages old.completions ++ l))) ran_running

  ran_length : length (front ++ after_run ∷ back) ≡ length old.accepted
  ran_length = length-append front (after_run ∷ back) ∙ sym (length-append front (r ∷ back)) ∙ ap length (sym e)

  -- the commands that were not run, cut at this one
  cut_at : rests old.accepted ≡ (rests front ++ passed) ++ x ∷ (others ++ rests back)
  cut_at =
      ap rests e ∙ rests-append front (r ∷ back)
      ∙ ap (λ l. rests front ++ (l ++ rests back)) f
      ∙ ap (λ l. rests front ++ l) (append_assoc passed (x ∷ others) (rests back))
      ∙ sym (append_assoc (rests front) passed (x ∷ (others ++ rests back)))

  left : rests (front ++ after_run ∷ back) ≡ (rests front ++ passed) ++ (others ++ rests back)
  left =
      rests-append front (after_run ∷ back)
      ∙ ap (λ l. rests front ++ l) (append_assoc passed others (rests back))
      ∙ sym (append_assoc (rests front) passed (others ++ rests back))

  rests_covered : Sound meaning reading script old → EntriesCovered (rests old.accepted)
  rests_covered s =
      let R : Entry → Entry → Type 0 = λ x y. entries_conflict x y ≡ true → entry_before x y ≡ true in
      pairs_sublist R (rests_within old.accepted s.within) (pairs_front R (flat (of_running old.accepted))
      (flat (waiting old)) (device_on R old s.covered))

  moves : (ys : List Entry) → AllByRecursion (λ y. entries_conflict y x ≡ true → entry_before y x ≡ true) ys
      → AllByRecursion (λ y. entry_before y x ≡ false) ys
      → AllByRecursion (λ y. Commute (world_step meaning) x y) ys
  moves [] h k = tt
  moves (y ∷ ys) h k = ((λ m. sym (not_ordered meaning y x h.0 k.0 m)), moves ys h.1 k.1)

  abbrev world : World
  world = record { memory = old.memory; counts = old.counts }

  ran_world : Sound meaning reading script old → AllByRecursion (λ y. entry_before y x ≡ false) (rests front ++ passed)
      → run_world meaning (rests (front ++ after_run ∷ back)) (world_step meaning x world)
      ≡ run_world meaning (flat (on_device ran)) empty
  ran_world s ready =
      let R : Entry → Entry → Type 0 = λ x y. entries_conflict x y ≡ true → entry_before x y ≡ true in
      let p = rests front ++ passed in
      let o = others ++ rests back in
      let covered : EntriesCovered (p ++ x ∷ o) = subst EntriesCovered cut_at (rests_covered s) in
      let exchanged = moves p (pairs_to R x p o covered) ready in
      ap (λ l. run_world meaning l (world_step meaning x world)) left
      ∙ run_world_is meaning (p ++ o) (world_step meaning x world)
      ∙ sym (to_front (world_step meaning) x p o exchanged world)
      ∙ sym (run_world_is meaning (p ++ x ∷ o) world)
      ∙ ap (λ l. run_world meaning l world) (sym cut_at)
      ∙ s.device
      ∙ ap (λ l. run_world meaning (flat l) empty) (sym ran_device)

  ran_within : Sound meaning reading script old → AllByRecursion (λ r. Sublist r.rest r.segment.commands)
      (front ++ after_run ∷ back)
  ran_within s =
      let P : Running → Type 0 = λ r. Sublist r.rest r.segment.commands in
      let w : AllByRecursion P (front ++ r ∷ back) = subst (AllByRecursion P) e s.within in
      let here = all_back P front (r ∷ back) w in
      all_append P front (after_run ∷ back) (all_front P front (r ∷ back) w)
      (sublist_trans (subst (λ l. Sublist l r.segment.commands) f here.0) (sublist_without x passed others), here.1)

  -- the command is moved in front of those that it is not ordered after
  pairs_moved : (R : Entry → Entry → Type 0) (done ps os : List Entry) → Pairwise R (done ++ (ps ++ x ∷ os))
      → AllByRecursion (R x) ps
      → Pairwise R ((done ++ x ∷ []) ++ (ps ++ os))
  pairs_moved R [] ps os h k = (
    all_append (R x) ps os k ((pairs_back R ps (x ∷ os) h).0),
    pairs_without R x ps os h,
  )
  pairs_moved R (d ∷ done) ps os h k = (
    all_append (R d) (done ++ x ∷ []) (ps ++ os)
        (all_append (R d) done (x ∷ []) (all_front (R d) done (ps ++ x ∷ os) h.0)
        ((all_back (R d) ps (x ∷ os) (all_back (R d) done (ps ++ x ∷ os) h.0)).0, tt))
        (all_append (R d) ps os (all_front (R d) ps (x ∷ os) (all_back (R d) done (ps ++ x ∷ os) h.0))
        ((all_back (R d) ps (x ∷ os) (all_back (R d) done (ps ++ x ∷ os) h.0)).1)),
    pairs_moved R done ps os h.1 k,
  )

  ran_order : Sound meaning reading script old → AllByRecursion (λ y. entry_before y x ≡ false) (rests front ++ passed)
      → EntriesKeep ((old.ran ++ x ∷ []) ++ rests (front ++ after_run ∷ back))
  ran_order s ready =
      let R : Entry → Entry → Type 0 = λ x y. entry_before y x ≡ false in
      subst (λ l. EntriesKeep ((old.ran ++ x ∷ []) ++ l)) (sym left)
      (pairs_moved R old.ran (rests front ++ passed) (others ++ rests back)
      (subst (λ l. EntriesKeep (old.ran ++ l)) cut_at s.order) ready)

  ran_good : Good meaning reading script old → AllByRecursion (λ y. entry_before y x ≡ false)
      (rests front ++ passed) → Good meaning reading script ran
  ran_good g ready =
      let s = g.sound in
      moved_good meaning reading script old ran
      (ap (λ l. of_messages old.posts ++ (of_messages old.completions
      ++ (l ++ (old.submissions ++ (old.batches ++ old.chunks))))) ran_running) g (record {
        sizes = λ four. let z = s.sizes four in (z.0, z.1, subst (λ n. n ≤ 4) (sym ran_length) z.2, z.3, z.4, z.5);
        finished = omega arith;
        since = s.since;
        allows = λ block i chunk a. a;
        live = λ r b l. l;
        within = ran_within s;
        device = ran_world s ready;
        whole =
            subst (λ l. IsReordering (commands_of l) ((old.ran ++ x ∷ []) ++ rests (front ++ after_run ∷ back)))
            (sym ran_device)
            (subst (λ l. IsReordering (commands_of (on_device old)) ((old.ran ++ x ∷ []) ++ l)) (sym left)
            (reordering_moved (commands_of (on_device old)) old.ran (rests front ++ passed) x (others ++ rests back)
            (subst (λ l. IsReordering (commands_of (on_device old)) (old.ran ++ l)) cut_at s.whole)));
        order = ran_order s ready;
        snaps = subst (SnapsRight meaning (flat old.taken) (old.posts ++ old.completions)) (sym ran_running) s.snaps;
      })

-- a Run is a step that keeps the invariant, by any choice and in each reading
pub run_good : (meaning : Meaning) (reading : Reading) (script : Script) (old : Core) (j : ℕ) (new : Core)
    → Step meaning reading script old (Run j) new → Good meaning reading script old → Good meaning reading script new
run_good meaning reading script old j new p g =
    subst (Good meaning reading script) (sym p.10) (ran_good meaning reading script old p.0 p.1 p.2 p.3 p.4 p.5 p.6
    p.7 g p.8)
