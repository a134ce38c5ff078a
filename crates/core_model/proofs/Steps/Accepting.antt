-- The device accepts a submission: its host writes are made, ahead of commands that were listed earlier and are not
-- run. None of those conflicts with them, since a fence stands between.
use Rattle.std.proofs.Common.{◌≡◌, ℕ, suc, ◌<◌, ◌≤◌, true, false, cond, nat_le, nat_lt, List, [], ◌∷◌, ◌++◌, length}
use Rattle.std.proofs.Common.{refl, sym, ap, ◌∙◌, subst, inl, inr, arith, append_assoc, append-nil, length-append}
use Rattle.std.specs.List.{AllByRecursion}
use Rattle.std.proofs.lemmas.Bool.{both_ways, cases_Bool, lt-leb}
use Rattle.base_lemmas.specs.Lists.{Pairwise, IsReordering, Sublist}
use Rattle.vk_types.specs.Effects.{Meaning, Act, Host_write, Device, Host_read, is_host, act_effect}
use Rattle.vk_types.specs.Entries.{Entry, entry_before, entries_conflict, EntriesKeep, run_entries}
use Rattle.base_lemmas.proofs.Lists.{all_front, all_back, all_append, all_map, all_both, all_sublist, all_across}
use Rattle.base_lemmas.proofs.Lists.{all_reordered, pairs_front, pairs_back, pairs_append, sublist_self}
use Rattle.vk_types.proofs.Reorder.{run_steps, all_to_front, Commute}
use Rattle.core_model.specs.Script.{Script}
use Rattle.core_model.specs.CoreState.{Segment, entries, flat, Running, Core, of_messages, of_running, rests, waiting}
use Rattle.core_model.specs.CoreState.{segments, on_device, listed, finished_count}
use Rattle.core_model.specs.Readings.{Reading, has_place}
use Rattle.core_model.specs.OtherParts.{counted, needed_in}
use Rattle.core_model.proofs.Steps.Completing.{needed_front}
use Rattle.core_model.specs.CoreStep.{Step, Accept}
use Rattle.core_model.specs.Stands.{is_host_write, is_host_read}
use Rattle.core_model.specs.Worlds.{World, empty, world_step, run_world}
use Rattle.core_model.specs.Invariant.{IsShaped, KnownIn, Numbered, SnapsRight, listed_acts, commands_of, Sound, Good}
use Rattle.core_model.specs.CoreState.{Message}
use Rattle.core_model.proofs.Listing.Worlds.{run_world_is, run_world-append, world_path, may_exchange, flat-append}
use Rattle.core_model.proofs.Listing.Worlds.{of_running-append, rests-append}
use Rattle.core_model.proofs.Listing.Reordering.{reordering_self, reordering_append}
use Rattle.core_model.proofs.Listing.CoreListing.{listed_keeps}
use Rattle.core_model.proofs.Steps.Segments.{listed_split, run_out, segments_parts, device_parts, rests_within}
use Rattle.core_model.proofs.Steps.Segments.{rests_have, commands_have, commands_of-append, writes_have}
use Rattle.core_model.proofs.Steps.Segments.{numbered_back, numbered_above, messages_length}
use Rattle.core_model.proofs.Steps.ChunkMoves.{moved_good}
use Rattle.core_model.proofs.Steps.QueueHeads.{place_of, one_more}
use Rattle.core_model.proofs.Steps.Running.{device_on}

-- Host acts and the world -------------------------------------------------------------------------------------------

write_counts : (meaning : Meaning) (a : Act) → is_host_write a ≡ true → (m : ℕ → ℕ → ℕ) (counts : ℕ → ℕ)
    → counted meaning a m counts ≡ counts
write_counts meaning (Host_write r bs) h m counts = refl
write_counts meaning (Device d) h m counts = absurd (cc h)
write_counts meaning (Host_read r) h m counts = absurd (cc h)

-- host writes run no invocations
writes_world : (meaning : Meaning) (ws : List Entry) → AllByRecursion (λ x. is_host_write x.act ≡ true) ws → (w : World)
    → run_world meaning ws w ≡ record { memory = run_entries meaning ws w.memory; counts = w.counts }
writes_world meaning [] h w = refl
writes_world meaning (x ∷ ws) h w =
    writes_world meaning ws h.1 (world_step meaning x w)
    ∙ world_path _ _ _ _ refl (write_counts meaning x.act h.0 w.memory w.counts)

read_world : (meaning : Meaning) (a : Act) → is_host_read a ≡ true → (w : World)
    → let v : World = record {
      memory = act_effect meaning a w.memory;
      counts =
          counted meaning a w.memory w.counts;
    } in v ≡ w
read_world meaning (Host_write r bs) h w = absurd (cc h)
read_world meaning (Device d) h w = absurd (cc h)
read_world meaning (Host_read r) h w = refl

-- host reads change nothing
pub reads_world : (meaning : Meaning) (rs : List Entry) → AllByRecursion (λ x. is_host_read x.act ≡ true) rs
    → (w : World) → run_world meaning rs w ≡ w
reads_world meaning [] h w = refl
reads_world meaning (x ∷ rs) h w = ap (run_world meaning rs) (read_world meaning x.act h.0 w)
    ∙ reads_world meaning rs h.1 w

pub write_is_host : (a : Act) → is_host_write a ≡ true → is_host a ≡ true
write_is_host (Host_write r bs) h = refl
write_is_host (Device d) h = absurd (cc h)
write_is_host (Host_read r) h = absurd (cc h)

-- A host write that was listed behind a command of a chunk that is not finished does not conflict with it
write_free : (meaning : Meaning) (f : ℕ) (y w : Entry) → is_host y.act ≡ false → is_host w.act ≡ true → f < y.chunk
    → w.fence ≤ f
    → (entries_conflict y w ≡ true → entry_before y w ≡ true) → Commute (world_step meaning) y w
write_free meaning f y w hy hw l m covered =
    elim (cases_Bool (entries_conflict y w)) [
      | inl c ↦ absurd (both_ways (entry_before y w) (not_before) (covered c))
      | inr free ↦ may_exchange meaning y w free
    ]
  where
    not_before : entry_before y w ≡ false
    not_before =
        ap (λ a. cond a (cond (is_host w.act) (nat_lt y.number w.number) (nat_le y.chunk w.chunk))
        (cond (is_host w.act) (nat_le y.chunk w.fence) (nat_lt y.epoch w.epoch))) hy
        ∙ ap (λ b. cond b (nat_le y.chunk w.fence) (nat_lt y.epoch w.epoch)) hw
        ∙ lt-leb y.chunk w.fence (omega (arith, l, m))

-- The step ----------------------------------------------------------------------------------------------------------

module _ (meaning : Meaning) (reading : Reading) (script : Script) (old : Core) (s : Segment) (ss : List Segment)
    (e : old.submissions ≡ s ∷ ss) where
  abbrev begun : Running
  begun = record { segment = s; rest = s.commands }

  abbrev accepted : List Running
  accepted = old.accepted ++ begun ∷ []

  abbrev others : List Segment
  others = ss ++ (old.batches ++ (old.chunks ++ old.open_chunk ∷ []))

  waiting_is : waiting old ≡ s ∷ others
  waiting_is = ap (λ l. l ++ (old.batches ++ (old.chunks ++ old.open_chunk ∷ []))) e

  accepted_line : (z : List Segment) → of_running accepted ++ (ss ++ z)
      ≡ of_running old.accepted ++ (old.submissions ++ z)
  accepted_line z =
      ap (λ l. l ++ (ss ++ z)) (of_running-append old.accepted (begun ∷ []))
      ∙ append_assoc (of_running old.accepted) (s ∷ []) (ss ++ z)
      ∙ ap (λ l. of_running old.accepted ++ (l ++ z)) (sym e)

  device_is : old.taken ++ (of_messages old.posts ++ (of_messages old.completions ++ of_running accepted))
      ≡ on_device old ++ s ∷ []
  device_is =
      ap (λ l. old.taken ++ (of_messages old.posts ++ (of_messages old.completions ++ l)))
      (of_running-append old.accepted (begun ∷ []))
      ∙ ap (λ l. old.taken ++ (of_messages old.posts ++ l)) (sym
      (append_assoc (of_messages old.completions) (of_running old.accepted) (s ∷ [])))
      ∙ ap (λ l. old.taken ++ l)
      (sym (append_assoc (of_messages old.posts) (of_messages old.completions ++ of_running old.accepted)
      (s ∷ [])))
      ∙ sym (append_assoc old.taken (of_messages old.posts ++
      (of_messages old.completions ++ of_running old.accepted)) (s ∷ []))

  rests_are : rests accepted ≡ rests old.accepted ++ s.commands
  rests_are = rests-append old.accepted (begun ∷ []) ∙ ap (λ l. rests old.accepted ++ l) (append-nil s.commands)

  -- what is known of all segments, of this one
  of_this : (P : Segment → Type 0) → AllByRecursion P (segments old) → P s
  of_this P h =
      let parts : AllByRecursion P (run_out old ++ (of_running old.accepted ++ waiting old)) =
      subst (AllByRecursion P) (segments_parts old) h in
      let behind = all_back P (of_running old.accepted) (waiting old)
      (all_back P (run_out old) (of_running old.accepted ++ waiting old) parts) in
      (let here : AllByRecursion P (s ∷ others) = subst (AllByRecursion P) waiting_is behind in here).0

  of_running_all : (P : Segment → Type 0) → AllByRecursion P (segments old) → AllByRecursion P (of_running old.accepted)
  of_running_all P h =
      let parts : AllByRecursion P (run_out old ++ (of_running old.accepted ++ waiting old)) =
      subst (AllByRecursion P) (segments_parts old) h in
      all_front P (of_running old.accepted) (waiting old) (all_back P (run_out old)
      (of_running old.accepted ++ waiting old) parts)

  of_entries : (P : Entry → Type 0) → AllByRecursion P (listed old) → AllByRecursion P (entries s)
  of_entries P h =
      let parts : AllByRecursion P (flat (run_out old) ++ flat (of_running old.accepted ++ waiting old)) =
      subst (AllByRecursion P) (ap flat (segments_parts old)
      ∙ flat-append (run_out old) (of_running old.accepted ++ waiting old)) h in
      let behind : AllByRecursion P (flat (of_running old.accepted) ++ flat (waiting old)) =
      subst (AllByRecursion P) (flat-append (of_running old.accepted) (waiting old))
      (all_back P (flat (run_out old)) (flat (of_running old.accepted ++ waiting old)) parts) in
      let here : AllByRecursion P (entries s ++ flat others) =
      subst (λ l. AllByRecursion P (flat l)) waiting_is (all_back P (flat (of_running old.accepted))
      (flat (waiting old)) behind) in
      all_front P (entries s) (flat others) here

  -- each command that is not run with each entry of the accepted chunk
  across : (R : Entry → Entry → Type 0) → Sound meaning reading script old → Pairwise R (listed old)
      → AllByRecursion (λ y. AllByRecursion (R y) (entries s)) (rests old.accepted)
  across R so h =
      let pairs : Pairwise R (flat (of_running old.accepted) ++ (entries s ++ flat others)) =
      subst (λ l. Pairwise R (flat (of_running old.accepted) ++ flat l)) waiting_is (device_on R old h) in
      all_map (λ y. AllByRecursion (R y) (entries s ++ flat others)) (λ y. AllByRecursion (R y) (entries s))
      (λ y k. all_front (R y) (entries s) (flat others) k) (rests old.accepted)
      (all_sublist (λ y. AllByRecursion (R y) (entries s ++ flat others)) (rests_within old.accepted so.within)
      (all_across R (flat (of_running old.accepted)) (entries s ++ flat others) pairs))

  -- a command that is not run
  abbrev IsLeft : Entry → Type 0
  IsLeft y = (is_host y.act ≡ false) × (finished_count old < y.chunk)

  are_left : Sound meaning reading script old → AllByRecursion IsLeft (rests old.accepted)
  are_left so =
      let n = length (run_out old) in
      let behind : Numbered n (of_running old.accepted ++ waiting old) =
      numbered_back 0 n (run_out old) (of_running old.accepted ++ waiting old) (omega arith)
      (subst (Numbered 0) (segments_parts old) so.numbered) in
      let a = length-append old.taken (of_messages old.posts ++ of_messages old.completions) in
      let b = length-append (of_messages old.posts) (of_messages old.completions) in
      let c = messages_length old.posts in
      let above : AllByRecursion (λ x. n < x.chunk) (flat (of_running old.accepted)) =
      all_front (λ x. n < x.chunk) (flat (of_running old.accepted)) (flat (waiting old))
      (subst (AllByRecursion (λ x. n < x.chunk)) (flat-append (of_running old.accepted) (waiting old))
      (numbered_above n (of_running old.accepted ++ waiting old) behind)) in
      all_both (λ y. is_host y.act ≡ false) (λ y. finished_count old < y.chunk) (rests old.accepted)
      (rests_have (λ y. is_host y.act ≡ false) old.accepted so.within
      (all_map IsShaped (λ s. AllByRecursion (λ y. is_host y.act ≡ false) s.commands) (λ s h. h.2)
      (of_running old.accepted) (of_running_all IsShaped so.shaped)))
      (all_map (λ x. n < x.chunk) (λ y. finished_count old < y.chunk) (λ y l. omega (arith, l, a, b, c))
      (rests old.accepted)
      (all_sublist (λ x. n < x.chunk) (rests_within old.accepted so.within) above))

  -- a write of the accepted chunk
  abbrev IsWrite : Entry → Type 0
  IsWrite w = (is_host w.act ≡ true) × (w.fence ≤ finished_count old)

  are_writes : Sound meaning reading script old → AllByRecursion IsWrite s.writes
  are_writes so =
      let host : AllByRecursion (λ w. is_host w.act ≡ true) s.writes =
      all_map (λ x. is_host_write x.act ≡ true) (λ w. is_host w.act ≡ true) (λ w h. write_is_host w.act h) s.writes
      (of_this IsShaped so.shaped).1 in
      all_map (λ w. (is_host w.act ≡ true) × KnownIn old w) IsWrite (λ w h. (h.0, h.1.fenced h.0)) s.writes
      (all_both (λ w. is_host w.act ≡ true) (KnownIn old) s.writes host
      (writes_have (KnownIn old) s (of_entries (KnownIn old) so.known)))

  free_writes : Sound meaning reading script old → AllByRecursion
      (λ y. AllByRecursion (λ w. Commute (world_step meaning) y w) s.writes) (rests old.accepted)
  free_writes so =
      let R : Entry → Entry → Type 0 = λ y w. entries_conflict y w ≡ true → entry_before y w ≡ true in
      all_map (λ y. IsLeft y × AllByRecursion (R y) (entries s))
      (λ y. AllByRecursion (λ w. Commute (world_step meaning) y w) s.writes)
      (λ y h.
      all_map (λ w. IsWrite w × R y w) (λ w. Commute (world_step meaning) y w)
      (λ w k. write_free meaning (finished_count old) y w h.0.0 k.0.0 h.0.1 k.0.1 k.1) s.writes
      (all_both IsWrite (R y) s.writes (are_writes so) (writes_have (R y) s h.1)))
      (rests old.accepted)
      (all_both IsLeft (λ y. AllByRecursion (R y) (entries s)) (rests old.accepted) (are_left so)
      (across R so so.covered))

  abbrev world : World
  world = record { memory = old.memory; counts = old.counts }

  abbrev written : World
  written = record { memory = run_entries meaning s.writes old.memory; counts = old.counts }

  accepted_world : Sound meaning reading script old → run_world meaning (rests accepted) written
      ≡ run_world meaning (flat (on_device old ++ s ∷ [])) empty
  accepted_world so =
      let shape = of_this IsShaped so.shaped in
      let rs = rests old.accepted in
      let ws = s.writes in
      let cs = s.commands in
      let done : World = run_world meaning (flat (on_device old)) empty in
      let first : run_world meaning rs (run_world meaning ws world)
      ≡ run_world meaning ws (run_world meaning rs world) =
      ap (run_world meaning rs) (run_world_is meaning ws world)
      ∙ run_world_is meaning rs (run_steps (world_step meaning) ws world)
      ∙ all_to_front (world_step meaning) rs ws (free_writes so) world
      ∙ ap (run_steps (world_step meaning) ws) (sym (run_world_is meaning rs world))
      ∙ sym (run_world_is meaning ws (run_world meaning rs world)) in
      ap (λ l. run_world meaning l written) rests_are
      ∙ run_world-append meaning rs cs written
      ∙ ap (λ w. run_world meaning cs (run_world meaning rs w)) (sym (writes_world meaning ws shape.1 world))
      ∙ ap (run_world meaning cs) first
      ∙ ap (λ w. run_world meaning cs (run_world meaning ws w)) so.device
      ∙ ap (λ w. run_world meaning cs (run_world meaning ws w)) (sym (reads_world meaning s.reads shape.0 done))
      ∙ sym (run_world-append meaning ws cs (run_world meaning s.reads done))
      ∙ sym (run_world-append meaning s.reads (ws ++ cs) done)
      ∙ sym (run_world-append meaning (flat (on_device old)) (entries s) empty)
      ∙ ap (λ l. run_world meaning (flat (on_device old) ++ l) empty) (sym (append-nil (entries s)))
      ∙ ap (λ l. run_world meaning l empty) (sym (flat-append (on_device old) (s ∷ [])))

  accepted_whole : Sound meaning reading script old → IsReordering (commands_of (on_device old ++ s ∷ []))
      (old.ran ++ rests accepted)
  accepted_whole so =
      let all = commands_of (on_device old) in
      subst (λ l. IsReordering l (old.ran ++ rests accepted)) (ap (λ l. all ++ l) (sym (append-nil s.commands))
      ∙ sym (commands_of-append (on_device old) (s ∷ [])))
      (subst (IsReordering (all ++ s.commands)) (append_assoc old.ran (rests old.accepted) s.commands
      ∙ ap (λ l. old.ran ++ l) (sym rests_are))
      (reordering_append all (old.ran ++ rests old.accepted) s.commands s.commands so.whole
      (reordering_self s.commands)))

  -- no command of the accepted chunk is ordered before one that was accepted earlier
  accepted_order : Sound meaning reading script old → EntriesKeep (old.ran ++ rests accepted)
  accepted_order so =
      let R : Entry → Entry → Type 0 = λ x y. entry_before y x ≡ false in
      let keeps : EntriesKeep (listed old) =
      subst EntriesKeep (sym (listed_split old)) (listed_keeps old.is_staging old.listing old.open_chunk.ops
      old.contents old.recent old.open_chunk.commands _ (listed_acts old) so.grows) in
      let device = flat (on_device old) in
      let pairs : Pairwise R (device ++ (entries s ++ flat others)) =
      subst (Pairwise R)
      (ap flat (segments_parts old ∙ ap (λ l. run_out old ++ (of_running old.accepted ++ l)) waiting_is
      ∙ sym (append_assoc (run_out old) (of_running old.accepted) (s ∷ others))
      ∙ ap (λ l. l ++ s ∷ others) (sym (device_parts old)))
      ∙ flat-append (on_device old) (s ∷ others)) keeps in
      let far : AllByRecursion (λ x. AllByRecursion (R x) (entries s ++ flat others)) device =
      all_across R device (entries s ++ flat others) pairs in
      let near : AllByRecursion (λ x. AllByRecursion (R x) s.commands) device =
      all_map (λ x. AllByRecursion (R x) (entries s ++ flat others)) (λ x. AllByRecursion (R x) s.commands)
      (λ x h. all_back (R x) s.writes s.commands (all_back (R x) s.reads (s.writes ++ s.commands)
      (all_front (R x) (entries s) (flat others) h))) device far in
      let run : AllByRecursion (λ x. AllByRecursion (R x) s.commands) (old.ran ++ rests old.accepted) =
      all_reordered (λ x. AllByRecursion (R x) s.commands) (commands_of (on_device old))
      (old.ran ++ rests old.accepted) so.whole
      (commands_have (λ x. AllByRecursion (R x) s.commands) (on_device old) near) in
      let own : Pairwise R s.commands =
      pairs_back R s.writes s.commands (pairs_back R s.reads (s.writes ++ s.commands)
      (pairs_front R (entries s) (flat others) (pairs_back R device (entries s ++ flat others) pairs))) in
      subst EntriesKeep (append_assoc old.ran (rests old.accepted) s.commands ∙ ap (λ l. old.ran ++ l) (sym rests_are))
      (pairs_append R (old.ran ++ rests old.accepted) s.commands so.order own run)

  -- copies are there where no later chunk needs the block, so with one chunk more behind them still
  snaps_more : (earlier : List Entry) (ms : List Message) (after : List Segment)
      → SnapsRight meaning earlier ms after → SnapsRight meaning earlier ms (after ++ s ∷ [])
  snaps_more earlier [] after h = tt
  snaps_more earlier (m ∷ ms) after h = (
    record {
      right = h.0.right;
      there = λ b k n. h.0.there b k (needed_front (of_messages ms ++ after) (s ∷ []) b
          (ap (λ l. needed_in l b) (append_assoc (of_messages ms) after (s ∷ [])) ∙ n));
      none = h.0.none;
    },
    snaps_more (earlier ++ entries m.segment) ms after h.1,
  )

  abbrev now : Core
  now = record old { submissions = ss; accepted = accepted; memory = run_entries meaning s.writes old.memory }

  accepted_good : has_place reading (length old.accepted) ≡ true → Good meaning reading script old
      → Good meaning reading script now
  accepted_good room g =
      let so = g.sound in
      moved_good meaning reading script old now (ap (λ l. of_messages old.posts ++ (of_messages old.completions ++ l))
      (accepted_line (old.batches ++ old.chunks))) g (record {
        sizes = λ four.
            let z = so.sizes four in
            let l = place_of reading (length old.accepted) four room in
            let more = one_more old.accepted begun in
            let was : length old.submissions ≡ suc (length ss) = ap length e in
            let c = z.3 in
            (z.0, z.1, omega (arith, more, l), omega (arith, was, c), z.4, z.5);
        finished = omega arith;
        since = so.since;
        allows = λ b i chunk a. a;
        live = λ r b l. l;
        within = all_append (λ r. Sublist r.rest r.segment.commands) old.accepted (begun ∷ []) so.within
            (sublist_self s.commands, tt);
        device = accepted_world so ∙ ap (λ l. run_world meaning (flat l) empty) (sym device_is);
        whole = subst (λ l. IsReordering (commands_of l) (old.ran ++ rests accepted)) (sym device_is)
            (accepted_whole so);
        order = accepted_order so;
        snaps = subst (SnapsRight meaning (flat old.taken) (old.posts ++ old.completions))
            (sym (of_running-append old.accepted (begun ∷ [])))
            (snaps_more (flat old.taken) (old.posts ++ old.completions) (of_running old.accepted) so.snaps);
      })

-- an Accept is a step that keeps the invariant
pub accept_good : (meaning : Meaning) (reading : Reading) (script : Script) (old new : Core)
    → Step meaning reading script old Accept new → Good meaning reading script old → Good meaning reading script new
accept_good meaning reading script old new p g = subst (Good meaning reading script) (sym p.4)
    (accepted_good meaning reading script old p.0 p.1 p.2 p.3 g)
