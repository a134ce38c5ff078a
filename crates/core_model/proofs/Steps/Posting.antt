-- App takes posts: the pages come back, and its copies of staging blocks are as new as it can tell. A fence then
-- stands in the listing.
use Rattle.std.proofs.Common.{◌≡◌, ℕ, zero, suc, ◌<◌, ◌≤◌, Bool, true, false, cond, max, ◌||◌, ◌==◌, List, [], ◌∷◌}
use Rattle.std.proofs.Common.{◌++◌, length, refl, sym, ap, ◌∙◌, subst, inl, inr, Option, Some, None, arith}
use Rattle.std.proofs.Common.{append_assoc, append-nil}
use Rattle.std.specs.List.{AllByRecursion}
use Rattle.std.proofs.lemmas.Bool.{cases_Bool, eqb-true}
use Rattle.vk_types.specs.declared.op.VkOp.TheVariants as op
use Rattle.base_lemmas.specs.Lists.{Pairwise, IsReordering}
use Rattle.vk_types.specs.Memory.{zeros}
use Rattle.vk_types.specs.Effects.{Meaning}
use Rattle.vk_types.specs.Entries.{EntriesCovered, run_entries}
use Rattle.base_lemmas.proofs.Lists.{all_back, all_map, all_both, pairs_back}
use Rattle.core_model.specs.Script.{Script, at_start, in_order}
use Rattle.core_model.specs.Chunking.{cut}
use Rattle.core_model.specs.CoreState.{Segment, entries, flat, Message, Owner, Unmade, Home, Returning, Spare, Live}
use Rattle.core_model.specs.CoreState.{Retired, Paged, Dropped, Core, of_messages, of_running, rests, waiting}
use Rattle.core_model.specs.CoreState.{segments, later, on_device, listed, taken_count, finished_count, handed_count}
use Rattle.core_model.specs.CoreState.{open_number}
use Rattle.core_model.specs.Readings.{Reading}
use Rattle.core_model.specs.Owners.{return_owner}
use Rattle.core_model.specs.TakingPosts.{newest_copy, with_post, TakesPosts, with_fence}
use Rattle.core_model.specs.Adding.{has_block}
use Rattle.core_model.specs.OtherParts.{needed_in, used_in}
use Rattle.core_model.specs.Stands.{Stands}
use Rattle.core_model.specs.Worlds.{empty, run_world}
use Rattle.core_model.specs.Listed.{IsListed}
use Rattle.core_model.specs.Invariant.{Allows, IsSince, IsLive, KnownIn, Numbered, IsShaped, BindsUses, IsFilled}
use Rattle.core_model.specs.Invariant.{SnapRight, SnapsRight, turns_of, commands_of, NamesStaging, WritesElsewhere}
use Rattle.core_model.specs.Invariant.{Totals, Sound, Good, listed_acts}
use Rattle.core_model.proofs.Listing.Worlds.{flat-append, of_messages-append}
use Rattle.core_model.proofs.Listing.CoreListing.{fence_listed, fence_counted}
use Rattle.core_model.proofs.Steps.Segments.{segments_later}
use Rattle.core_model.proofs.Steps.ChunkMoves.{known_more}
use Rattle.core_model.proofs.Steps.QueueHeads.{one_more}
use Rattle.core_model.proofs.Steps.Handing.{Elsewhere}
use Rattle.core_model.proofs.Steps.Turning.{told_good}
use Rattle.core_model.proofs.Steps.Completing.{left_alone, run_entries-append, Unused, segments_leave, none_needed}
use Rattle.core_model.proofs.Steps.Completing.{needed_front, filled_commands}

-- Owners as a post is taken -----------------------------------------------------------------------------------------

return_allows : (t f i chunk : ℕ) (o : Owner) → Allows t f o i chunk → Allows (suc t) f (return_owner (suc t) o) i chunk
return_allows t f i chunk Unmade a = a
return_allows t f i chunk (Home k) a = a
return_allows t f i chunk (Returning k) a = a
return_allows t f i chunk Spare a = omega (arith, a)
return_allows t f i chunk (Live buffer since bound) a = a
return_allows t f i chunk (Retired k since bound) a = a
return_allows t f i chunk Dropped a = a
return_allows t f i chunk (Paged k since bound) a =
    elim (cases_Bool (k == suc t)) [
      | inl e ↦ subst (λ c. Allows (suc t) f (cond c Spare (Paged k since bound)) i chunk) (sym e) (let l = a.0 in
          let s = eqb-true k (suc t) e in let z : chunk ≤ suc t = omega (arith, l, s) in z)
      | inr n ↦ subst (λ c. Allows (suc t) f (cond c Spare (Paged k since bound)) i chunk) (sym n) a
    ]

return_since : (n f : ℕ) (o : Owner) → IsSince f o → IsSince f (return_owner n o)
return_since n f Unmade s = tt
return_since n f (Home k) s = s
return_since n f (Returning k) s = s
return_since n f Spare s = tt
return_since n f (Live buffer since bound) s = s
return_since n f (Retired k since bound) s = s
return_since n f Dropped s = tt
return_since n f (Paged k since bound) s = by_chunk (k == n)
  where
    by_chunk : (c : Bool) → IsSince f (cond c Spare (Paged k since bound))
    by_chunk true = tt
    by_chunk false = s

return_live : (n r : ℕ) (o : Owner) → IsLive r o → IsLive r (return_owner n o)
return_live n r Unmade l = absurd l
return_live n r (Home k) l = absurd l
return_live n r (Returning k) l = absurd l
return_live n r Spare l = absurd l
return_live n r (Live buffer since bound) l = l
return_live n r (Retired k since bound) l = absurd l
return_live n r (Paged k since bound) l = absurd l
return_live n r Dropped l = absurd l

pub used_front : (xs ys : List Segment) (b : ℕ) → used_in (xs ++ ys) b ≡ false → used_in xs b ≡ false
used_front [] ys b h = refl
used_front (x ∷ xs) ys b h = by_head (has_block b x.bound) (λ k. used_front xs ys b k) h
  where
    by_head : (c : Bool) → (used_in (xs ++ ys) b ≡ false → used_in xs b ≡ false)
        → (c || used_in (xs ++ ys) b) ≡ false → (c || used_in xs b) ≡ false
    by_head true k h = absurd (cc h)
    by_head false k h = k h

-- A post is taken ---------------------------------------------------------------------------------------------------

module _ (meaning : Meaning) (reading : Reading) (script : Script) (old : Core) (m : Message) (ms : List Message)
    (e : old.posts ≡ m ∷ ms) where
  abbrev posted : Core
  posted = with_post m ms old

  posted_line : (z : List Segment) → (old.taken ++ m.segment ∷ []) ++ (of_messages ms ++ z)
      ≡ old.taken ++ (of_messages old.posts ++ z)
  posted_line z = append_assoc old.taken (m.segment ∷ []) (of_messages ms ++ z)
      ∙ ap (λ l. old.taken ++ (of_messages l ++ z)) (sym e)

  posted_segments : segments posted ≡ segments old
  posted_segments = posted_line (of_messages old.completions ++ (of_running old.accepted ++ waiting old))

  posted_handed : posted.taken ++ later posted ≡ old.taken ++ later old
  posted_handed =
      posted_line (of_messages old.completions ++ (of_running old.accepted
      ++ (old.submissions ++ (old.batches ++ old.chunks))))

  posted_device : on_device posted ≡ on_device old
  posted_device = posted_line (of_messages old.completions ++ of_running old.accepted)

  posted_flat : flat (old.taken ++ m.segment ∷ []) ≡ flat old.taken ++ entries m.segment
  posted_flat = flat-append old.taken (m.segment ∷ []) ∙ ap (λ l. flat old.taken ++ l) (append-nil (entries m.segment))

  posted_taken : taken_count posted ≡ suc (taken_count old)
  posted_taken = one_more old.taken m.segment

  posted_finished : finished_count posted ≡ finished_count old
  posted_finished = let t = posted_taken in let p : length old.posts ≡ suc (length ms) = ap length e in
      omega (arith, t, p)

  posted_count : handed_count posted ≡ handed_count old
  posted_count = let f = posted_finished in omega (arith, f)

  -- what stands behind the post's chunk
  abbrev behind : List Segment
  behind = later posted ++ old.open_chunk ∷ []

  old_later : later old ≡ m.segment ∷ later posted
  old_later = ap
      (λ l. of_messages l ++ (of_messages old.completions ++
      (of_running old.accepted ++ (old.submissions ++ (old.batches ++ old.chunks))))) e

  old_segments : segments old ≡ old.taken ++ m.segment ∷ behind
  old_segments = segments_later old ∙ ap (λ l. old.taken ++ (l ++ old.open_chunk ∷ [])) old_later

  behind_have : (P : Segment → Type 0) → AllByRecursion P (segments old) → AllByRecursion P behind
  behind_have P h = (let parts : AllByRecursion P (m.segment ∷ behind) =
      all_back P old.taken (m.segment ∷ behind) (subst (AllByRecursion P) old_segments h) in parts).1

  -- what stands behind the post and does not bind a block that the post names does not need it either
  behind_unneeded : Sound meaning reading script old → (b : ℕ) → has_block b m.segment.staging ≡ true
      → used_in behind b ≡ false → needed_in behind b ≡ false
  behind_unneeded so b h n =
      let elsewhere : AllByRecursion (Elsewhere m.segment) behind =
      (let pairs : Pairwise Elsewhere (m.segment ∷ behind) =
      pairs_back Elsewhere old.taken (m.segment ∷ behind) (subst (Pairwise Elsewhere) old_segments so.elsewhere)
      in pairs).0 in
      none_needed b behind
      (all_map (λ s. (IsShaped s × BindsUses s) × (AllByRecursion IsFilled s.commands × Elsewhere m.segment s))
      (Unused b) (λ s k. (k.0.0, k.0.1, k.1.0, k.1.1 b h)) behind
      (all_both (λ s. IsShaped s × BindsUses s) (λ s. AllByRecursion IsFilled s.commands × Elsewhere m.segment s) behind
      (all_both IsShaped BindsUses behind (behind_have IsShaped so.shaped) (behind_have BindsUses so.binds))
      (all_both (λ s. AllByRecursion IsFilled s.commands) (Elsewhere m.segment) behind
      (behind_have (λ s. AllByRecursion IsFilled s.commands) (filled_commands (segments old) so.filled))
      elsewhere)))
      n

  snaps_split : Sound meaning reading script old
      → SnapRight meaning (flat old.taken ++ entries m.segment) m
      (of_messages (ms ++ old.completions) ++ of_running old.accepted)
      × SnapsRight meaning (flat old.taken ++ entries m.segment) (ms ++ old.completions) (of_running old.accepted)
  snaps_split so = subst (λ l. SnapsRight meaning (flat old.taken) (l ++ old.completions) (of_running old.accepted))
      e so.snaps

  -- what the device has behind the post does not need a block that nothing behind it needs
  after_unneeded : (b : ℕ) → needed_in behind b ≡ false → needed_in
      (of_messages (ms ++ old.completions) ++ of_running old.accepted) b ≡ false
  after_unneeded b n =
      let d = of_messages ms in
      let g = of_messages old.completions in
      let r = of_running old.accepted in
      let q = old.submissions ++ (old.batches ++ old.chunks) in
      let z = old.open_chunk ∷ [] in
      let line : (d ++ (g ++ (r ++ q))) ++ z ≡ (of_messages (ms ++ old.completions) ++ r) ++ (q ++ z) =
      ap (λ l. l ++ z)
      (sym (append_assoc d g (r ++ q)) ∙ ap (λ l. l ++ (r ++ q)) (sym (of_messages-append ms old.completions))
      ∙ sym (append_assoc (of_messages (ms ++ old.completions)) r q))
      ∙ append_assoc (of_messages (ms ++ old.completions) ++ r) q z in
      needed_front (of_messages (ms ++ old.completions) ++ r) (q ++ z) b (ap (λ l. needed_in l b) (sym line) ∙ n)

  -- by the post's copy of a block
  copy_right : Sound meaning reading script old → (r b : ℕ) → script.is_staging r ≡ true → old.blocks r ≡ Some b
      → used_in behind b ≡ false → (i : ℕ) → i < script.size r
      → (o : Option (ℕ → ℕ)) → m.snaps b ≡ o → newest_copy o (old.copies b) i
      ≡ run_entries meaning (listed old) zeros b i
  copy_right so r b st is n i l (Some bytes) f =
      let right = (snaps_split so).0 in
      let named : has_block b m.segment.staging ≡ true =
      elim (cases_Bool (has_block b m.segment.staging)) [
        | inl t ↦ t
        | inr x ↦ absurd (let z : Some bytes ≡ None =
            sym f ∙ right.none b x in cc z)
      ] in
      right.right b bytes f i
      ∙ sym (left_alone meaning b i (flat behind) (segments_leave b i behind (behind_have IsShaped so.shaped)
      (behind_unneeded so b named n)) (run_entries meaning (flat old.taken ++ entries m.segment) zeros))
      ∙ ap (λ f. f b i) (sym (run_entries-append meaning (flat old.taken ++ entries m.segment) (flat behind) zeros))
      ∙ ap (λ l. run_entries meaning l zeros b i)
      (append_assoc (flat old.taken) (entries m.segment) (flat behind)
      ∙ sym (flat-append old.taken (m.segment ∷ behind)) ∙ ap flat (sym old_segments))
  copy_right so r b st is n i l None f =
      let right = (snaps_split so).0 in
      let names : NamesStaging script old.blocks m.segment =
      (let parts : AllByRecursion (NamesStaging script old.blocks) (m.segment ∷ behind) =
      all_back (NamesStaging script old.blocks) old.taken (m.segment ∷ behind)
      (subst (AllByRecursion (NamesStaging script old.blocks)) old_segments so.names) in parts).0 in
      let unbound : has_block b m.segment.bound ≡ false =
      elim (cases_Bool (has_block b m.segment.bound)) [
        | inl t ↦
            let named = names r b st is t in
            let there = right.there b named (after_unneeded b (behind_unneeded so b named n)) in
            absurd (let z : None ≡ Some there.0 = sym f ∙ there.1 in cc z)
        | inr x ↦ x
      ] in
      so.copies r b st is (ap (λ l. used_in (l ++ old.open_chunk ∷ []) b) old_later
      ∙ ap (λ c. c || used_in behind b) unbound ∙ n) i l

  posted_good : Good meaning reading script old → Good meaning reading script posted
  posted_good g = let s = g.sound in record {
    sound = record {
      position = s.position;
      cut = s.cut ∙ ap (λ l. turns_of l ++ cut script old.open_chunk.turns old.future) (sym posted_handed);
      sizes = λ four.
          let z = s.sizes four in
          let was : length old.posts ≡ suc (length ms) = ap length e in
          let c = z.0 in
          (omega (arith, was, c), z.1, z.2, z.3, z.4, z.5);
      bounded = λ many. let b = s.bounded many in let n = posted_count in let t = posted_taken in
          omega (arith, b, n, t);
      grows =
          subst (λ n. IsListed old.is_staging old.listing old.open_chunk.ops old.contents old.recent
          old.open_chunk.commands n (listed_acts posted)) (ap suc (sym posted_count))
          (subst (IsListed old.is_staging old.listing old.open_chunk.ops old.contents old.recent
          old.open_chunk.commands (open_number old))
          (ap (λ l. flat l ++ (old.open_chunk.reads ++ old.open_chunk.writes)) (sym posted_handed)) s.grows);
      counted = s.counted;
      fence = let f = s.fence in let l = posted_finished in omega (arith, f, l);
      covered = subst (λ l. EntriesCovered (flat l)) (sym posted_segments) s.covered;
      known =
          let f = posted_finished in
          let n = posted_count in
          subst (λ l. AllByRecursion (KnownIn posted) (flat l)) (sym posted_segments)
          (all_map (KnownIn old) (KnownIn posted)
          (known_more (taken_count old) (finished_count old) (handed_count old) (taken_count posted)
          (finished_count posted) (handed_count posted) old.host_acts old.epoch old.recent old.owner posted.owner
          (omega (arith, f)) (omega (arith, n))
          (λ b i chunk a.
          subst (λ t. Allows t (finished_count posted) (posted.owner b) i chunk) (sym posted_taken)
          (subst (λ f. Allows (suc (taken_count old)) f (posted.owner b) i chunk) (sym posted_finished)
          (return_allows (taken_count old) (finished_count old) i chunk (old.owner b) a))))
          (listed old) s.known);
      since = λ b. subst (λ f. IsSince f (posted.owner b)) (sym posted_finished)
          (return_since (suc (taken_count old)) (finished_count old) (old.owner b) (s.since b));
      numbered = subst (Numbered 0) (sym posted_segments) s.numbered;
      shaped = subst (AllByRecursion IsShaped) (sym posted_segments) s.shaped;
      binds = subst (AllByRecursion BindsUses) (sym posted_segments) s.binds;
      filled = subst (λ l. AllByRecursion IsFilled (flat l)) (sym posted_segments) s.filled;
      within = s.within;
      device = s.device ∙ ap (λ l. run_world meaning (flat l) empty) (sym posted_device);
      whole = subst (λ l. IsReordering (commands_of l) (old.ran ++ rests old.accepted)) (sym posted_device) s.whole;
      order = s.order;
      snaps = subst (λ l. SnapsRight meaning l (ms ++ old.completions) (of_running old.accepted)) (sym posted_flat)
          (snaps_split s).1;
      copies = λ r b st is n i l. copy_right s r b st is n i l (m.snaps b) refl
          ∙ ap (λ l. run_entries meaning (flat l) zeros b i) (sym posted_segments);
      names = subst (AllByRecursion (NamesStaging script old.blocks)) (sym posted_segments) s.names;
      elsewhere = subst WritesElsewhere (sym posted_segments) s.elsewhere;
    };
    stands = subst (λ l. Stands script (run_entries meaning (flat l) zeros) old.blocks
        (in_order meaning script old.past at_start)) (sym posted_segments) g.stands;
    live = λ r b is. return_live (suc (taken_count old)) r (old.owner b) (g.live r b is);
    totals = subst (λ l. Totals (run_world meaning (flat l) empty).counts old.commands
        (in_order meaning script old.past at_start)) (sym posted_segments) g.totals;
    replies = g.replies;
  }

-- A fence -----------------------------------------------------------------------------------------------------------

-- a fence of a finished chunk stands behind the listing
pub fence_good : (meaning : Meaning) (reading : Reading) (script : Script) (old : Core) (k : ℕ)
    → k ≤ finished_count old → Good meaning reading script old
    → Good meaning reading script (record old { listing = old.listing ++ op.Fence k ∷ []; fence = max old.fence k })
fence_good meaning reading script old k l g =
    let s = g.sound in
    told_good meaning reading script old (old.listing ++ op.Fence k ∷ []) (max old.fence k) old.ended old.replies
    (fence_listed old.is_staging old.listing old.open_chunk.ops old.contents old.recent old.open_chunk.commands
    (open_number old) (listed_acts old) s.grows k (omega (arith, l)))
    (fence_counted k old.listing old.open_chunk.ops old.fence old.host_acts old.epoch s.counted)
    (let f = s.fence in omega (arith, f, l)) g.replies g

takes_good : (meaning : Meaning) (reading : Reading) (script : Script) (n : ℕ) (old mid : Core)
    → TakesPosts n old mid → Good meaning reading script old → Good meaning reading script mid
takes_good meaning reading script zero old mid e g = subst (Good meaning reading script) (sym e) g
takes_good meaning reading script (suc n) old mid t g = takes_good meaning reading script n (with_post t.0 t.1 old)
    mid t.3 (posted_good meaning reading script old t.0 t.1 t.2 g)

fenced_good : (meaning : Meaning) (reading : Reading) (script : Script) (n : ℕ) (core : Core)
    → Good meaning reading script core → Good meaning reading script (with_fence n core)
fenced_good meaning reading script zero core g = g
fenced_good meaning reading script (suc n) core g = fence_good meaning reading script core (taken_count core)
    (omega arith) g

-- App takes posts, and the fence of the newest stands in the listing
pub posts_good : (meaning : Meaning) (reading : Reading) (script : Script) (n : ℕ) (old mid : Core)
    → TakesPosts n old mid → Good meaning reading script old → Good meaning reading script (with_fence n mid)
posts_good meaning reading script n old mid t g = fenced_good meaning reading script n mid
    (takes_good meaning reading script n old mid t g)
