-- App hands the open chunk over: its commands, their barriers and its submit stand in the listing, and the next chunk
-- begins.
use Rattle.std.proofs.Common.{◌≡◌, ℕ, suc, ◌+◌, ◌<◌, ◌≤◌, true, false, cond, ◌||◌, List, [], ◌∷◌, ◌++◌, length, refl}
use Rattle.std.proofs.Common.{sym, ap, ◌∙◌, subst, arith, append_assoc, append-nil}
use Rattle.std.specs.List.{AllByRecursion}
use Rattle.std.proofs.lemmas.Bool.{ltb-true}
use Rattle.vk_types.specs.Memory.{zeros}
use Rattle.vk_types.specs.Effects.{Meaning}
use Rattle.vk_types.specs.Entries.{EntriesCovered, run_entries}
use Rattle.base_lemmas.proofs.Lists.{all_append, all_map, all_true, pairs_append}
use Rattle.core_model.specs.Script.{Turn, Script, at_start, in_order}
use Rattle.core_model.specs.Chunking.{is_due, cut}
use Rattle.core_model.specs.CoreState.{empty_segment, Segment, flat, Core, of_messages, of_running, segments, later}
use Rattle.core_model.specs.CoreState.{listed, taken_count, finished_count, handed_count, open_number}
use Rattle.core_model.specs.Readings.{Reading, Any_choices, First_choices, In_threads, has_place, may_hand_over}
use Rattle.core_model.specs.Adding.{has_block}
use Rattle.core_model.specs.AppActs.{handed_over}
use Rattle.core_model.specs.OtherParts.{used_in}
use Rattle.core_model.specs.Stands.{Stands, touches_block}
use Rattle.core_model.specs.Worlds.{empty, run_world}
use Rattle.core_model.specs.Listed.{IsListed}
use Rattle.core_model.specs.Invariant.{KnownIn, Numbered, IsShaped, BindsUses, IsFilled, listed_acts, turns_of}
use Rattle.core_model.specs.Invariant.{handed, NamesStaging, WritesElsewhere, Totals, Good}
use Rattle.core_model.proofs.Listing.Worlds.{flat-append}
use Rattle.core_model.proofs.Listing.CoreListing.{handed_listed, handed_counted}
use Rattle.core_model.proofs.Steps.Segments.{behind_six, segments_later, listed_split, turns_of-append, numbered_append}
use Rattle.core_model.proofs.Steps.ChunkMoves.{known_more}
use Rattle.core_model.proofs.Steps.QueueHeads.{one_more}

-- the host writes in the second segment to no staging block that the first names
abbrev pub Elsewhere : Segment → Segment → Type 0
Elsewhere s t = (b : ℕ) → has_block b s.staging ≡ true → AllByRecursion (λ x. touches_block x.act b ≡ false) t.writes

-- a chunk that is due is the next one that is cut
due_cut : (script : Script) (turns future : List Turn) → is_due script turns future ≡ true
    → cut script turns future ≡ turns ∷ cut script [] future
due_cut script turns [] h = ap (λ t. cond t (turns ∷ []) []) h
due_cut script turns (t ∷ ts) h = ap (λ d. cond d (turns ∷ cut script (t ∷ []) ts) (cut script (turns ++ t ∷ []) ts)) h

used_append_none : (xs : List Segment) (s : Segment) (b : ℕ) → has_block b s.bound ≡ false
    → used_in (xs ++ s ∷ []) b ≡ used_in xs b
used_append_none [] s b h = ap (λ v. v || false) h
used_append_none (x ∷ xs) s b h = ap (λ v. has_block b x.bound || v) (used_append_none xs s b h)

room_for_one : (reading : Reading) (core : Core) → has_place reading 4 ≡ false → may_hand_over reading core ≡ true
    → length core.chunks < 4
room_for_one Any_choices core four h = ltb-true (length core.chunks) 4 h
room_for_one First_choices core four h = ltb-true (length core.chunks) 4 h
room_for_one In_threads core four h = absurd (cc four)

more_on_the_way : (reading : Reading) (core : Core) → has_place reading 4 ≡ true → may_hand_over reading core ≡ true
    → handed_count core < taken_count core + 32
more_on_the_way Any_choices core many h = absurd (cc many)
more_on_the_way First_choices core many h = absurd (cc many)
more_on_the_way In_threads core many h = ltb-true (handed_count core) (taken_count core + 32) h

module _ (meaning : Meaning) (reading : Reading) (script : Script) (old : Core)
    (due : is_due script old.open_chunk.turns old.future ≡ true) (room : may_hand_over reading old ≡ true) where
  abbrev moved : Core
  moved = handed_over old

  moved_later : later moved ≡ later old ++ old.open_chunk ∷ []
  moved_later = behind_six (of_messages old.posts) (of_messages old.completions) (of_running old.accepted)
      old.submissions old.batches old.chunks (old.open_chunk ∷ [])

  moved_segments : segments moved ≡ segments old ++ empty_segment ∷ []
  moved_segments =
      segments_later moved ∙ ap (λ l. old.taken ++ (l ++ empty_segment ∷ [])) moved_later
      ∙ sym (append_assoc old.taken (later old ++ old.open_chunk ∷ []) (empty_segment ∷ []))
      ∙ ap (λ l. l ++ empty_segment ∷ []) (sym (segments_later old))

  moved_handed : handed moved ≡ handed old ++ old.open_chunk ∷ []
  moved_handed = ap (λ l. old.taken ++ l) moved_later ∙ sym (append_assoc old.taken (later old) (old.open_chunk ∷ []))

  moved_listed : listed moved ≡ listed old
  moved_listed = ap flat moved_segments ∙ flat-append (segments old) (empty_segment ∷ []) ∙ append-nil (listed old)

  moved_cut : turns_of (handed old) ++ cut script old.open_chunk.turns old.future
      ≡ turns_of (handed moved) ++ cut script [] old.future
  moved_cut =
      ap (λ l. turns_of (handed old) ++ l) (due_cut script old.open_chunk.turns old.future due)
      ∙ sym (append_assoc (turns_of (handed old)) (old.open_chunk.turns ∷ []) (cut script [] old.future))
      ∙ ap (λ l. l ++ cut script [] old.future) (sym (turns_of-append (handed old) (old.open_chunk ∷ [])))
      ∙ ap (λ l. turns_of l ++ cut script [] old.future) (sym moved_handed)

  moved_acts : listed_acts moved ≡ listed_acts old ++ old.open_chunk.commands
  moved_acts = append-nil (flat (old.taken ++ later moved)) ∙ ap (λ l. flat (old.taken ++ l)) moved_later
      ∙ ap flat (sym (segments_later old)) ∙ listed_split old

  moved_count : handed_count moved ≡ suc (handed_count old)
  moved_count = let l = one_more old.chunks old.open_chunk in omega (arith, l)

  handed_good : Good meaning reading script old → Good meaning reading script moved
  handed_good g = let s = g.sound in record {
    sound = record {
      position = s.position;
      cut = s.cut ∙ moved_cut;
      sizes = λ four.
          let z = s.sizes four in
          let r = room_for_one reading old four room in
          let len = one_more old.chunks old.open_chunk in (
            z.0,
            z.1,
            z.2,
            z.3,
            z.4,
            let y : length (old.chunks ++ old.open_chunk ∷ []) ≤ 4 =
                omega (arith, len, r) in y,
          );
      bounded = λ many. let n = moved_count in let l = more_on_the_way reading old many room in omega (arith, n, l);
      grows =
          subst (λ n. IsListed old.is_staging moved.listing [] old.contents old.recent [] n (listed_acts moved))
          (ap suc (sym moved_count))
          (subst (IsListed old.is_staging moved.listing [] old.contents old.recent [] (suc (open_number old)))
          (sym moved_acts)
          (handed_listed old.is_staging old.listing old.open_chunk.ops old.contents old.recent
          old.open_chunk.commands (open_number old) (listed_acts old) s.grows));
      counted = handed_counted _ (open_number old) old.listing old.open_chunk.ops old.fence old.host_acts old.epoch
          s.grows.of_device s.counted;
      fence = s.fence;
      covered = subst EntriesCovered (sym moved_listed) s.covered;
      known =
          let n = moved_count in
          subst (AllByRecursion (KnownIn moved)) (sym moved_listed)
          (all_map (KnownIn old) (KnownIn moved)
          (known_more (taken_count old) (finished_count old) (handed_count old) (taken_count moved)
          (finished_count moved) (handed_count moved) old.host_acts old.epoch old.recent old.owner old.owner
          (omega arith) (omega (arith, n)) (λ block i chunk a. a))
          (listed old) s.known);
      since = s.since;
      numbered = subst (Numbered 0) (sym moved_segments)
          (numbered_append 0 (length (segments old)) (segments old) (empty_segment ∷ []) (omega arith) s.numbered
          (tt, tt));
      shaped = subst (AllByRecursion IsShaped) (sym moved_segments)
          (all_append IsShaped (segments old) (empty_segment ∷ []) s.shaped ((tt, tt, tt), tt));
      binds = subst (AllByRecursion BindsUses) (sym moved_segments)
          (all_append BindsUses (segments old) (empty_segment ∷ []) s.binds ((tt, λ b h. h), tt));
      filled = subst (AllByRecursion IsFilled) (sym moved_listed) s.filled;
      within = s.within;
      device = s.device;
      whole = s.whole;
      order = s.order;
      snaps = s.snaps;
      copies = λ r b st is n i l.
          s.copies r b st is (ap (λ l. used_in l b) (sym moved_later)
          ∙ sym (used_append_none (later moved) empty_segment b refl) ∙ n) i l
          ∙ ap (λ l. run_entries meaning l zeros b i) (sym moved_listed);
      names = subst (AllByRecursion (NamesStaging script old.blocks)) (sym moved_segments)
          (all_append (NamesStaging script old.blocks) (segments old) (empty_segment ∷ []) s.names
          ((λ r b st is h. absurd (cc h)), tt));
      elsewhere = subst WritesElsewhere (sym moved_segments)
          (pairs_append Elsewhere (segments old) (empty_segment ∷ []) s.elsewhere (tt, tt)
          (all_true (λ s. AllByRecursion (Elsewhere s) (empty_segment ∷ [])) (λ s. ((λ b h. tt), tt))
          (segments old)));
    };
    stands = subst (λ l. Stands script (run_entries meaning l zeros) old.blocks
        (in_order meaning script old.past at_start)) (sym moved_listed) g.stands;
    live = g.live;
    totals = subst (λ l. Totals (run_world meaning l empty).counts old.commands
        (in_order meaning script old.past at_start)) (sym moved_listed) g.totals;
    replies = g.replies;
  }

-- App hands over a chunk that is due
pub hand_over_good : (meaning : Meaning) (reading : Reading) (script : Script) (old : Core)
    → is_due script old.open_chunk.turns old.future ≡ true → may_hand_over reading old ≡ true
    → Good meaning reading script old → Good meaning reading script (handed_over old)
hand_over_good meaning reading script old due room g = handed_good meaning reading script old due room g
