-- Steps that move chunks from one part to the next, or run a command: what they leave alone, and what they owe.
use Rattle.std.proofs.Common.{◌≡◌, ℕ, suc, ◌+◌, ◌≤◌, false, List, [], ◌∷◌, ◌++◌, length, sym, ap, ◌∙◌, subst, arith}
use Rattle.std.specs.List.{AllByRecursion}
use Rattle.vk_types.specs.declared.command.Command as c
use Rattle.base_lemmas.specs.Lists.{IsReordering, Sublist}
use Rattle.vk_types.specs.Memory.{zeros}
use Rattle.vk_types.specs.Effects.{Meaning}
use Rattle.vk_types.specs.Entries.{Entry, EntriesCovered, EntriesKeep, run_entries}
use Rattle.base_lemmas.proofs.Lists.{all_map}
use Rattle.core_model.specs.Script.{Script, at_start, in_order}
use Rattle.core_model.specs.Chunking.{cut}
use Rattle.core_model.specs.CoreState.{flat, Owner, Core, of_running}
use Rattle.core_model.specs.CoreState.{rests, segments, later, on_device, listed, taken_count, finished_count}
use Rattle.core_model.specs.CoreState.{handed_count, open_number}
use Rattle.core_model.specs.Readings.{Reading}
use Rattle.core_model.specs.OtherParts.{used_in}
use Rattle.core_model.specs.Stands.{Stands}
use Rattle.core_model.specs.Worlds.{empty, run_world}
use Rattle.core_model.specs.Listed.{IsListed}
use Rattle.core_model.specs.Invariant.{Allows, IsSince, IsLive, Known, KnownIn, Numbered, IsShaped, BindsUses}
use Rattle.core_model.specs.Invariant.{IsFilled, SnapsRight, turns_of, commands_of, IsSized, NamesStaging}
use Rattle.core_model.specs.Invariant.{WritesElsewhere, Totals, Good, listed_acts}
use Rattle.core_model.proofs.Steps.Segments.{segments_later, handed_length}

-- what is known stays known as counts grow
pub known_more : (t f h t' f' h' w e : ℕ) (rs : List c.Command) (own own' : ℕ → Owner) → f ≤ f' → h ≤ h'
    → ((block i chunk : ℕ) → Allows t f (own block) i chunk → Allows t' f' (own' block) i chunk)
    → (x : Entry) → Known t f h w e rs own x → Known t' f' h' w e rs own' x
known_more t f h t' f' h' w e rs own own' lf lh keep x k = record {
  in_chunk = let e = k.in_chunk in omega (arith, e);
  fenced = λ e. let l = k.fenced e in omega (arith, l);
  counted = k.counted;
  below = k.below;
  recent = k.recent;
  owned = λ h block i u. keep block i x.chunk (k.owned h block i u);
}

-- the core with what changes as chunks move on
abbrev pub moved : Core → Core → Core
moved old new = record old {
  posts = new.posts;
  completions = new.completions;
  accepted = new.accepted;
  submissions = new.submissions;
  batches = new.batches;
  chunks = new.chunks;
  requested = new.requested;
  modules = new.modules;
  memory = new.memory;
  counts = new.counts;
  ran = new.ran;
  owner = new.owner;
  board = new.board;
}

-- they stay in one line, so none is lost
pub same_count : (old new : Core) → later new ≡ later old → handed_count (moved old new) ≡ handed_count old
same_count old new e = handed_length (moved old new) ∙ ap (λ l. length old.taken + length l) e ∙ sym (handed_length old)

module _ (meaning : Meaning) (reading : Reading) (script : Script) (old new : Core) (e : later new ≡ later old) where
  abbrev now : Core
  now = moved old new

  -- what such a step owes
  pub record Owes : Type 0 where
    pub sizes : IsSized reading now
    pub finished : finished_count old ≤ finished_count now
    pub since : (b : ℕ) → IsSince (finished_count now) (new.owner b)
    pub allows : (block i chunk : ℕ) → Allows (taken_count old) (finished_count old) (old.owner block) i chunk
        → Allows (taken_count old) (finished_count now) (new.owner block) i chunk
    pub live : (r b : ℕ) → IsLive r (old.owner b) → IsLive r (new.owner b)
    pub within : AllByRecursion (λ r. Sublist r.rest r.segment.commands) new.accepted
    pub device : run_world meaning (rests new.accepted) (record { memory = new.memory; counts = new.counts })
        ≡ run_world meaning (flat (on_device now)) empty
    pub whole : IsReordering (commands_of (on_device now)) (new.ran ++ rests new.accepted)
    pub order : EntriesKeep (new.ran ++ rests new.accepted)
    pub snaps : SnapsRight meaning (flat old.taken) (new.posts ++ new.completions) (of_running new.accepted)

  same_segments : segments now ≡ segments old
  same_segments = segments_later now ∙ ap (λ l. old.taken ++ (l ++ old.open_chunk ∷ [])) e
      ∙ sym (segments_later old)

  pub moved_good : Good meaning reading script old → Owes → Good meaning reading script now
  moved_good g o = let s = g.sound in record {
    sound = record {
      position = s.position;
      cut = s.cut ∙ ap (λ l. turns_of (old.taken ++ l) ++ cut script old.open_chunk.turns old.future) (sym e);
      sizes = o.sizes;
      bounded = λ many. let b = s.bounded many in let n = same_count old new e in omega (arith, b, n);
      grows =
          subst (λ n. IsListed old.is_staging old.listing old.open_chunk.ops old.contents old.recent
          old.open_chunk.commands n (listed_acts now)) (ap suc (sym (same_count old new e)))
          (subst (IsListed old.is_staging old.listing old.open_chunk.ops old.contents old.recent
          old.open_chunk.commands (open_number old))
          (ap (λ l. flat (old.taken ++ l) ++ (old.open_chunk.reads ++ old.open_chunk.writes)) (sym e)) s.grows);
      counted = s.counted;
      fence = let f = s.fence in let l = o.finished in omega (arith, f, l);
      covered = subst (λ l. EntriesCovered (flat l)) (sym same_segments) s.covered;
      known =
          let n = same_count old new e in
          subst (λ l. AllByRecursion (KnownIn now) (flat l)) (sym same_segments)
          (all_map (KnownIn old) (KnownIn now)
          (known_more (taken_count old) (finished_count old) (handed_count old) (taken_count old)
          (finished_count now) (handed_count now) old.host_acts old.epoch old.recent old.owner new.owner
          o.finished (omega (arith, n)) o.allows)
          (listed old) s.known);
      since = o.since;
      numbered = subst (Numbered 0) (sym same_segments) s.numbered;
      shaped = subst (AllByRecursion IsShaped) (sym same_segments) s.shaped;
      binds = subst (AllByRecursion BindsUses) (sym same_segments) s.binds;
      filled = subst (λ l. AllByRecursion IsFilled (flat l)) (sym same_segments) s.filled;
      within = o.within;
      device = o.device;
      whole = o.whole;
      order = o.order;
      snaps = o.snaps;
      copies = λ r b st is n i l.
          s.copies r b st is (subst (λ l. used_in (l ++ old.open_chunk ∷ []) b ≡ false) e n) i l
          ∙ ap (λ l. run_entries meaning (flat l) zeros b i) (sym same_segments);
      names = subst (AllByRecursion (NamesStaging script old.blocks)) (sym same_segments) s.names;
      elsewhere = subst WritesElsewhere (sym same_segments) s.elsewhere;
    };
    stands = subst (λ l. Stands script (run_entries meaning (flat l) zeros) old.blocks
        (in_order meaning script old.past at_start)) (sym same_segments) g.stands;
    live = λ r b is. o.live r b (g.live r b is);
    totals = subst (λ l. Totals (run_world meaning (flat l) empty).counts old.commands
        (in_order meaning script old.past at_start)) (sym same_segments) g.totals;
    replies = g.replies;
  }
