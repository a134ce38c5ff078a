-- What is known of the open chunk and of what was listed, with the chunks before it; and that this is all that a step
-- of App owes which adds to them.
use Rattle.std.proofs.Common.{◌≡◌, ℕ, suc, ◌+◌, ◌≤◌, true, List, [], ◌∷◌, ◌++◌, length, refl, sym, ap, ◌∙◌, subst}
use Rattle.std.proofs.Common.{Some, arith, append-nil, length-append}
use Rattle.std.specs.List.{AllByRecursion}
use Rattle.std.proofs.lemmas.Bool.{both_ways}
use Rattle.dx_types.specs.declared.range.Range.{Range}
use Rattle.vk_types.specs.declared.message.Placed.{Placed}
use Rattle.vk_types.specs.declared.message.QueryMark.{QueryMark}
use Rattle.vk_types.specs.declared.op.VkOp.{VkOp}
use Rattle.vk_types.specs.Effects.{Meaning, Act, is_host}
use Rattle.vk_types.specs.Entries.{Entry, EntriesCovered}
use Rattle.base_lemmas.proofs.Lists.{all_front, all_back, all_append, all_map, pairs_front, pairs_append, all_across}
use Rattle.core_model.specs.Script.{Turn, Script}
use Rattle.core_model.specs.Chunking.{chunks, cut}
use Rattle.core_model.specs.CoreState.{Segment, entries, flat, Owner, Core, segments, later, listed, taken_count}
use Rattle.core_model.specs.CoreState.{finished_count, handed_count, open_number}
use Rattle.core_model.specs.Readings.{Reading}
use Rattle.core_model.specs.Adding.{has_block, new_entry}
use Rattle.core_model.specs.Listed.{IsListed, IsCounted}
use Rattle.core_model.specs.Invariant.{Allows, IsSince, KnownIn, Numbered, IsShaped, BindsUses, IsFilled, CopiesRight}
use Rattle.core_model.specs.Invariant.{NamesStaging, WritesElsewhere, listed_acts, turns_of, handed, Sound}
use Rattle.core_model.proofs.Listing.Worlds.{flat-append}
use Rattle.core_model.proofs.Steps.Segments.{handed_length, numbered_append, numbered_front}
use Rattle.core_model.proofs.Steps.Handing.{Elsewhere}
use Rattle.core_model.proofs.Steps.Turning.{segments_handed, used_last}
use Rattle.core_model.proofs.Steps.Binding.{used_more_last, has_more}
use Rattle.core_model.proofs.Steps.Destroying.{known_kept}

-- what is known of an entry stays known as the host acts once more
pub known_still : (core : Core) (x : Entry) → KnownIn core x
    → KnownIn (record core { host_acts = suc core.host_acts }) x
known_still core x k = record {
  in_chunk = k.in_chunk;
  fenced = k.fenced;
  counted = λ h. let l = k.counted h in omega (arith, l);
  below = k.below;
  recent = k.recent;
  owned = k.owned;
}

-- and so it is of the entry of that act
pub known_act : (core : Core) (a : Act) → is_host a ≡ true → core.fence ≤ finished_count core
    → KnownIn (record core { host_acts = suc core.host_acts }) (new_entry core a)
known_act core a host finished = record {
  in_chunk = omega arith;
  fenced = λ h. finished;
  counted = λ h. omega arith;
  below = λ device. absurd (both_ways (is_host a) device host);
  recent = λ device. absurd (both_ways (is_host a) device host);
  owned = λ device. absurd (both_ways (is_host a) device host);
}

-- the chunks that were handed over
abbrev pub before_open : Core → List Segment
before_open core = core.taken ++ later core

-- all entries: those of the chunks that were handed over, and those of the open chunk
abbrev pub opened_entries : Core → List Entry
opened_entries core = flat (before_open core) ++ entries core.open_chunk

pub listed_open : (core : Core) → listed core ≡ opened_entries core
listed_open core =
    ap flat (segments_handed core) ∙ flat-append (before_open core) (core.open_chunk ∷ [])
    ∙ ap (λ l. flat (before_open core) ++ l) (append-nil (entries core.open_chunk))

pub record Opened (meaning : Meaning) (script : Script) (core : Core) : Type 0 where
  pub grows : IsListed core.is_staging core.listing core.open_chunk.ops core.contents core.recent
      core.open_chunk.commands (open_number core) (listed_acts core)
  pub counted : IsCounted core.listing core.open_chunk.ops core.fence core.host_acts core.epoch
  pub fence : core.fence ≤ finished_count core
  pub covered : EntriesCovered (opened_entries core)
  pub known : AllByRecursion (KnownIn core) (flat (before_open core))
  pub known_open : AllByRecursion (KnownIn core) (entries core.open_chunk)
  pub since : (b : ℕ) → IsSince (finished_count core) (core.owner b)
  pub numbered : AllByRecursion (λ x. x.chunk ≡ open_number core) (entries core.open_chunk)
  pub shaped : IsShaped core.open_chunk
  pub binds : BindsUses core.open_chunk
  pub filled : AllByRecursion IsFilled (flat (before_open core))
  pub filled_open : AllByRecursion IsFilled (entries core.open_chunk)
  pub copies : CopiesRight meaning script (opened_entries core) (later core ++ core.open_chunk ∷ []) core.copies
      core.blocks
  pub names : AllByRecursion (NamesStaging script core.blocks) (before_open core)
  pub names_open : NamesStaging script core.blocks core.open_chunk
  pub elsewhere : AllByRecursion (λ s. Elsewhere s core.open_chunk) (before_open core)

-- the open chunk's number is one more than the number of chunks before it
pub front_length : (core : Core) → length (before_open core) ≡ handed_count core
front_length core = let l = length-append core.taken (later core) in let h = handed_length core in omega (arith, l, h)

last_of : {A : Type 0} (P : A → Type 0) (xs : List A) (x : A) → AllByRecursion P (xs ++ x ∷ []) → P x
last_of P xs x h = (let z : AllByRecursion P (x ∷ []) = all_back P xs (x ∷ []) h in z).0

-- of what holds of all
module _ (meaning : Meaning) (reading : Reading) (script : Script) (core : Core)
    (s : Sound meaning reading script core) where
  last_segment : (P : Segment → Type 0) → AllByRecursion P (segments core) → P core.open_chunk
  last_segment P h = last_of P (before_open core) core.open_chunk (subst (AllByRecursion P) (segments_handed core) h)

  front_segments : (P : Segment → Type 0) → AllByRecursion P (segments core) → AllByRecursion P (before_open core)
  front_segments P h = all_front P (before_open core) (core.open_chunk ∷ [])
      (subst (AllByRecursion P) (segments_handed core) h)

  front_entries : (P : Entry → Type 0) → AllByRecursion P (listed core) → AllByRecursion P (flat (before_open core))
  front_entries P h = all_front P (flat (before_open core)) (entries core.open_chunk)
      (subst (AllByRecursion P) (listed_open core) h)

  open_entries : (P : Entry → Type 0) → AllByRecursion P (listed core) → AllByRecursion P (entries core.open_chunk)
  open_entries P h = all_back P (flat (before_open core)) (entries core.open_chunk)
      (subst (AllByRecursion P) (listed_open core) h)

  number_of : (k : ℕ) (xs : List Segment) (x : Segment) → Numbered k (xs ++ x ∷ [])
      → AllByRecursion (λ e. e.chunk ≡ suc (k + length xs)) (entries x)
  number_of k [] x h = all_map (λ e. e.chunk ≡ suc k) (λ e. e.chunk ≡ suc (k + 0)) (λ e q. omega (arith, q))
      (entries x) h.0
  number_of k (y ∷ ys) x h =
      all_map (λ e. e.chunk ≡ suc (suc k + length ys)) (λ e. e.chunk ≡ suc (k + suc (length ys)))
      (λ e q. omega (arith, q)) (entries x) (number_of (suc k) ys x h.1)

  pub opened : Opened meaning script core
  opened = record {
    grows = s.grows;
    counted = s.counted;
    fence = s.fence;
    covered = subst EntriesCovered (listed_open core) s.covered;
    known = front_entries (KnownIn core) s.known;
    known_open = open_entries (KnownIn core) s.known;
    since = s.since;
    numbered =
        let n = front_length core in
        all_map (λ e. e.chunk ≡ suc (0 + length (before_open core))) (λ e. e.chunk ≡ open_number core)
        (λ e q. omega (arith, q, n)) (entries core.open_chunk)
        (number_of 0 (before_open core) core.open_chunk (subst (Numbered 0) (segments_handed core) s.numbered));
    shaped = last_segment IsShaped s.shaped;
    binds = last_segment BindsUses s.binds;
    filled = front_entries IsFilled s.filled;
    filled_open = open_entries IsFilled s.filled;
    copies = subst (λ l. CopiesRight meaning script l (later core ++ core.open_chunk ∷ []) core.copies core.blocks)
        (listed_open core) s.copies;
    names = front_segments (NamesStaging script core.blocks) s.names;
    names_open = last_segment (NamesStaging script core.blocks) s.names;
    elsewhere =
        all_map (λ s. AllByRecursion (Elsewhere s) (core.open_chunk ∷ [])) (λ s. Elsewhere s core.open_chunk)
        (λ s h. h.0) (before_open core)
        (all_across Elsewhere (before_open core) (core.open_chunk ∷ [])
        (subst WritesElsewhere (segments_handed core) s.elsewhere));
  }

-- the new state's parts that App changes, in the old state
abbrev pub with_parts : Core → Core → Core
with_parts old new = record old {
  past = new.past;
  future = new.future;
  open_chunk = new.open_chunk;
  blocks = new.blocks;
  owner = new.owner;
  board = new.board;
  pool = new.pool;
  is_staging = new.is_staging;
  listing = new.listing;
  contents = new.contents;
  fence = new.fence;
  epoch = new.epoch;
  host_acts = new.host_acts;
  commands = new.commands;
  recent = new.recent;
  copies = new.copies;
  replies = new.replies;
}

module _ (meaning : Meaning) (reading : Reading) (script : Script) (old new : Core)
    (position : new.past ++ new.future ≡ script.turns) (cuts : chunks script
    ≡ turns_of (handed old) ++ cut script new.open_chunk.turns new.future) where
  abbrev now : Core
  now = with_parts old new

  abbrev front : List Segment
  front = before_open old

  all_segments : (P Q : Segment → Type 0) → AllByRecursion Q front → Q new.open_chunk → AllByRecursion Q (segments now)
  all_segments P Q f o = subst (AllByRecursion Q) (sym (segments_handed now))
      (all_append Q front (new.open_chunk ∷ []) f (o, tt))

  -- a step of App that adds to the open chunk and the listing keeps the rest
  pub closed : Sound meaning reading script old → Opened meaning script now → Sound meaning reading script now
  closed s o =
      let old_front : (P : Segment → Type 0) → AllByRecursion P (segments old) → AllByRecursion P front =
      λ P h. all_front P front (old.open_chunk ∷ []) (subst (AllByRecursion P) (segments_handed old) h) in
      record {
        position = position;
        cut = cuts;
        sizes = s.sizes;
        bounded = s.bounded;
        grows = o.grows;
        counted = o.counted;
        fence = o.fence;
        covered = subst EntriesCovered (sym (listed_open now)) o.covered;
        known = subst (AllByRecursion (KnownIn now)) (sym (listed_open now))
            (all_append (KnownIn now) (flat front) (entries new.open_chunk) o.known o.known_open);
        since = o.since;
        numbered =
            let n = front_length old in
            subst (Numbered 0) (sym (segments_handed now))
            (numbered_append 0 (length front) front (new.open_chunk ∷ []) (omega arith)
            (numbered_front 0 front (old.open_chunk ∷ []) (subst (Numbered 0) (segments_handed old) s.numbered)) (
              all_map (λ e. e.chunk ≡ open_number old) (λ e. e.chunk ≡ suc (length front))
                  (λ e q. omega (arith, q, n)) (entries new.open_chunk) o.numbered,
              tt,
            ));
        shaped = all_segments IsShaped IsShaped (old_front IsShaped s.shaped) o.shaped;
        binds = all_segments BindsUses BindsUses (old_front BindsUses s.binds) o.binds;
        filled = subst (AllByRecursion IsFilled) (sym (listed_open now))
            (all_append IsFilled (flat front) (entries new.open_chunk) o.filled o.filled_open);
        within = s.within;
        device = s.device;
        whole = s.whole;
        order = s.order;
        snaps = s.snaps;
        copies = subst (λ l. CopiesRight meaning script l (later now ++ new.open_chunk ∷ []) now.copies now.blocks)
            (sym (listed_open now)) o.copies;
        names = all_segments (NamesStaging script now.blocks) (NamesStaging script now.blocks) o.names o.names_open;
        elsewhere =
            subst WritesElsewhere (sym (segments_handed now))
            (pairs_append Elsewhere front (new.open_chunk ∷ [])
            (pairs_front Elsewhere front (old.open_chunk ∷ [])
            (subst WritesElsewhere (segments_handed old) s.elsewhere)) (tt, tt)
            (all_map (λ s. Elsewhere s new.open_chunk) (λ s. AllByRecursion (Elsewhere s) (new.open_chunk ∷ []))
            (λ s h. (h, tt)) front o.elsewhere));
      }

-- What changes little -----------------------------------------------------------------------------------------------

module _ (meaning : Meaning) (script : Script) (core : Core) (o : Opened meaning script core) where
  -- turns, places and marks of queries
  pub opened_turn : (past future turns : List Turn) (placed : List Placed) (queries : List QueryMark)
      → Opened meaning script (record core {
        past = past;
        future = future;
        open_chunk =
            record core.open_chunk { turns = turns; placed = placed; queries = queries };
      })
  opened_turn past future turns placed queries = record {
    grows = o.grows;
    counted = o.counted;
    fence = o.fence;
    covered = o.covered;
    known = o.known;
    known_open = o.known_open;
    since = o.since;
    numbered = o.numbered;
    shaped = o.shaped;
    binds = o.binds;
    filled = o.filled;
    filled_open = o.filled_open;
    copies = λ r b st is n i l.
        o.copies r b st is (used_last (later core) core.open_chunk
        (record core.open_chunk { turns = turns; placed = placed; queries = queries }) b refl ∙ n) i l;
    names = o.names;
    names_open = o.names_open;
    elsewhere = o.elsewhere;
  }

  -- owners that allow all chunks up to the open one still
  pub opened_owner : (own : ℕ → Owner) (board : _) (pool : _)
      → ((b i chunk : ℕ) → chunk ≤ open_number core → Allows (taken_count core) (finished_count core) (core.owner b)
      i chunk → Allows (taken_count core) (finished_count core) (own b) i chunk)
      → ((b : ℕ) → IsSince (finished_count core) (own b))
      → Opened meaning script (record core { owner = own; board = board; pool = pool })
  opened_owner own board pool keep since =
      let new = record core { owner = own; board = board; pool = pool } in
      let each = known_kept (taken_count core) (finished_count core) (handed_count core) core.host_acts core.epoch
      core.recent core.owner own keep in
      record {
        grows = o.grows;
        counted = o.counted;
        fence = o.fence;
        covered = o.covered;
        known = all_map (KnownIn core) (KnownIn new) each (flat (before_open core)) o.known;
        known_open = all_map (KnownIn core) (KnownIn new) each (entries core.open_chunk) o.known_open;
        since = since;
        numbered = o.numbered;
        shaped = o.shaped;
        binds = o.binds;
        filled = o.filled;
        filled_open = o.filled_open;
        copies = o.copies;
        names = o.names;
        names_open = o.names_open;
        elsewhere = o.elsewhere;
      }

  -- ranges that are bound, and the staging blocks that are named with them; and pages
  pub opened_bound : (more staging : List Range) (pages : _)
      → ((r b : ℕ) → script.is_staging r ≡ true → core.blocks r ≡ Some b
      → has_block b (core.open_chunk.bound ++ more) ≡ true → has_block b staging ≡ true)
      → ((b : ℕ) → has_block b staging ≡ true → has_block b (core.open_chunk.bound ++ more) ≡ true)
      → Opened meaning script
      (record core {
        open_chunk = record core.open_chunk {
          bound = core.open_chunk.bound ++ more;
          staging =
              staging;
          pages = pages;
        };
      })
  opened_bound more staging pages names bound =
      let new = record core.open_chunk { bound = core.open_chunk.bound ++ more; staging = staging; pages = pages } in
      record {
        grows = o.grows;
        counted = o.counted;
        fence = o.fence;
        covered = o.covered;
        known = o.known;
        known_open = o.known_open;
        since = o.since;
        numbered = o.numbered;
        shaped = o.shaped;
        binds = (
          all_map _ _ (λ x k dev b i t. has_more b core.open_chunk.bound more (k dev b i t))
              core.open_chunk.commands o.binds.0,
          bound,
        );
        filled = o.filled;
        filled_open = o.filled_open;
        copies = λ r b st is n i l. o.copies r b st is (used_more_last (later core) core.open_chunk new b
            (has_more b core.open_chunk.bound more) n) i l;
        names = o.names;
        names_open = names;
        elsewhere = o.elsewhere;
      }

  -- a listing with a fence more
  pub opened_fenced : (listing : List VkOp) (fence : ℕ)
      → IsListed core.is_staging listing core.open_chunk.ops core.contents core.recent core.open_chunk.commands
      (open_number core) (listed_acts core)
      → IsCounted listing core.open_chunk.ops fence core.host_acts core.epoch → fence ≤ finished_count core
      → Opened meaning script (record core { listing = listing; fence = fence })
  opened_fenced listing fence grows counted below = record {
    grows = grows;
    counted = counted;
    fence = below;
    covered = o.covered;
    known = o.known;
    known_open = o.known_open;
    since = o.since;
    numbered = o.numbered;
    shaped = o.shaped;
    binds = o.binds;
    filled = o.filled;
    filled_open = o.filled_open;
    copies = o.copies;
    names = o.names;
    names_open = o.names_open;
    elsewhere = o.elsewhere;
  }
