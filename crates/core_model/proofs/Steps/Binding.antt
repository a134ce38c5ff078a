-- An item that binds ranges and runs nothing: what changes bindings, and what a query's predicate skips.
use Rattle.std.proofs.Common.{◌≡◌, ℕ, ◌<◌, ◌≤◌, Bool, true, false, cond, not, ◌&&◌, ◌||◌, ◌==◌, List, [], ◌∷◌, ◌++◌}
use Rattle.std.proofs.Common.{map, refl, sym, ap, ◌∙◌, subst, inl, inr, ◌⊎◌, Option, Some, None, arith}
use Rattle.std.specs.List.{AllByRecursion}
use Rattle.std.proofs.lemmas.Bool.{cases_Bool, or_cases, eqb-true, eq-eqb}
use Rattle.std.proofs.lemmas.List.Folds.{list_any-append}
use Rattle.dx_types.specs.declared.range.Range.{Range}
use Rattle.vk_types.specs.Memory.{zeros, range, or_zero}
use Rattle.vk_types.specs.Effects.{Meaning}
use Rattle.vk_types.specs.Entries.{EntriesCovered, run_entries}
use Rattle.base_lemmas.proofs.Lists.{all_map}
use Rattle.core_model.specs.Script.{Set_state, Turn, Item, Script, at_start, in_order}
use Rattle.core_model.specs.Chunking.{is_due}
use Rattle.core_model.specs.Renaming.{BlockMap, block_of, range_on}
use Rattle.core_model.specs.CoreState.{Segment, flat, Owner, Unmade, Home, Returning, Spare, Live, Retired, Paged}
use Rattle.core_model.specs.CoreState.{Dropped, Core, segments, later, listed, taken_count, finished_count}
use Rattle.core_model.specs.CoreState.{handed_count}
use Rattle.core_model.specs.Readings.{Reading}
use Rattle.core_model.specs.Owners.{in_ranges, bind_owner, is_block}
use Rattle.core_model.specs.Adding.{has_block, placed_at, add_staging, without_block}
use Rattle.core_model.specs.AppActs.{TakesTurn}
use Rattle.core_model.specs.OtherParts.{used_in}
use Rattle.core_model.specs.Stands.{Stands}
use Rattle.core_model.specs.Worlds.{empty, run_world}
use Rattle.core_model.specs.Lawful.{Fits, IsLawful}
use Rattle.core_model.specs.Invariant.{Allows, IsSince, IsLive, KnownIn, Numbered, IsShaped, BindsUses, IsFilled}
use Rattle.core_model.specs.Invariant.{NamesStaging, WritesElsewhere, Totals, Good}
use Rattle.core_model.proofs.Steps.ChunkMoves.{known_more}
use Rattle.core_model.proofs.Steps.Handing.{Elsewhere}
use Rattle.core_model.proofs.Steps.Turning.{all_last, pairs_last, numbered_last, flat_last, segments_handed}
use Rattle.core_model.proofs.Steps.Turning.{in_order-append, here, behind_turn, cut_on}

-- Owners as ranges are bound ----------------------------------------------------------------------------------------

pub or_left : (a b : Bool) → a ≡ true → (a || b) ≡ true
or_left true b e = refl
or_left false b e = absurd (cc e)

pub or_right : (a b : Bool) → b ≡ true → (a || b) ≡ true
or_right true b e = refl
or_right false b e = e

bound_more : (chunk since : ℕ) (b c : Bool) → (chunk ≤ since) ⊎ (b ≡ true) → (chunk ≤ since) ⊎ ((b || c) ≡ true)
bound_more chunk since b c (inl l) = inl l
bound_more chunk since b c (inr h) = inr (or_left b c h)

pub bind_allows : (rs : List Range) (t f b i chunk : ℕ) (o : Owner) → Allows t f o i chunk
    → Allows t f (bind_owner rs b o) i chunk
bind_allows rs t f b i chunk Unmade a = a
bind_allows rs t f b i chunk (Home k) a = a
bind_allows rs t f b i chunk (Returning k) a = a
bind_allows rs t f b i chunk Spare a = a
bind_allows rs t f b i chunk (Live buffer since bound) a = bound_more chunk since (bound i) (in_ranges rs b i) a
bind_allows rs t f b i chunk (Retired k since bound) a = (a.0, bound_more chunk since (bound i) (in_ranges rs b i) a.1)
bind_allows rs t f b i chunk (Paged k since bound) a = (a.0, bound_more chunk since (bound i) (in_ranges rs b i) a.1)
bind_allows rs t f b i chunk Dropped a = a

pub bind_since : (rs : List Range) (f b : ℕ) (o : Owner) → IsSince f o → IsSince f (bind_owner rs b o)
bind_since rs f b Unmade s = s
bind_since rs f b (Home k) s = s
bind_since rs f b (Returning k) s = s
bind_since rs f b Spare s = s
bind_since rs f b (Live buffer since bound) s = s
bind_since rs f b (Retired k since bound) s = s
bind_since rs f b (Paged k since bound) s = s
bind_since rs f b Dropped s = s

pub bind_live : (rs : List Range) (b r : ℕ) (o : Owner) → IsLive r o → IsLive r (bind_owner rs b o)
bind_live rs b r Unmade l = absurd l
bind_live rs b r (Home k) l = absurd l
bind_live rs b r (Returning k) l = absurd l
bind_live rs b r Spare l = absurd l
bind_live rs b r (Live buffer since bound) l = l
bind_live rs b r (Retired k since bound) l = absurd l
bind_live rs b r (Paged k since bound) l = absurd l
bind_live rs b r Dropped l = absurd l

-- The staging blocks that a chunk names -----------------------------------------------------------------------------

pub has_more : (b : ℕ) (rs ss : List Range) → has_block b rs ≡ true → has_block b (rs ++ ss) ≡ true
has_more b rs ss h = list_any-append (λ r. r.block == b) rs ss ∙ or_left (has_block b rs) (has_block b ss) h

-- a range more, or none
abbrev added_one : Script → BlockMap → Range → List Range → List Range
added_one script blocks r staging =
    cond (script.is_staging r.block && not (has_block (block_of blocks r.block) staging))
    (staging ++ range (block_of blocks r.block) 0 (script.size r.block) ∷ []) staging

one_keeps : (script : Script) (blocks : BlockMap) (r : Range) (staging : List Range) (b : ℕ)
    → has_block b staging ≡ true → has_block b (added_one script blocks r staging) ≡ true
one_keeps script blocks r staging b h =
    by (script.is_staging r.block && not (has_block (block_of blocks r.block) staging))
  where
    by : (c : Bool)
        → has_block b (cond c (staging ++ range (block_of blocks r.block) 0 (script.size r.block) ∷ []) staging)
        ≡ true
    by true = has_more b staging (range (block_of blocks r.block) 0 (script.size r.block) ∷ []) h
    by false = h

one_adds : (script : Script) (blocks : BlockMap) (r : Range) (staging : List Range)
    → script.is_staging r.block ≡ true → has_block (block_of blocks r.block) (added_one script blocks r staging)
    ≡ true
one_adds script blocks r staging st =
    elim (cases_Bool (has_block (block_of blocks r.block) staging)) [
      | inl h ↦ one_keeps script blocks r staging (block_of blocks r.block) h
      | inr n ↦
          let b = block_of blocks r.block in
          let new = staging ++ range b 0 (script.size r.block) ∷ [] in
          ap (λ c. has_block b (cond (c && not (has_block b staging)) new staging)) st
          ∙ ap (λ c. has_block b (cond (not c) new staging)) n
          ∙ list_any-append (λ r. r.block == b) staging (range b 0 (script.size r.block) ∷ [])
          ∙ or_right (has_block b staging) ((b == b) || false) (or_left (b == b) false (eq-eqb b b refl))
    ]

pub staging_kept : (script : Script) (blocks : BlockMap) (rs staging : List Range) (b : ℕ)
    → has_block b staging ≡ true → has_block b (add_staging script blocks rs staging) ≡ true
staging_kept script blocks [] staging b h = h
staging_kept script blocks (r ∷ rs) staging b h = staging_kept script blocks rs (added_one script blocks r staging)
    b (one_keeps script blocks r staging b h)

-- each range of a buffer whose block is this one is of a staging buffer
pub staging_added : (script : Script) (blocks : BlockMap) (rs staging : List Range) (b : ℕ)
    → AllByRecursion (λ r. block_of blocks r.block ≡ b → script.is_staging r.block ≡ true) rs
    → has_block b (map (range_on blocks) rs) ≡ true → has_block b (add_staging script blocks rs staging) ≡ true
staging_added script blocks [] staging b all h = absurd (cc h)
staging_added script blocks (r ∷ rs) staging b all h =
    elim (cases_Bool (block_of blocks r.block == b)) [
      | inl e ↦
          let same = eqb-true (block_of blocks r.block) b e in
          staging_kept script blocks rs (added_one script blocks r staging) b
          (subst (λ b. has_block b (added_one script blocks r staging) ≡ true) same
          (one_adds script blocks r staging (all.0 same)))
      | inr n ↦ staging_added script blocks rs (added_one script blocks r staging) b all.1
          (sym (ap (λ c. c || has_block b (map (range_on blocks) rs)) n) ∙ h)
    ]

-- what is named with ranges was named, or is the block of one of them
one_named : (script : Script) (blocks : BlockMap) (r : Range) (staging : List Range) (b : ℕ)
    → has_block b (added_one script blocks r staging) ≡ true
    → (has_block b staging ≡ true) ⊎ ((block_of blocks r.block == b) ≡ true)
one_named script blocks r staging b h =
    by (script.is_staging r.block && not (has_block (block_of blocks r.block) staging)) h
  where
    last : (c : Bool) → (c || false) ≡ true → c ≡ true
    last true e = refl
    last false e = e

    by : (c : Bool)
        → has_block b (cond c (staging ++ range (block_of blocks r.block) 0 (script.size r.block) ∷ []) staging)
        ≡ true
        → (has_block b staging ≡ true) ⊎ ((block_of blocks r.block == b) ≡ true)
    by true h =
        elim (or_cases (has_block b staging) ((block_of blocks r.block == b) || false)
        (sym (list_any-append (λ r. r.block == b) staging
        (range (block_of blocks r.block) 0 (script.size r.block) ∷ [])) ∙ h)) [
          | inl x ↦ inl x
          | inr x ↦ inr (last (block_of blocks r.block == b) x)
        ]
    by false h = inl h

pub named_by_ranges : (script : Script) (blocks : BlockMap) (rs staging : List Range) (b : ℕ)
    → has_block b (add_staging script blocks rs staging) ≡ true
    → (has_block b staging ≡ true) ⊎ (has_block b (map (range_on blocks) rs) ≡ true)
named_by_ranges script blocks [] staging b h = inl h
named_by_ranges script blocks (r ∷ rs) staging b h =
    elim (named_by_ranges script blocks rs (added_one script blocks r staging) b h) [
      | inl x ↦ elim (one_named script blocks r staging b x) [
        | inl y ↦ inl y
        | inr y ↦ inr (or_left (block_of blocks r.block == b)
            (has_block b (map (range_on blocks) rs)) y)
      ]
      | inr x ↦ inr (or_right (block_of blocks r.block == b) (has_block b (map (range_on blocks) rs)) x)
    ]

-- so it is bound, where what was named is, and the ranges are bound behind others
pub still_bound : (script : Script) (blocks : BlockMap) (rs staging bound others : List Range)
    → ((b : ℕ) → has_block b staging ≡ true → has_block b bound ≡ true)
    → (b : ℕ) → has_block b (add_staging script blocks rs staging) ≡ true
    → has_block b (bound ++ (others ++ map (range_on blocks) rs)) ≡ true
still_bound script blocks rs staging bound others was b h =
    let more = map (range_on blocks) rs in
    list_any-append (λ r. r.block == b) bound (others ++ more)
    ∙ elim (named_by_ranges script blocks rs staging b h) [
      | inl x ↦ or_left (has_block b bound) (has_block b (others ++ more)) (was b x)
      | inr x ↦ or_right (has_block b bound) (has_block b (others ++ more))
          (list_any-append (λ r. r.block == b) others more ∙ or_right (has_block b others) (has_block b more) x)
    ]

pub fewer_named : (o : Option ℕ) (rs : List Range) (b : ℕ) → has_block b (without_block o rs) ≡ true
    → has_block b rs ≡ true
fewer_named o [] b h = h
fewer_named o (r ∷ rs) b h = by (λ k. fewer_named o rs b k) (is_block o r.block) h
  where
    by : (has_block b (without_block o rs) ≡ true → has_block b rs ≡ true) → (c : Bool)
        → has_block b (cond c (without_block o rs) (r ∷ without_block o rs)) ≡ true → has_block b (r ∷ rs) ≡ true
    by rec true h = or_right (r.block == b) (has_block b rs) (rec h)
    by rec false h =
        elim (or_cases (r.block == b) (has_block b (without_block o rs)) h) [
          | inl x ↦ or_left (r.block == b) (has_block b rs) x
          | inr x ↦ or_right (r.block == b) (has_block b rs) (rec x)
        ]

pub used_more_last : (xs : List Segment) (a c : Segment) (b : ℕ)
    → (has_block b a.bound ≡ true → has_block b c.bound ≡ true) → used_in (xs ++ c ∷ []) b ≡ false
    → used_in (xs ++ a ∷ []) b ≡ false
used_more_last [] a c b f h =
    elim (cases_Bool (has_block b a.bound)) [
      | inl t ↦ absurd (let z : true ≡ false = sym (ap (λ v. v || false) (f t)) ∙ h in cc z)
      | inr n ↦ ap (λ v. v || false) n
    ]
used_more_last (x ∷ xs) a c b f h = by (has_block b x.bound) h (λ k. used_more_last xs a c b f k)
  where
    by : (v : Bool) → (v || used_in (xs ++ c ∷ []) b) ≡ false
        → (used_in (xs ++ c ∷ []) b ≡ false → used_in (xs ++ a ∷ []) b ≡ false)
        → (v || used_in (xs ++ a ∷ []) b) ≡ false
    by true h k = absurd (cc h)
    by false h k = k h

-- The step ----------------------------------------------------------------------------------------------------------

module _ (meaning : Meaning) (reading : Reading) (script : Script) (lawful : IsLawful meaning script) (old : Core)
    (call item : ℕ) (ends : Bool) (bound : List Range) (turns : List Turn)
    (e : old.future ≡ Item call item ends Set_state bound ∷ turns)
    (due : is_due script old.open_chunk.turns old.future ≡ false) where
  abbrev turn : Turn
  turn = Item call item ends Set_state bound

  abbrev blocks_bound : List Range
  blocks_bound = map (range_on old.blocks) bound

  abbrev new_owner : ℕ → Owner
  new_owner = λ b. bind_owner blocks_bound b (old.owner b)

  abbrev binding : Core
  binding = record old {
    past = old.past ++ turn ∷ [];
    future = turns;
    owner = new_owner;
    open_chunk = record old.open_chunk {
      turns = old.open_chunk.turns ++ turn ∷ [];
      placed = old.open_chunk.placed ++ placed_at call item None None None ∷ [];
      bound = old.open_chunk.bound ++ blocks_bound;
      staging = add_staging script old.blocks bound old.open_chunk.staging;
    };
  }

  abbrev front : List Segment
  front = old.taken ++ later old

  binding_listed : listed binding ≡ listed old
  binding_listed = ap flat (segments_handed binding) ∙ flat_last front binding.open_chunk old.open_chunk refl
      ∙ ap flat (sym (segments_handed old))

  binding_all : (P : Segment → Type 0) → (P old.open_chunk → P binding.open_chunk) → AllByRecursion P (segments old)
      → AllByRecursion P (segments binding)
  binding_all P f h = subst (AllByRecursion P) (sym (segments_handed binding))
      (all_last P front old.open_chunk binding.open_chunk f (subst (AllByRecursion P) (segments_handed old) h))

  -- a range that is bound is of a live buffer, so the buffer of this block
  same_buffer : Good meaning reading script old → (r b : ℕ) → script.is_staging r ≡ true → old.blocks r ≡ Some b
      → (q : Range) → Fits meaning script old.past q
      → block_of old.blocks q.block ≡ b → script.is_staging q.block ≡ true
  same_buffer g r b st is q fits at =
      let has = g.stands.has_block q.block fits.0 in
      let here : has.0 ≡ b = sym (ap or_zero has.1) ∙ at in
      let same : q.block ≡ r = g.stands.own q.block r b (has.1 ∙ ap Some here) is in
      ap script.is_staging same ∙ st

  names_new : Good meaning reading script old → NamesStaging script old.blocks old.open_chunk
      → NamesStaging script old.blocks binding.open_chunk
  names_new g names r b st is h =
      elim (cases_Bool (has_block b old.open_chunk.bound)) [
        | inl t ↦ staging_kept script old.blocks bound old.open_chunk.staging b (names r b st is t)
        | inr n ↦ staging_added script old.blocks bound old.open_chunk.staging b
            (all_map (λ q. Fits meaning script old.past q × (q.from < q.to)) (λ q. block_of old.blocks q.block ≡ b
            → script.is_staging q.block ≡ true) (λ q f at. same_buffer g r b st is q f.0 at) bound
            (lawful.fits old.past call item ends Set_state bound turns
            (here meaning reading script old turn turns e g)))
            (sym (list_any-append (λ r. r.block == b) old.open_chunk.bound blocks_bound
            ∙ ap (λ c. c || has_block b blocks_bound) n) ∙ h)
      ]

  binding_good : Good meaning reading script old → Good meaning reading script binding
  binding_good g =
      let s = g.sound in
      let before = in_order meaning script old.past at_start in
      let after : in_order meaning script (old.past ++ turn ∷ []) at_start ≡ before =
      in_order-append meaning script old.past (turn ∷ []) at_start in
      record {
        sound = record {
          position = behind_turn meaning reading script old turn turns e g;
          cut = cut_on meaning reading script old turn turns e g due;
          sizes = s.sizes;
          bounded = s.bounded;
          grows = s.grows;
          counted = s.counted;
          fence = s.fence;
          covered = subst EntriesCovered (sym binding_listed) s.covered;
          known =
              subst (AllByRecursion (KnownIn binding)) (sym binding_listed)
              (all_map (KnownIn old) (KnownIn binding)
              (known_more (taken_count old) (finished_count old) (handed_count old) (taken_count old)
              (finished_count old) (handed_count old) old.host_acts old.epoch old.recent old.owner new_owner
              (omega arith) (omega arith) (λ b i chunk a. bind_allows blocks_bound (taken_count old)
              (finished_count old) b i chunk (old.owner b) a))
              (listed old) s.known);
          since = λ b. bind_since blocks_bound (finished_count old) b (old.owner b) (s.since b);
          numbered = subst (Numbered 0) (sym (segments_handed binding))
              (numbered_last 0 front old.open_chunk binding.open_chunk (λ n h. h)
              (subst (Numbered 0) (segments_handed old) s.numbered));
          shaped = binding_all IsShaped (λ h. h) s.shaped;
          binds = binding_all BindsUses
              (λ h. (
                all_map _ _ (λ x k dev b i t. has_more b old.open_chunk.bound blocks_bound (k dev b i t))
                    old.open_chunk.commands h.0,
                still_bound script old.blocks bound old.open_chunk.staging old.open_chunk.bound [] h.1,
              )) s.binds;
          filled = subst (AllByRecursion IsFilled) (sym binding_listed) s.filled;
          within = s.within;
          device = s.device;
          whole = s.whole;
          order = s.order;
          snaps = s.snaps;
          copies = λ r b st is n i l.
              s.copies r b st is (used_more_last (later old) old.open_chunk binding.open_chunk b
              (has_more b old.open_chunk.bound blocks_bound) n) i l
              ∙ ap (λ l. run_entries meaning l zeros b i) (sym binding_listed);
          names = binding_all (NamesStaging script old.blocks) (names_new g) s.names;
          elsewhere = subst WritesElsewhere (sym (segments_handed binding))
              (pairs_last Elsewhere front old.open_chunk binding.open_chunk (λ x h. h)
              (subst WritesElsewhere (segments_handed old) s.elsewhere));
        };
        stands =
            subst (Stands script (run_entries meaning (listed binding) zeros) old.blocks) (sym after)
            (subst (λ l. Stands script (run_entries meaning l zeros) old.blocks before) (sym binding_listed) g.stands);
        live = λ r b is. bind_live blocks_bound b r (old.owner b) (g.live r b is);
        totals =
            subst (Totals (run_world meaning (listed binding) empty).counts old.commands) (sym after)
            (subst (λ l. Totals (run_world meaning l empty).counts old.commands before) (sym binding_listed) g.totals);
        replies = g.replies;
      }

-- an item that only binds, in a lawful script
pub bind_good : (meaning : Meaning) (reading : Reading) (script : Script) → IsLawful meaning script
    → (old : Core) (call item : ℕ) (ends : Bool) (bound : List Range) (turns : List Turn) (new : Core)
    → old.future ≡ Item call item ends Set_state bound ∷ turns → is_due script old.open_chunk.turns old.future ≡ false
    → TakesTurn reading script (Item call item ends Set_state bound) turns old new → Good meaning reading script old
    → Good meaning reading script new
bind_good meaning reading script lawful old call item ends bound turns new e due n g =
    subst (Good meaning reading script) (sym n) (binding_good meaning reading script lawful old call item ends bound
    turns e due g)
