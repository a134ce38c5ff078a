-- A buffer is destroyed: its block is retired by the open chunk.
use Rattle.std.proofs.Common.{◌≡◌, ℕ, suc, ◌≤◌, Bool, true, false, cond, ◌||◌, ◌==◌, List, [], ◌∷◌, ◌++◌, refl, sym}
use Rattle.std.proofs.Common.{ap, ◌∙◌, subst, inl, inr, Option, Some, None}
use Rattle.std.specs.List.{AllByRecursion}
use Rattle.std.proofs.lemmas.Bool.{both_ways, cases_Bool, eqb-true, eq-eqb}
use Rattle.dx_types.specs.declared.range.Range.{Range}
use Rattle.vk_types.specs.declared.command.Command as c
use Rattle.vk_types.specs.Memory.{zeros}
use Rattle.vk_types.specs.Effects.{Meaning}
use Rattle.vk_types.specs.Entries.{Entry, EntriesCovered, run_entries}
use Rattle.base_lemmas.proofs.Lists.{all_map}
use Rattle.core_model.specs.Script.{Destroy, Turn, Item, Script, InOrder, updated, at_start, turn_in_order, in_order}
use Rattle.core_model.specs.Chunking.{is_due}
use Rattle.core_model.specs.CoreState.{Segment, flat, Owner, Unmade, Home, Returning, Spare, Live, Retired, Paged}
use Rattle.core_model.specs.CoreState.{Dropped, Core, segments, later, listed, taken_count, finished_count}
use Rattle.core_model.specs.CoreState.{handed_count, open_number}
use Rattle.core_model.specs.Readings.{Reading}
use Rattle.core_model.specs.Owners.{retire_owner, is_block, retired}
use Rattle.core_model.specs.Adding.{has_block, placed_at, without_block}
use Rattle.core_model.specs.AppActs.{TakesTurn}
use Rattle.core_model.specs.Stands.{Stands}
use Rattle.core_model.specs.Worlds.{empty, run_world}
use Rattle.core_model.specs.Invariant.{Allows, IsSince, IsLive, Known, KnownIn, Numbered, IsShaped, BindsUses}
use Rattle.core_model.specs.Invariant.{IsFilled, NamesStaging, WritesElsewhere, Totals, Good}
use Rattle.core_model.proofs.Steps.Handing.{Elsewhere}
use Rattle.core_model.proofs.Steps.Binding.{fewer_named}
use Rattle.core_model.proofs.Steps.Turning.{pairs_last, numbered_last, flat_last, used_last, segments_handed}
use Rattle.core_model.proofs.Steps.Turning.{in_order-append, behind_turn, cut_on}

-- Owners as the open chunk retires a block --------------------------------------------------------------------------

retire_allows : (t f h i chunk : ℕ) (o : Owner) → chunk ≤ h → Allows t f o i chunk
    → Allows t f (retire_owner h o) i chunk
retire_allows t f h i chunk Unmade l a = a
retire_allows t f h i chunk (Home k) l a = a
retire_allows t f h i chunk (Returning k) l a = a
retire_allows t f h i chunk Spare l a = a
retire_allows t f h i chunk (Live buffer since bound) l a = (l, a)
retire_allows t f h i chunk (Retired k since bound) l a = a
retire_allows t f h i chunk (Paged k since bound) l a = a
retire_allows t f h i chunk Dropped l a = a

retire_since : (f h : ℕ) (o : Owner) → IsSince f o → IsSince f (retire_owner h o)
retire_since f h Unmade s = s
retire_since f h (Home k) s = s
retire_since f h (Returning k) s = s
retire_since f h Spare s = s
retire_since f h (Live buffer since bound) s = s
retire_since f h (Retired k since bound) s = s
retire_since f h (Paged k since bound) s = s
retire_since f h Dropped s = s

pub retired_allows : (old : Option ℕ) (t f h i chunk : ℕ) (own : ℕ → Owner) (b : ℕ) → chunk ≤ h
    → Allows t f (own b) i chunk → Allows t f (retired old h own b) i chunk
retired_allows old t f h i chunk own b l a = by (is_block old b)
  where
    by : (c : Bool) → Allows t f (cond c (retire_owner h (own b)) (own b)) i chunk
    by true = retire_allows t f h i chunk (own b) l a
    by false = a

pub retired_since : (old : Option ℕ) (f h : ℕ) (own : ℕ → Owner) (b : ℕ) → IsSince f (own b)
    → IsSince f (retired old h own b)
retired_since old f h own b s = by (is_block old b)
  where
    by : (c : Bool) → IsSince f (cond c (retire_owner h (own b)) (own b))
    by true = retire_since f h (own b) s
    by false = s

is_the_block : (o : Option ℕ) (b : ℕ) → is_block o b ≡ true → o ≡ Some b
is_the_block None b h = absurd (cc h)
is_the_block (Some n) b h = ap Some (sym (eqb-true b n h))

-- what is known stays known where owners allow all chunks up to the open one still
pub known_kept : (t f h w e : ℕ) (rs : List c.Command) (own own' : ℕ → Owner)
    → ((block i chunk : ℕ) → chunk ≤ suc h → Allows t f (own block) i chunk → Allows t f (own' block) i chunk)
    → (x : Entry) → Known t f h w e rs own x → Known t f h w e rs own' x
known_kept t f h w e rs own own' keep x k = record {
  in_chunk = k.in_chunk;
  fenced = k.fenced;
  counted = k.counted;
  below = k.below;
  recent = k.recent;
  owned = λ d block i u. keep block i x.chunk k.in_chunk (k.owned d block i u);
}

-- Without the buffer ------------------------------------------------------------------------------------------------

-- what is found without a buffer was there, and is another buffer's
pub found : {A : Type 0} (n : ℕ) (f : ℕ → Option A) (m : ℕ) (x : A) → updated n None f m ≡ Some x → (f m ≡ Some x)
    × ((m == n) ≡ false)
found n f m x e =
    elim (cases_Bool (m == n)) [
      | inl t ↦ absurd (let z : None ≡ Some x = sym (ap (λ c. cond c None (f m)) t) ∙ e in cc z)
      | inr k ↦ (sym (ap (λ c. cond c None (f m)) k) ∙ e, k)
    ]

-- a block that is another stays among those that are named
other_stays : (old : Option ℕ) (b : ℕ) → is_block old b ≡ false → (rs : List Range) → has_block b rs ≡ true
    → has_block b (without_block old rs) ≡ true
other_stays old b n [] h = absurd (cc h)
other_stays old b n (r ∷ rs) h =
    elim (cases_Bool (is_block old r.block)) [
      | inl t ↦
          ap (λ c. has_block b (cond c (without_block old rs) (r ∷ without_block old rs))) t
          ∙ other_stays old b n rs (elim (cases_Bool (r.block == b)) [
            | inl e ↦ absurd (both_ways (is_block old b) n (ap (is_block old) (sym (eqb-true r.block b e)) ∙ t))
            | inr k ↦ sym (ap (λ c. c || has_block b rs) k) ∙ h
          ])
      | inr k ↦
          ap (λ c. has_block b (cond c (without_block old rs) (r ∷ without_block old rs))) k
          ∙ elim (cases_Bool (r.block == b)) [
            | inl e ↦ ap (λ c. c || has_block b (without_block old rs)) e
            | inr m ↦ ap (λ c. c || has_block b (without_block old rs)) m
                ∙ other_stays old b n rs (sym (ap (λ c. c || has_block b rs) m) ∙ h)
          ]
    ]

-- The step ----------------------------------------------------------------------------------------------------------

module _ (meaning : Meaning) (reading : Reading) (script : Script) (old : Core) (call item : ℕ) (ends : Bool)
    (buffer : ℕ) (bound : List Range) (turns : List Turn)
    (e : old.future ≡ Item call item ends (Destroy buffer) bound ∷ turns)
    (due : is_due script old.open_chunk.turns old.future ≡ false) where
  abbrev turn : Turn
  turn = Item call item ends (Destroy buffer) bound

  abbrev destroyed : Core
  destroyed = record old {
    past = old.past ++ turn ∷ [];
    future = turns;
    blocks = updated buffer None old.blocks;
    owner = retired (old.blocks buffer) (open_number old) old.owner;
    open_chunk = record old.open_chunk {
      turns = old.open_chunk.turns ++ turn ∷ [];
      placed = old.open_chunk.placed ++ placed_at call item None (old.blocks buffer) None ∷ [];
      staging = without_block (old.blocks buffer) old.open_chunk.staging;
    };
  }

  abbrev front : List Segment
  front = old.taken ++ later old

  destroyed_listed : listed destroyed ≡ listed old
  destroyed_listed = ap flat (segments_handed destroyed) ∙ flat_last front destroyed.open_chunk old.open_chunk refl
      ∙ ap flat (sym (segments_handed old))

  destroyed_all : (P Q : Segment → Type 0) → ((s : Segment) → P s → Q s)
      → (P old.open_chunk → Q destroyed.open_chunk) → AllByRecursion P (segments old)
      → AllByRecursion Q (segments destroyed)
  destroyed_all P Q f g h =
      subst (AllByRecursion Q) (sym (segments_handed destroyed))
      (changed front (subst (AllByRecursion P) (segments_handed old) h))
    where
      changed : (xs : List Segment) → AllByRecursion P (xs ++ old.open_chunk ∷ [])
          → AllByRecursion Q (xs ++ destroyed.open_chunk ∷ [])
      changed [] h = (g h.0, tt)
      changed (x ∷ xs) h = (f x h.0, changed xs h.1)

  -- the block of another buffer is another
  other_block : Good meaning reading script old → (r b : ℕ) → old.blocks r ≡ Some b → (r == buffer) ≡ false
      → is_block (old.blocks buffer) b ≡ false
  other_block g r b is n =
      elim (cases_Bool (is_block (old.blocks buffer) b)) [
        | inl t ↦ absurd
            (both_ways (r == buffer) n
            (eq-eqb r buffer (g.stands.own r buffer b is (is_the_block (old.blocks buffer) b t))))
        | inr k ↦ k
      ]

  stands_without : (memory : ℕ → ℕ → ℕ) (s : InOrder) → Stands script memory old.blocks s
      → Stands script memory destroyed.blocks (turn_in_order meaning script turn s)
  stands_without memory s st = record {
    has_block = λ r h.
        elim (cases_Bool (r == buffer)) [
          | inl t ↦ absurd (let z : false ≡ true = sym (ap (λ c. cond c false (s.live r)) t) ∙ h in cc z)
          | inr n ↦ let b = st.has_block r (sym (ap (λ c. cond c false (s.live r)) n) ∙ h) in
              (b.0, ap (λ c. cond c None (old.blocks r)) n ∙ b.1)
        ];
    is_live = λ r b is. let f = found buffer old.blocks r b is in ap (λ c. cond c false (s.live r)) f.1
        ∙ st.is_live r b f.0;
    own = λ r q b h k. st.own r q b (found buffer old.blocks r b h).0 (found buffer old.blocks q b k).0;
    bytes = λ r b i is l. st.bytes r b i (found buffer old.blocks r b is).0 l;
  }

  live_without : Good meaning reading script old → (r b : ℕ) → destroyed.blocks r ≡ Some b
      → IsLive r (destroyed.owner b)
  live_without g r b is =
      let f = found buffer old.blocks r b is in
      subst (λ c. IsLive r (cond c (retire_owner (open_number old) (old.owner b)) (old.owner b)))
      (sym (other_block g r b f.0 f.1)) (g.live r b f.0)

  destroyed_good : Good meaning reading script old → Good meaning reading script destroyed
  destroyed_good g =
      let s = g.sound in
      let before = in_order meaning script old.past at_start in
      let after : in_order meaning script (old.past ++ turn ∷ []) at_start
      ≡ turn_in_order meaning script turn before = in_order-append meaning script old.past (turn ∷ []) at_start in
      record {
        sound = record {
          position = behind_turn meaning reading script old turn turns e g;
          cut = cut_on meaning reading script old turn turns e g due;
          sizes = s.sizes;
          bounded = s.bounded;
          grows = s.grows;
          counted = s.counted;
          fence = s.fence;
          covered = subst EntriesCovered (sym destroyed_listed) s.covered;
          known =
              subst (AllByRecursion (KnownIn destroyed)) (sym destroyed_listed)
              (all_map (KnownIn old) (KnownIn destroyed)
              (known_kept (taken_count old) (finished_count old) (handed_count old) old.host_acts old.epoch
              old.recent old.owner destroyed.owner
              (λ b i chunk l a. retired_allows (old.blocks buffer) (taken_count old) (finished_count old)
              (open_number old) i chunk old.owner b l a))
              (listed old) s.known);
          since = λ b. retired_since (old.blocks buffer) (finished_count old) (open_number old) old.owner b (s.since b);
          numbered = subst (Numbered 0) (sym (segments_handed destroyed))
              (numbered_last 0 front old.open_chunk destroyed.open_chunk (λ n h. h)
              (subst (Numbered 0) (segments_handed old) s.numbered));
          shaped = destroyed_all IsShaped IsShaped (λ s h. h) (λ h. h) s.shaped;
          binds = destroyed_all BindsUses BindsUses (λ s h. h)
              (λ h. (h.0, λ b n. h.1 b (fewer_named (old.blocks buffer) old.open_chunk.staging b n))) s.binds;
          filled = subst (AllByRecursion IsFilled) (sym destroyed_listed) s.filled;
          within = s.within;
          device = s.device;
          whole = s.whole;
          order = s.order;
          snaps = s.snaps;
          copies = λ r b st is n i l.
              s.copies r b st (found buffer old.blocks r b is).0
              (used_last (later old) old.open_chunk destroyed.open_chunk b refl ∙ n) i l
              ∙ ap (λ l. run_entries meaning l zeros b i) (sym destroyed_listed);
          names = destroyed_all (NamesStaging script old.blocks) (NamesStaging script destroyed.blocks)
              (λ s h r b st is k. h r b st (found buffer old.blocks r b is).0 k)
              (λ h r b st is k.
              let f = found buffer old.blocks r b is in
              other_stays (old.blocks buffer) b (other_block g r b f.0 f.1) old.open_chunk.staging (h r b st f.0 k))
              s.names;
          elsewhere = subst WritesElsewhere (sym (segments_handed destroyed))
              (pairs_last Elsewhere front old.open_chunk destroyed.open_chunk (λ x h. h)
              (subst WritesElsewhere (segments_handed old) s.elsewhere));
        };
        stands =
            subst (Stands script (run_entries meaning (listed destroyed) zeros) destroyed.blocks) (sym after)
            (stands_without (run_entries meaning (listed destroyed) zeros) before
            (subst (λ l. Stands script (run_entries meaning l zeros) old.blocks before) (sym destroyed_listed)
            g.stands));
        live = live_without g;
        totals =
            subst (Totals (run_world meaning (listed destroyed) empty).counts old.commands) (sym after)
            (let t : Totals (run_world meaning (listed destroyed) empty).counts old.commands before =
            subst (λ l. Totals (run_world meaning l empty).counts old.commands before) (sym destroyed_listed)
            g.totals in
            record { total = t.total; above = t.above });
        replies = g.replies;
      }

pub destroy_good : (meaning : Meaning) (reading : Reading) (script : Script) (old : Core) (call item : ℕ)
    (ends : Bool) (buffer : ℕ) (bound : List Range) (turns : List Turn) (new : Core)
    → old.future ≡ Item call item ends (Destroy buffer) bound ∷ turns
    → is_due script old.open_chunk.turns old.future ≡ false
    → TakesTurn reading script (Item call item ends (Destroy buffer) bound) turns old new
    → Good meaning reading script old → Good meaning reading script new
destroy_good meaning reading script old call item ends buffer bound turns new e due n g =
    subst (Good meaning reading script) (sym n) (destroyed_good meaning reading script old call item ends buffer
    bound turns e due g)
