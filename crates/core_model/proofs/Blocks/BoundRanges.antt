-- What an item leaves of what holds beside the invariant: turns that bind nothing, ranges that are bound, a destroyed
-- buffer.
use Rattle.std.proofs.Common.{◌≡◌, ℕ, ◌<◌, Bool, true, false, cond, not, ◌&&◌, ◌||◌, ◌==◌, List, [], ◌∷◌, ◌++◌, map}
use Rattle.std.proofs.Common.{refl, sym, ap, ◌∙◌, ◌⊎◌, inl, inr, Option, Some, None, arith}
use Rattle.std.specs.List.{AllByRecursion}
use Rattle.std.proofs.lemmas.Bool.{cases_Bool, or_cases, and_parts, eqb-true}
use Rattle.std.proofs.lemmas.List.Folds.{list_any-append}
use Rattle.dx_types.specs.declared.range.Range.{Range}
use Rattle.vk_types.specs.Memory.{covers, range, or_zero}
use Rattle.vk_types.specs.Effects.{Meaning}
use Rattle.base_lemmas.proofs.Lists.{all_map}
use Rattle.vk_types.proofs.Local.{covered, covered_block, covered_from, covered_to}
use Rattle.core_model.specs.Script.{Destroy, Turn, Item, Script, updated, at_start, in_order}
use Rattle.core_model.specs.Renaming.{BlockMap, block_of, range_on}
use Rattle.core_model.specs.CoreState.{Owner, Unmade, Home, Returning, Spare, Live, Retired, Paged, Dropped, Newest}
use Rattle.core_model.specs.CoreState.{Core, later, taken_count, open_number}
use Rattle.core_model.specs.Owners.{in_ranges, bind_owner, retired}
use Rattle.core_model.specs.Adding.{has_block, add_staging, without_block}
use Rattle.core_model.specs.Stands.{Stands}
use Rattle.core_model.specs.Lawful.{resets, bound_by, is_bound, Fits}
use Rattle.core_model.specs.Invariant.{IsLive}
use Rattle.core_model.specs.Kept.{IsPageOf, IsMade, bound_at, IsNewest, Names, Beside}
use Rattle.core_model.proofs.Steps.Binding.{or_left, or_right, fewer_named}
use Rattle.core_model.proofs.Steps.Destroying.{found}
use Rattle.core_model.proofs.Blocks.OwnerChanges.{places_by, blocks_by, names_by, named_by, paged_by, bind_keeps}
use Rattle.core_model.proofs.Blocks.OwnerChanges.{bind_page, bind_free, bind_bound, retire, retire_keeps}
use Rattle.core_model.proofs.Blocks.OwnerChanges.{retire_paged, retire_newest, retire_bounds}
use Rattle.core_model.proofs.Blocks.OtherPartsKeepBlocks.{newest_by}

-- What the rest of a state is does not matter
pub unconcerned : (script : Script) (core new : Core) → Beside script core → Beside script (record new {
  past = core.past;
  taken = core.taken;
  posts = core.posts;
  completions = core.completions;
  accepted = core.accepted;
  submissions = core.submissions;
  batches = core.batches;
  chunks = core.chunks;
  open_chunk = record new.open_chunk {
    pages = core.open_chunk.pages;
    staging = core.open_chunk.staging;
    bound =
        core.open_chunk.bound;
  };
  blocks = core.blocks;
  owner = core.owner;
  board = core.board;
  pool = core.pool;
  is_staging = core.is_staging;
  fence = core.fence;
})
unconcerned script core new b = record {
  places = b.places;
  pages = b.pages;
  blocks = b.blocks;
  named =
      b.named;
  named_open = b.named_open;
  bound = b.bound;
}

-- Bound bytes, one turn more ----------------------------------------------------------------------------------------

pub is_bound_last : (r : ℕ) (ts : List Turn) (t : Turn) (was : Bool) (i : ℕ)
    → is_bound r (ts ++ t ∷ []) was i ≡ cond (resets r t) false (is_bound r ts was i || in_ranges (bound_by t) r i)
is_bound_last r [] t was i = refl
is_bound_last r (x ∷ ts) t was i = is_bound_last r ts t (cond (resets r x) false (was || in_ranges (bound_by x) r i)) i

pub stays_bound : (r : ℕ) (ts : List Turn) (t : Turn) (i : ℕ) → resets r t ≡ false
    → (is_bound r ts false i || in_ranges (bound_by t) r i) ≡ true → is_bound r (ts ++ t ∷ []) false i ≡ true
stays_bound r ts t i n h = is_bound_last r ts t false i ∙ ap
    (λ c. cond c false (is_bound r ts false i || in_ranges (bound_by t) r i)) n ∙ h

-- a turn that begins no buffer's bytes anew and changes no owner
pub quiet_beside : (script : Script) (old : Core) (t : Turn) → ((r : ℕ) → resets r t ≡ false) → Beside script old
    → Beside script (record old { past = old.past ++ t ∷ [] })
quiet_beside script old t n b = record {
  places = b.places;
  pages = b.pages;
  blocks = b.blocks;
  named = b.named;
  named_open = b.named_open;
  bound = λ r c i is h. stays_bound r old.past t i (n r) (or_left (is_bound r old.past false i)
      (in_ranges (bound_by t) r i) (b.bound r c i is h));
}

-- Ranges that are bound ---------------------------------------------------------------------------------------------

-- a byte of a buffer's block that is bound is one of the buffer that is
pub bound_back : (meaning : Meaning) (script : Script) (memory : ℕ → ℕ → ℕ) (blocks : BlockMap) (front : List Turn)
    → Stands script memory blocks (in_order meaning script front at_start)
    → (bound : List Range) → AllByRecursion (λ r. Fits meaning script front r × (r.from < r.to)) bound → (b i : ℕ)
    → in_ranges (map (range_on blocks) bound) b i ≡ true
    → (q : ℕ) × (blocks q ≡ Some b) × (in_ranges bound q i ≡ true)
bound_back meaning script memory blocks front st [] fits b i h = absurd (cc h)
bound_back meaning script memory blocks front st (q ∷ qs) fits b i h =
    elim (or_cases (covers (range_on blocks q) b i) (in_ranges (map (range_on blocks) qs) b i) h) [
      | inl here ↦
          let has = st.has_block q.block fits.0.0.0 in
          let same : has.0 ≡ b = sym (ap or_zero has.1) ∙ covered_block (range_on blocks q) b i here in (
            q.block,
            has.1 ∙ ap Some same,
            or_left (covers q q.block i) (in_ranges qs q.block i)
                (covered q q.block i refl (covered_from (range_on blocks q) b i here)
                (covered_to (range_on blocks q) b i here)),
          )
      | inr later ↦
          let r = bound_back meaning script memory blocks front st qs fits.1 b i later in
          (r.0, r.1, or_right (covers q r.0 i) (in_ranges qs r.0 i) r.2)
    ]

-- a block that is named by ranges on blocks is a buffer's
pub named_back : (meaning : Meaning) (script : Script) (memory : ℕ → ℕ → ℕ) (blocks : BlockMap) (front : List Turn)
    → Stands script memory blocks (in_order meaning script front at_start)
    → (bound : List Range) → AllByRecursion (λ r. Fits meaning script front r × (r.from < r.to)) bound → (b : ℕ)
    → has_block b (map (range_on blocks) bound) ≡ true → (q : ℕ) × (blocks q ≡ Some b)
named_back meaning script memory blocks front st [] fits b h = absurd (cc h)
named_back meaning script memory blocks front st (q ∷ qs) fits b h =
    elim (or_cases (block_of blocks q.block == b) (has_block b (map (range_on blocks) qs)) h) [
      | inl here ↦ let has = st.has_block q.block fits.0.0.0 in
          (q.block, has.1 ∙ ap Some (sym (ap or_zero has.1) ∙ eqb-true (block_of blocks q.block) b here))
      | inr later ↦ named_back meaning script memory blocks front st qs fits.1 b later
    ]

-- a range more, and whether it is named
abbrev one_more : Script → BlockMap → Range → List Range → List Range
one_more script blocks q staging = staging ++ range (block_of blocks q.block) 0 (script.size q.block) ∷ []

abbrev is_new : Script → BlockMap → Range → List Range → Bool
is_new script blocks q staging = script.is_staging q.block && not (has_block (block_of blocks q.block) staging)

-- a staging block that is named was, or is a live staging buffer's
pub staging_back : (meaning : Meaning) (script : Script) (memory : ℕ → ℕ
    → ℕ) (blocks : BlockMap) (front : List Turn) → Stands script memory blocks
    (in_order meaning script front at_start)
    → (bound staging : List Range) → AllByRecursion (λ r. Fits meaning script front r × (r.from < r.to)) bound
    → (b : ℕ) → has_block b (add_staging script blocks bound staging) ≡ true
    → (has_block b staging ≡ true) ⊎ ((q : ℕ) × (blocks q ≡ Some b) × (script.is_staging q ≡ true))
staging_back meaning script memory blocks front st [] staging fits b h = inl h
staging_back meaning script memory blocks front st (q ∷ qs) staging fits b h =
    by_test (λ ss k. staging_back meaning script memory blocks front st qs ss fits.1 b k)
    (cases_Bool (is_new script blocks q staging))
  where
    by_test : ((ss : List Range) → has_block b (add_staging script blocks qs ss) ≡ true → (has_block b ss ≡ true)
        ⊎ ((q : ℕ) × (blocks q ≡ Some b) × (script.is_staging q ≡ true)))
        → (is_new script blocks q staging ≡ true) ⊎ (is_new script blocks q staging ≡ false)
        → (has_block b staging ≡ true) ⊎ ((q : ℕ) × (blocks q ≡ Some b) × (script.is_staging q ≡ true))
    by_test rec (inr f) =
        rec staging (ap
        (λ c. has_block b (add_staging script blocks qs (cond c (one_more script blocks q staging) staging)))
        (sym f) ∙ h)
    by_test rec (inl t) =
        elim (rec (one_more script blocks q staging)
        (ap (λ c. has_block b (add_staging script blocks qs
        (cond c (one_more script blocks q staging) staging))) (sym t) ∙ h)) [
          | inr x ↦ inr x
          | inl x ↦
              elim (or_cases (has_block b staging) ((block_of blocks q.block == b) || false)
              (sym (list_any-append (λ r. r.block == b) staging
              (range (block_of blocks q.block) 0 (script.size q.block) ∷ [])) ∙ x)) [
                | inl y ↦ inl y
                | inr y ↦
                    let has = st.has_block q.block fits.0.0.0 in
                    inr (
                      q.block,
                      has.1 ∙ ap Some (sym (ap or_zero has.1)
                          ∙ eqb-true (block_of blocks q.block) b (just (block_of blocks q.block == b) y)),
                      (and_parts (script.is_staging q.block) (not (has_block (block_of blocks q.block) staging)) t).0,
                    )
              ]
        ]
      where
        just : (c : Bool) → (c || false) ≡ true → c ≡ true
        just true e = refl
        just false e = absurd (cc e)

pub live_made : (r : ℕ) (o : Owner) → IsLive r o → IsMade o
live_made r Unmade l = l
live_made r (Home k) l = tt
live_made r (Returning k) l = tt
live_made r Spare l = tt
live_made r (Live buffer since bound) l = tt
live_made r (Retired k since bound) l = tt
live_made r (Paged k since bound) l = tt
live_made r Dropped l = tt

-- a page is no buffer's
pub live_page : (r n : ℕ) (o : Owner) → IsLive r o → IsPageOf n o → ⊥
live_page r n Unmade l p = l
live_page r n (Home k) l p = l
live_page r n (Returning k) l p = l
live_page r n Spare l p = l
live_page r n (Live buffer since bound) l p = p
live_page r n (Retired k since bound) l p = l
live_page r n (Paged k since bound) l p = l
live_page r n Dropped l p = l

module _ (meaning : Meaning) (script : Script) (memory : ℕ → ℕ
    → ℕ) (old : Core) (b : Beside script old) (stands : Stands script memory old.blocks
    (in_order meaning script old.past at_start))
    (live : (r c : ℕ) → old.blocks r ≡ Some c → IsLive r (old.owner c)) (t : Turn) (n : (r : ℕ) → resets r t ≡ false)
    (fits : AllByRecursion (λ r. Fits meaning script old.past r × (r.from < r.to)) (bound_by t)) where
  abbrev rs : List Range
  rs = map (range_on old.blocks) (bound_by t)

  bound_newest : (top : Option Newest) → IsNewest (open_number old) old.owner top
      → IsNewest (open_number old) (λ c. bind_owner rs c (old.owner c)) top
  bound_newest None h = tt
  bound_newest (Some x) h = (
    bind_page rs x.page.block (open_number old) (old.owner x.page.block) h.0,
    bind_free rs x.page.block x.used x.used (old.owner x.page.block) (omega arith)
        (λ i l.
        elim (cases_Bool (in_ranges rs x.page.block i)) [
          | inl u ↦
              let q = bound_back meaning script memory old.blocks old.past stands (bound_by t) fits x.page.block i u in
              absurd (live_page q.0 (open_number old) (old.owner x.page.block) (live q.0 x.page.block q.1) h.0)
          | inr f ↦ f
        ]) h.1,
  )

  -- what is named and bound of a chunk that binds these ranges, with others that were made
  pub more_names : (others : List Range) (own : ℕ → Owner) → ((c : ℕ) → IsMade (old.owner c) → IsMade (own c))
      → ((c : ℕ) → has_block c others ≡ true → IsMade (own c))
      → Names old.is_staging own (add_staging script old.blocks (bound_by t) old.open_chunk.staging)
      (old.open_chunk.bound ++ (others ++ rs))
  more_names others own keep made = (
    (λ c h.
        elim (staging_back meaning script memory old.blocks old.past stands (bound_by t) old.open_chunk.staging fits
        c h) [
          | inl x ↦ b.named_open.0 c x
          | inr x ↦ b.blocks.alike x.0 c x.1 ∙ x.2
        ]),
    (λ c h.
        elim (or_cases (has_block c old.open_chunk.bound) (has_block c (others ++ rs))
        (sym (list_any-append (λ r. r.block == c) old.open_chunk.bound (others ++ rs)) ∙ h)) [
          | inl x ↦ keep c (b.named_open.1 c x)
          | inr x ↦ elim (or_cases (has_block c others) (has_block c rs)
              (sym (list_any-append (λ r. r.block == c) others rs) ∙ x)) [
                | inl y ↦ made c y
                | inr y ↦
                    let q = named_back meaning script memory old.blocks old.past stands (bound_by t) fits c y in
                    keep c (live_made q.0 (old.owner c) (live q.0 c q.1))
              ]
        ]),
  )

  -- a byte that is bound now was, or is by the turn
  pub more_bound : (r c i : ℕ) → old.blocks r ≡ Some c → bound_at (bind_owner rs c (old.owner c)) i ≡ true
      → is_bound r (old.past ++ t ∷ []) false i ≡ true
  more_bound r c i is h =
      stays_bound r old.past t i (n r)
      (elim (or_cases (bound_at (old.owner c) i) (in_ranges rs c i) (bind_bound rs c i (old.owner c) h)) [
        | inl x ↦ or_left (is_bound r old.past false i) (in_ranges (bound_by t) r i) (b.bound r c i is x)
        | inr x ↦
            let q = bound_back meaning script memory old.blocks old.past stands (bound_by t) fits c i x in
            or_right (is_bound r old.past false i) (in_ranges (bound_by t) r i)
            (ap (λ q. in_ranges (bound_by t) q i) (stands.own r q.0 c is q.1) ∙ q.2)
      ])

  pub bound_beside : Beside script (record old {
    past = old.past ++ t ∷ [];
    owner = λ c. bind_owner rs c (old.owner c);
    open_chunk = record old.open_chunk {
      bound = old.open_chunk.bound ++ rs;
      staging =
          add_staging script old.blocks (bound_by t) old.open_chunk.staging;
    };
  })
  bound_beside =
      let f = bind_owner rs in
      let k = bind_keeps rs in
      record {
        places = places_by f k old.board old.pool old.owner old.fence b.places;
        pages = record {
          handed = paged_by f (taken_count old) old.owner (later old) (λ c m o l h. bind_page rs c m o h)
              b.pages.handed;
          opened = all_map (λ p. IsPageOf (open_number old) (old.owner p.block))
              (λ p. IsPageOf (open_number old) (f p.block (old.owner p.block)))
              (λ p h. bind_page rs p.block (open_number old) (old.owner p.block) h) old.open_chunk.pages b.pages.opened;
          apart = b.pages.apart;
          newest = bound_newest old.pool.newest b.pages.newest;
        };
        blocks = blocks_by f k script old.blocks old.is_staging old.owner b.blocks;
        named = named_by f k old.is_staging old.owner (old.taken ++ later old) b.named;
        named_open = more_names [] (λ c. f c (old.owner c)) (λ c h. k.made c (old.owner c) h) (λ c h. absurd (cc h));
        bound = more_bound;
      }

-- A buffer is destroyed ---------------------------------------------------------------------------------------------

pub retired_beside : (script : Script) (old : Core) (buffer : ℕ) → Beside script old
    → Beside script (record old { owner = retired (old.blocks buffer) (open_number old) old.owner })
retired_beside script old buffer b =
    let o = old.blocks buffer in
    let n = open_number old in
    let f = retire o n in
    let k = retire_keeps o n in
    record {
      places = places_by f k old.board old.pool old.owner old.fence b.places;
      pages = record {
        handed = paged_by f (taken_count old) old.owner (later old) (λ c m x l h. retire_paged o n c m x h)
            b.pages.handed;
        opened = all_map (λ p. IsPageOf n (old.owner p.block)) (λ p. IsPageOf n (f p.block (old.owner p.block)))
            (λ p h. retire_paged o n p.block n (old.owner p.block) h) old.open_chunk.pages b.pages.opened;
        apart = b.pages.apart;
        newest = newest_by f n old.owner old.pool.newest (λ c x h. retire_paged o n c n x h)
            (λ c at x h. retire_newest o n c at x h) b.pages.newest;
      };
      blocks = blocks_by f k script old.blocks old.is_staging old.owner b.blocks;
      named = named_by f k old.is_staging old.owner (old.taken ++ later old) b.named;
      named_open = names_by f k old.is_staging old.owner old.open_chunk.staging old.open_chunk.bound b.named_open;
      bound = λ r c i is h. b.bound r c i is (retire_bounds o n c i (old.owner c) h);
    }

pub destroyed_beside : (script : Script) (old : Core) (call item : ℕ) (ends : Bool) (buffer : ℕ)
    (bound : List Range) → Beside script old → Beside script (record old {
      past = old.past ++ Item call item ends (Destroy buffer) bound ∷ [];
      blocks = updated buffer None old.blocks;
      owner = retired (old.blocks buffer) (open_number old) old.owner;
      open_chunk = record old.open_chunk { staging = without_block (old.blocks buffer) old.open_chunk.staging };
    })
destroyed_beside script old call item ends buffer bound b =
    let t = Item call item ends (Destroy buffer) bound in
    let r = retired_beside script old buffer b in
    record {
      places = r.places;
      pages = r.pages;
      blocks = record { alike = λ q c is. r.blocks.alike q c (found buffer old.blocks q c is).0; held = r.blocks.held };
      named = r.named;
      named_open = (
        (λ c h. r.named_open.0 c (fewer_named (old.blocks buffer) old.open_chunk.staging c h)),
        r.named_open.1,
      );
      bound = λ q c i is h.
          stays_bound q old.past t i refl (or_left (is_bound q old.past false i) (in_ranges bound q i)
          (r.bound q c i (found buffer old.blocks q c is).0 h));
    }
