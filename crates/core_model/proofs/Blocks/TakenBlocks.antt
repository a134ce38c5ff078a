-- What a buffer that takes a block, and a page that is written to, leave of what holds beside the invariant.
use Rattle.std.proofs.Common.{◌≡◌, ℕ, suc, ◌+◌, ◌*◌, ◌<◌, ◌≤◌, Bool, true, false, cond, ◌==◌, nat_lt, List, [], ◌∷◌}
use Rattle.std.proofs.Common.{◌++◌, length, refl, sym, ap, ◌∙◌, subst, inl, inr, Option, Some, None, slice_get}
use Rattle.std.proofs.Common.{slice_set, arith}
use Rattle.std.proofs.lemmas.Bool.{both_ways, cases_Bool, eqb-true, eq-eqb, ltb-true}
use Rattle.dx_types.specs.declared.range.Range.{Range}
use Rattle.base_lemmas.proofs.Lists.{all_map}
use Rattle.core_model.specs.Script.{Turn, Script, updated}
use Rattle.core_model.specs.CoreState.{Segment, Owner, Unmade, Home, Returning, Spare, Live, Retired, Paged, Dropped}
use Rattle.core_model.specs.CoreState.{has_class, Board, Pool, Newest, Core, later, taken_count, open_number}
use Rattle.core_model.specs.Readings.{Reading}
use Rattle.core_model.specs.Owners.{nothing_bound, in_ranges}
use Rattle.core_model.specs.Placing.{BlockChoice, Takes, From_home, New_made}
use Rattle.core_model.specs.Playing.{HasBlock, Own, Of_class}
use Rattle.core_model.specs.Lawful.{resets, bound_by, is_bound, ClassFits}
use Rattle.core_model.specs.Kept.{IsPageOf, IsFreeFrom, IsTakenBy, IsOfBuffer, IsMade, bound_at, ArePaged, IsNewest}
use Rattle.core_model.specs.Kept.{PlacesRight, Names, Beside}
use Rattle.core_model.proofs.Steps.Binding.{or_left}
use Rattle.core_model.proofs.Steps.Giving.{IsVacant, vacant_buffer}
use Rattle.core_model.proofs.Blocks.OwnerChanges.{set_other, set_here}
use Rattle.core_model.proofs.Blocks.BoundRanges.{stays_bound}
use Rattle.core_model.proofs.Steps.Segments.{handed_length}

-- One block has another owner ---------------------------------------------------------------------------------------

module _ (block : ℕ) (now : Owner) (own : ℕ → Owner) where
  abbrev pub given : ℕ → Owner
  given = updated block now own

  pub given_other : (b : ℕ) → (b ≡ block → ⊥) → given b ≡ own b
  given_other b n = let d : (b == block) ≡ false = elim (cases_Bool (b == block))
      [ inl t ↦ absurd (n (eqb-true b block t)) | inr f ↦ f ] in ap (λ c. cond c now (own b)) d

  pub given_here : (b : ℕ) → b ≡ block → given b ≡ now
  given_here b s = ap (λ c. cond c now (own b)) (eq-eqb b block s)

  -- what holds of an owner that is not the block's holds still
  pub kept_other : (P : Owner → Type 0) → (P (own block) → ⊥) → (b : ℕ) → P (own b) → P (given b)
  kept_other P n b h = subst P (sym (given_other b (λ s. n (subst (λ b. P (own b)) s h)))) h

  -- what holds of each owner and of the new one holds
  pub kept_both : (P : Owner → Type 0) → P now → (b : ℕ) → P (own b) → P (given b)
  kept_both P n b h = by (b == block)
    where
      by : (c : Bool) → P (cond c now (own b))
      by true = n
      by false = h

  pub kept_pages : (k n : ℕ) (ss : List Segment) → k + length ss < n
      → ((m : ℕ) → m < n → IsPageOf m (own block) → ⊥) → ArePaged k own ss → ArePaged k given ss
  kept_pages k n [] l out h = tt
  kept_pages k n (s ∷ ss) l out h = (
    all_map (λ p. IsPageOf (suc k) (own p.block)) (λ p. IsPageOf (suc k) (given p.block))
        (λ p q. kept_other (IsPageOf (suc k)) (out (suc k) (omega (arith, l))) p.block q) s.pages h.0,
    h.1,
    kept_pages (suc k) n ss (let z : suc k + length ss < n = omega (arith, l) in z) out h.2,
  )

vacant_page : (n : ℕ) (o : Owner) → IsVacant o → IsPageOf n o → ⊥
vacant_page n Unmade v p = p
vacant_page n (Home k) v p = p
vacant_page n (Returning k) v p = v
vacant_page n Spare v p = v
vacant_page n (Live buffer since bound) v p = v
vacant_page n (Retired k since bound) v p = v
vacant_page n (Paged k since bound) v p = v
vacant_page n Dropped v p = v

-- Places, once a buffer took a block --------------------------------------------------------------------------------

module _ (own : ℕ → Owner) (fence since buffer : ℕ) (le : since ≤ fence) where
  abbrev live : Owner
  live = Live buffer since nothing_bound

  own_places : (board : Board) (pool : Pool) → PlacesRight board pool own fence
      → PlacesRight board (record pool { next = suc pool.next }) (updated pool.next live own) fence
  own_places board pool p =
      let block = pool.next in
      let un = p.fresh block (omega arith) in
      let other : (P : Owner → Type 0) → (P Unmade → ⊥) → (b : ℕ) → P (own b)
      → P (updated block live own b) = λ P n b h. kept_other block live own P (λ x. n (subst P un x)) b h in
      record {
        home = λ c q b h. let x = p.home c q b h in (x.0, x.1, x.2, other (λ o. o ≡ Home x.2) (λ z. cc z) b x.3);
        apart = p.apart;
        unmade = λ c k l m n. let big = p.next in given_other block live own (c * 64 + k) (λ s. let z : ⊥ =
            omega (arith, s, big, l, n) in z) ∙ p.unmade c k l m n;
        next = let big = p.next in omega (arith, big);
        fresh = λ b l. given_other block live own b (λ s. let z : ⊥ = omega (arith, s, l) in z)
            ∙ p.fresh b (omega (arith, l));
        spare = all_map (λ q. own q.block ≡ Spare) (λ q. updated block live own q.block ≡ Spare)
            (λ q h. other (λ o. o ≡ Spare) (λ z. cc z) q.block h) pool.spare p.spare;
        spares = p.spares;
        taken = λ b. kept_both block live own (IsTakenBy fence) le b (p.taken b);
      }

  taken_places : (choice : BlockChoice) (class block : ℕ) (board after : Board) (pool : Pool)
      → Takes choice class block board after → class < 8 → PlacesRight board pool own fence
      → PlacesRight after pool (updated block live own) fence
  taken_places choice class block board after pool (From_home _ _ place _ e) less p =
      let at = p.home class place block e in
      let was : own block ≡ Home at.2 = at.3 in
      let other : (P : Owner → Type 0) → (P (Home at.2) → ⊥) → (b : ℕ) → P (own b)
      → P (updated block live own b) = λ P n b h. kept_other block live own P (λ x. n (subst P was x)) b h in
      let new = slice_set (board.places class) place None in
      let still : (c q b : ℕ) → slice_get (cond (c == class) new (board.places c)) q ≡ Some (Some b)
      → (slice_get (board.places c) q ≡ Some (Some b)) × (b ≡ block → ⊥) =
      λ c q b h.
      elim (cases_Bool (c == class)) [
        | inr f ↦
            let old : slice_get (board.places c) q ≡ Some (Some b) =
            sym (ap (λ x. slice_get (cond x new (board.places c)) q) f) ∙ h in (
              old,
              (λ s.
                  let x = p.home c q b old in
                  let lo = x.0 in
                  let hi = x.1 in
                  let lo' = at.0 in
                  let hi' = at.1 in
                  both_ways (c == class) f (eq-eqb c class (omega (arith, s, lo, hi, lo', hi')))),
            )
        | inl t ↦
            let same = eqb-true c class t in
            let here : slice_get new q ≡ Some (Some b) = sym (ap (λ x. slice_get (cond x new (board.places c)) q) t)
            ∙ h in
            elim (cases_Bool (q == place)) [
              | inl u ↦
                  let is : None ≡ Some b = set_here (board.places class) place None (Some b)
                  (ap (slice_get new) (sym (eqb-true q place u)) ∙ here) in
                  absurd (cc is)
              | inr v ↦
                  let there : slice_get (board.places class) q ≡ Some (Some b) =
                  sym (set_other (board.places class) place q None
                  (λ s. both_ways (q == place) v (eq-eqb q place s))) ∙ here in (
                    ap (λ c. slice_get (board.places c) q) same
                        ∙ there,
                    (λ s. both_ways (q == place) v
                        (eq-eqb q place (p.apart class q place b there (e ∙ ap (λ b. Some (Some b)) (sym s))))),
                  )
            ]
      ] in
      record {
        home = λ c q b h.
            let s = still c q b h in
            let x = p.home c q b s.0 in
            (x.0, x.1, x.2, given_other block live own b s.1 ∙ x.3);
        apart = λ c q r b h k. p.apart c q r b (still c q b h).0 (still c r b k).0;
        unmade = λ c k l m n. other (λ o. o ≡ Unmade) (λ z. cc z) (c * 64 + k) (p.unmade c k l m n);
        next = p.next;
        fresh = λ b l. other (λ o. o ≡ Unmade) (λ z. cc z) b (p.fresh b l);
        spare = all_map (λ q. own q.block ≡ Spare) (λ q. updated block live own q.block ≡ Spare)
            (λ q h. other (λ o. o ≡ Spare) (λ z. cc z) q.block h) pool.spare p.spare;
        spares = p.spares;
        taken = λ b. kept_both block live own (IsTakenBy fence) le b (p.taken b);
      }
  taken_places choice class block board after pool (New_made _ _ more) less p =
      let made = board.made class in
      let un : own (class * 64 + made) ≡ Unmade = p.unmade class made less (omega arith) more in
      let new = class * 64 + made in
      let other : (P : Owner → Type 0) → (P Unmade → ⊥) → (b : ℕ) → P (own b)
      → P (updated new live own b) = λ P n b h. kept_other new live own P (λ x. n (subst P un x)) b h in
      record {
        home = λ c q b h. let x = p.home c q b h in (x.0, x.1, x.2, other (λ o. o ≡ Home x.2) (λ z. cc z) b x.3);
        apart = p.apart;
        unmade = λ c k l m n.
            elim (cases_Bool (c == class)) [
              | inl t ↦
                  let same = eqb-true c class t in
                  let low : suc made ≤ k = subst (λ x. x ≤ k) (ap (λ x. cond x (suc made) (board.made c)) t) m in
                  let there : board.made c ≡ made = ap board.made same in
                  given_other new live own (c * 64 + k) (λ s. let z : ⊥ = omega (arith, s, same, low) in z)
                  ∙ p.unmade c k l (omega (arith, low, there)) n
              | inr f ↦
                  let low : board.made c ≤ k = subst (λ x. x ≤ k) (ap (λ x. cond x (suc made) (board.made c)) f) m in
                  given_other new live own (c * 64 + k) (λ s. both_ways (c == class) f
                  (eq-eqb c class (omega (arith, s, n, more)))) ∙ p.unmade c k l low n
            ];
        next = p.next;
        fresh = λ b l. let big = p.next in given_other new live own b (λ s. let z : ⊥ =
            omega (arith, s, l, big, less, more) in z) ∙ p.fresh b l;
        spare = all_map (λ q. own q.block ≡ Spare) (λ q. updated new live own q.block ≡ Spare)
            (λ q h. other (λ o. o ≡ Spare) (λ z. cc z) q.block h) pool.spare p.spare;
        spares = p.spares;
        taken = λ b. kept_both new live own (IsTakenBy fence) le b (p.taken b);
      }

  -- however the block is had
  pub had_places : (reading : Reading) (script : Script) (target block : ℕ) (core mid : Core)
      → HasBlock reading script target block core mid → ((r : ℕ) → ClassFits script r (script.class r))
      → PlacesRight core.board core.pool own fence → PlacesRight mid.board mid.pool (updated block live own) fence
  had_places reading script target block core mid (Own _ _ _ _ is) classes p = own_places core.board core.pool p
  had_places reading script target block core mid (Of_class _ _ _ class _ _ board is t) classes p =
      taken_places t.0 class block core.board board core.pool t.1 (let z : ClassFits script target (Some class) =
      subst (ClassFits script target) is (classes target) in z).0 p

-- and its newest page is the same
pub had_newest : (reading : Reading) (script : Script) (target block : ℕ) (core mid : Core)
    → HasBlock reading script target block core mid → mid.pool.newest ≡ core.pool.newest
had_newest reading script target block core mid (Own _ _ _ _ is) = refl
had_newest reading script target block core mid (Of_class _ _ _ class _ _ board is t) = refl

-- a block of its own is of no class
pub own_classless : (reading : Reading) (script : Script) (target block : ℕ) (core mid : Core)
    → HasBlock reading script target block core mid → script.class target ≡ None → 512 ≤ core.pool.next
    → has_class block ≡ false
own_classless reading script target block core mid (Own _ _ _ _ is) none big =
    elim (cases_Bool (nat_lt core.pool.next 512)) [
      | inl t ↦ let l = ltb-true core.pool.next 512 t in
          absurd (let z : ⊥ = omega (arith, l, big) in z)
      | inr f ↦ f
    ]
own_classless reading script target block core mid (Of_class _ _ _ class _ _ board is t) none big =
    absurd (let z : Some class ≡ None = sym is ∙ none in cc z)

-- All of it ---------------------------------------------------------------------------------------------------------

module _ (script : Script) (core : Core) (b : Beside script core) (buffer block since fence : ℕ) (board : Board)
    (pool : Pool) (is_staging : ℕ → Bool) (t : Turn)
    (vacant : IsVacant (core.owner block)) (strange : (r c : ℕ) → core.blocks r ≡ Some c → block ≡ c → ⊥)
    (places : PlacesRight board pool (updated block (Live buffer since nothing_bound) core.owner) fence)
    (same_newest : pool.newest ≡ core.pool.newest)
    (st_here : is_staging block ≡ script.is_staging buffer) (st_other : (c : ℕ) → (block ≡ c → ⊥)
    → is_staging c ≡ core.is_staging c) (st_class : script.is_staging buffer ≡ true → has_class block ≡ false)
    (quiet : (r : ℕ) → (r == buffer) ≡ false → resets r t ≡ false) where
  abbrev now : Owner
  now = Live buffer since nothing_bound

  abbrev own : ℕ → Owner
  own = updated block now core.owner

  was_not : (c : ℕ) → core.is_staging c ≡ true → block ≡ c → ⊥
  was_not c h s =
      vacant_buffer (core.owner block) vacant (subst (λ c. IsOfBuffer (core.owner c)) (sym s) (b.blocks.held c h).0)

  named_now : (staging bound : List Range) → Names core.is_staging core.owner staging bound
      → Names is_staging own staging bound
  named_now staging bound h = (
    (λ c n. let x = h.0 c n in st_other c (was_not c x) ∙ x),
    (λ c n. kept_both block now core.owner IsMade tt c (h.1 c n)),
  )

  newest_now : (top : Option Newest) → IsNewest (open_number core) core.owner top → IsNewest (open_number core) own top
  newest_now None h = tt
  newest_now (Some n) h = (
    kept_other block now core.owner (IsPageOf (open_number core))
        (vacant_page (open_number core) (core.owner block) vacant) n.page.block h.0,
    kept_both block now core.owner (IsFreeFrom n.used) tt n.page.block h.1,
  )

  -- another buffer's block is another
  other_buffer : (r c : ℕ) → (r == buffer) ≡ false → updated buffer (Some block) core.blocks r ≡ Some c
      → (core.blocks r ≡ Some c) × (block ≡ c → ⊥)
  other_buffer r c n is = let e : core.blocks r ≡ Some c = sym (ap (λ x. cond x (Some block) (core.blocks r)) n)
      ∙ is in (e, strange r c e)

  pub given_beside : Beside script (record core {
    past = core.past ++ t ∷ [];
    blocks = updated buffer (Some block) core.blocks;
    owner = own;
    board = board;
    pool = pool;
    is_staging = is_staging;
    fence = fence;
  })
  given_beside = record {
    places = places;
    pages = record {
      handed = kept_pages block now core.owner (taken_count core) (open_number core) (later core) (let l =
          handed_length core in omega (arith, l))
          (λ m l p. vacant_page m (core.owner block) vacant p) b.pages.handed;
      opened = all_map (λ p. IsPageOf (open_number core) (core.owner p.block))
          (λ p. IsPageOf (open_number core) (own p.block))
          (λ p h. kept_other block now core.owner (IsPageOf (open_number core))
          (vacant_page (open_number core) (core.owner block) vacant) p.block h) core.open_chunk.pages
          b.pages.opened;
      apart = b.pages.apart;
      newest = subst (IsNewest (open_number core) own) (sym same_newest) (newest_now core.pool.newest b.pages.newest);
    };
    blocks = record {
      alike = λ r c is.
          elim (cases_Bool (r == buffer)) [
            | inl e ↦
                let there : Some block ≡ Some c = sym (ap (λ x. cond x (Some block) (core.blocks r)) e) ∙ is in
                let same : block ≡ c = cc there in
                ap is_staging (sym same) ∙ st_here ∙ ap script.is_staging (sym (eqb-true r buffer e))
            | inr n ↦ let x = other_buffer r c n is in st_other c x.1 ∙ b.blocks.alike r c x.0
          ];
      held = λ c h.
          elim (cases_Bool (c == block)) [
            | inl e ↦
                let same = eqb-true c block e in (
                  subst IsOfBuffer (sym (given_here block now core.owner c same)) tt,
                  ap has_class same
                      ∙ st_class (sym st_here ∙ ap is_staging (sym same) ∙ h),
                )
            | inr n ↦
                let diff : block ≡ c → ⊥ = λ s. both_ways (c == block) n (eq-eqb c block (sym s)) in
                let x = b.blocks.held c (sym (st_other c diff) ∙ h) in
                (subst IsOfBuffer (sym (given_other block now core.owner c (λ s. diff (sym s)))) x.0, x.1)
          ];
    };
    named = all_map (λ s. Names core.is_staging core.owner s.staging s.bound)
        (λ s. Names is_staging own s.staging s.bound) (λ s h. named_now s.staging s.bound h)
        (core.taken ++ later core) b.named;
    named_open = named_now core.open_chunk.staging core.open_chunk.bound b.named_open;
    bound = λ r c i is h.
        elim (cases_Bool (r == buffer)) [
          | inl e ↦
              let there : Some block ≡ Some c = sym (ap (λ x. cond x (Some block) (core.blocks r)) e) ∙ is in
              let same : block ≡ c = cc there in
              absurd (let z : bound_at now i ≡ true = ap (λ o. bound_at o i)
              (sym (given_here block now core.owner c (sym same))) ∙ h in cc z)
          | inr n ↦
              let x = other_buffer r c n is in
              stays_bound r core.past t i (quiet r n)
              (or_left (is_bound r core.past false i) (in_ranges (bound_by t) r i)
              (b.bound r c i x.0 (ap (λ o. bound_at o i)
              (sym (given_other block now core.owner c (λ s. x.1 (sym s)))) ∙ h)))
        ];
  }
