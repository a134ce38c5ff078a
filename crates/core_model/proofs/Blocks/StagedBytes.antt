-- What bytes that are staged leave of what holds beside the invariant.
use Rattle.std.proofs.Common.{◌≡◌, ℕ, ◌+◌, ◌*◌, ◌<◌, Bool, true, false, ◌||◌, ◌==◌, List, [], ◌∷◌, ◌++◌, map, refl}
use Rattle.std.proofs.Common.{sym, ap, ◌∙◌, subst, inl, inr, Option, Some, arith, append-nil}
use Rattle.std.specs.List.{AllByRecursion}
use Rattle.std.proofs.lemmas.Bool.{cases_Bool, or_cases, eqb-true}
use Rattle.dx_types.specs.declared.range.Range.{Range}
use Rattle.base_lemmas.specs.Lists.{Pairwise}
use Rattle.vk_types.specs.Memory.{covers}
use Rattle.vk_types.specs.Effects.{Meaning}
use Rattle.base_lemmas.proofs.Lists.{all_front, all_back, all_append, all_map, all_both, pairs_append, pairs_without}
use Rattle.base_lemmas.proofs.Lists.{pairs_to, pairs_back}
use Rattle.vk_types.proofs.Local.{covered_block, covered_to}
use Rattle.core_model.specs.Script.{Turn, Script, updated, at_start, in_order}
use Rattle.core_model.specs.Renaming.{range_on}
use Rattle.core_model.specs.CoreState.{Page, Owner, Unmade, Home, Returning, Spare, Live, Retired, Paged, Dropped}
use Rattle.core_model.specs.CoreState.{Board, Newest, Pool, Core, later, taken_count, finished_count, open_number}
use Rattle.core_model.specs.Owners.{in_ranges, bind_owner}
use Rattle.core_model.specs.Placing.{PageChoice, Staged, Stages, On_newest, On_spare, On_new, fresh_page}
use Rattle.core_model.specs.Placing.{with_length}
use Rattle.core_model.specs.Adding.{add_staging, staged_range}
use Rattle.core_model.specs.Stands.{Stands}
use Rattle.core_model.specs.Lawful.{resets, bound_by, is_bound, Fits}
use Rattle.core_model.specs.Invariant.{IsLive}
use Rattle.core_model.specs.Kept.{IsPageOf, IsFreeFrom, IsTakenBy, IsOfBuffer, IsMade, bound_at, AreApart, IsNewest}
use Rattle.core_model.specs.Kept.{PlacesRight, Names, Beside}
use Rattle.core_model.proofs.Steps.Binding.{or_left, or_right}
use Rattle.core_model.proofs.Steps.Segments.{handed_length}
use Rattle.core_model.proofs.Steps.StagedPages.{IsReady, live_of_buffer}
use Rattle.core_model.proofs.Blocks.OwnerChanges.{places_by, paged_by, blocks_by, bind_keeps, bind_page, bind_free}
use Rattle.core_model.proofs.Blocks.OwnerChanges.{bind_bound}
use Rattle.core_model.proofs.Blocks.BoundRanges.{stays_bound, bound_back, more_names}
use Rattle.core_model.proofs.Blocks.TakenBlocks.{given_other, given_here, kept_other, kept_both, kept_pages}

same_chunk : (m n : ℕ) (o : Owner) → IsPageOf m o → IsPageOf n o → m ≡ n
same_chunk m n Unmade p q = absurd p
same_chunk m n (Home k) p q = absurd p
same_chunk m n (Returning k) p q = absurd p
same_chunk m n Spare p q = absurd p
same_chunk m n (Live buffer since bound) p q = absurd p
same_chunk m n (Retired k since bound) p q = absurd p
same_chunk m n (Paged k since bound) p q = sym p ∙ q
same_chunk m n Dropped p q = absurd p

page_made : (n : ℕ) (o : Owner) → IsPageOf n o → IsMade o
page_made n Unmade p = p
page_made n (Home k) p = tt
page_made n (Returning k) p = tt
page_made n Spare p = tt
page_made n (Live buffer since bound) p = tt
page_made n (Retired k since bound) p = tt
page_made n (Paged k since bound) p = tt
page_made n Dropped p = tt

-- The page that is written to ---------------------------------------------------------------------------------------

pub record IsPut (board : Board) (after : Pool) (own : ℕ → Owner) (fence number len : ℕ) (s : Staged) (page : Owner)
    (pages : List Page) : Type 0 where
  pub places : PlacesRight board after (updated s.block page own) fence
  pub strange : (m : ℕ) → m < number → IsPageOf m (own s.block) → ⊥
  pub opened : AllByRecursion (λ p. IsPageOf number (updated s.block page own p.block)) (pages ++ s.added)
  pub apart : AreApart (pages ++ s.added)
  pub top : (n : Newest) × (after.newest ≡ Some n) × (n.page.block ≡ s.block) × (n.used ≡ s.at + len)

-- places where the block's owner was none that places speak of
page_places : (board : Board) (before : Pool) (newest : Option Newest) (own : ℕ
    → Owner) (fence block : ℕ) (page : Owner) → IsTakenBy fence page → PlacesRight board before own fence
    → ((k : ℕ) → own block ≡ Home k → ⊥) → (own block ≡ Unmade → ⊥) → (spare : List Page)
    → AllByRecursion (λ p. (own p.block ≡ Spare) × (p.block ≡ block → ⊥)) spare → AreApart spare
    → PlacesRight board (record before { spare = spare; newest = newest }) (updated block page own) fence
page_places board before newest own fence block page taken p home unmade spare all apart = record {
  home = λ c q b h. let x = p.home c q b h in (
    x.0,
    x.1,
    x.2,
    kept_other block page own (λ o. o ≡ Home x.2) (home x.2) b x.3,
  );
  apart = p.apart;
  unmade = λ c k l m n. kept_other block page own (λ o. o ≡ Unmade) unmade (c * 64 + k) (p.unmade c k l m n);
  next = p.next;
  fresh = λ b l. kept_other block page own (λ o. o ≡ Unmade) unmade b (p.fresh b l);
  spare = all_map (λ q. (own q.block ≡ Spare) × (q.block ≡ block → ⊥)) (λ q. updated block page own q.block ≡ Spare)
      (λ q h. given_other block page own q.block h.1 ∙ h.0) spare all;
  spares = apart;
  taken = λ b. kept_both block page own (IsTakenBy fence) taken b (p.taken b);
}

pub page_put : (choice : PageChoice) (len : ℕ) (s : Staged) (before after : Pool) → Stages choice len s before after
    → (board : Board) (own : ℕ → Owner) (fence number : ℕ) (page : Owner) (pages : List Page)
    → PlacesRight board before own fence → IsNewest number own before.newest → IsTakenBy fence page
    → IsPageOf number page → AllByRecursion (λ p. IsPageOf number (own p.block)) pages → AreApart pages
    → IsPut board after own fence number len s page pages
page_put choice len s before after (On_newest _ _ n e fits) board own fence number page pages p newest taken is
    opened apart =
    let x : IsNewest number own (Some n) = subst (IsNewest number own) e newest in
    let block = n.page.block in
    record {
      places = page_places board before (Some (record n { used = n.used + len })) own fence block page taken p
          (λ k h. subst (IsPageOf number) h x.0) (λ h. subst (IsPageOf number) h x.0) before.spare
          (all_map (λ q. own q.block ≡ Spare) (λ q. (own q.block ≡ Spare)
          × (q.block ≡ block → ⊥)) (λ q h. (h, (λ t. subst (IsPageOf number) (ap own (sym t) ∙ h) x.0)))
          before.spare p.spare) p.spares;
      strange = λ m l q. let z = same_chunk m number (own block) q x.0 in let w : ⊥ = omega (arith, z, l) in w;
      opened = subst (AllByRecursion (λ p. IsPageOf number (updated block page own p.block))) (sym (append-nil pages))
          (all_map (λ p. IsPageOf number (own p.block)) (λ p. IsPageOf number (updated block page own p.block))
          (λ p h. kept_both block page own (IsPageOf number) is p.block h) pages opened);
      apart = subst AreApart (sym (append-nil pages)) apart;
      top = (record n { used = n.used + len }, refl, refl, refl);
    }
page_put choice len s before after (On_spare _ _ front q back size e long none) board own fence number page pages p
    newest taken is opened apart =
    let block = q.block in
    let spare : AllByRecursion (λ p. own p.block ≡ Spare) (front ++ q ∷ back) =
    subst (AllByRecursion (λ p. own p.block ≡ Spare)) e p.spare in
    let behind : AllByRecursion (λ p. own p.block ≡ Spare) (q ∷ back) =
    all_back (λ p. own p.block ≡ Spare) front (q ∷ back) spare in
    let was : own block ≡ Spare = behind.0 in
    let R : Page → Page → Type 0 = λ p q. p.block ≡ q.block → ⊥ in
    let apart_all : Pairwise R (front ++ q ∷ back) = subst AreApart e p.spares in
    let later : Pairwise R (q ∷ back) = pairs_back R front (q ∷ back) apart_all in
    let not_page : (m : ℕ) → IsPageOf m (own block) → ⊥ = λ m h. subst (IsPageOf m) was h in
    record {
      places = page_places board before (Some (record { page = with_length q size; used = len })) own fence block
          page taken p
          (λ k h. let z : Spare ≡ Home k = sym was ∙ h in cc z) (λ h. let z : Spare ≡ Unmade = sym was
          ∙ h in cc z) (front ++ back)
          (all_append (λ p. (own p.block ≡ Spare) × (p.block ≡ block → ⊥)) front back
          (all_both (λ p. own p.block ≡ Spare) (λ p. p.block ≡ block
          → ⊥) front (all_front (λ p. own p.block ≡ Spare) front (q ∷ back) spare)
          (pairs_to R q front back apart_all))
          (all_both (λ p. own p.block ≡ Spare) (λ p. p.block ≡ block
          → ⊥) back behind.1 (all_map (R q) (λ p. p.block ≡ block → ⊥) (λ p h t. h (sym t)) back later.0)))
          (pairs_without R q front back apart_all);
      strange = λ m l h. not_page m h;
      opened =
          all_append (λ p. IsPageOf number (updated block page own p.block)) pages (with_length q size ∷ [])
          (all_map (λ p. IsPageOf number (own p.block)) (λ p. IsPageOf number (updated block page own p.block))
          (λ p h. kept_both block page own (IsPageOf number) is p.block h) pages opened)
          (subst (IsPageOf number) (sym (given_here block page own block refl)) is, tt);
      apart =
          pairs_append R pages (with_length q size ∷ []) apart (tt, tt)
          (all_map (λ p. IsPageOf number (own p.block)) (λ p. AllByRecursion (R p) (with_length q size ∷ []))
          (λ p h. ((λ t. not_page number (subst (λ b. IsPageOf number (own b)) t h)), tt)) pages opened);
      top = (record { page = with_length q size; used = len }, refl, refl, (let z : len ≡ 0 + len = omega arith in z));
    }
page_put choice len s before after (On_new _ _ none) board own fence number page pages p newest taken is opened apart =
    let block = before.next in
    let was : own block ≡ Unmade = p.fresh block (omega arith) in
    let R : Page → Page → Type 0 = λ p q. p.block ≡ q.block → ⊥ in
    let not_page : (m : ℕ) → IsPageOf m (own block) → ⊥ = λ m h. subst (IsPageOf m) was h in
    record {
      places = record {
        home = λ c q b h. let x = p.home c q b h in (
          x.0,
          x.1,
          x.2,
          kept_other block page own (λ o. o ≡ Home x.2) (λ h. let z : Unmade ≡ Home x.2 = sym was
              ∙ h in cc z) b x.3,
        );
        apart = p.apart;
        unmade = λ c k l m n. let big = p.next in given_other block page own (c * 64 + k) (λ t. let z : ⊥ =
            omega (arith, t, big, l, n) in z) ∙ p.unmade c k l m n;
        next = let big = p.next in omega (arith, big);
        fresh = λ b l. given_other block page own b (λ t. let z : ⊥ = omega (arith, t, l) in z)
            ∙ p.fresh b (omega (arith, l));
        spare = all_map (λ q. own q.block ≡ Spare) (λ q. updated block page own q.block ≡ Spare)
            (λ q h. kept_other block page own (λ o. o ≡ Spare) (λ h. let z : Unmade ≡ Spare = sym was
            ∙ h in cc z) q.block h) before.spare p.spare;
        spares = p.spares;
        taken = λ b. kept_both block page own (IsTakenBy fence) taken b (p.taken b);
      };
      strange = λ m l h. not_page m h;
      opened =
          all_append (λ p. IsPageOf number (updated block page own p.block)) pages s.added
          (all_map (λ p. IsPageOf number (own p.block)) (λ p. IsPageOf number (updated block page own p.block))
          (λ p h. kept_both block page own (IsPageOf number) is p.block h) pages opened)
          (subst (IsPageOf number) (sym (given_here block page own block refl)) is, tt);
      apart =
          pairs_append R pages s.added apart (tt, tt)
          (all_map (λ p. IsPageOf number (own p.block)) (λ p. AllByRecursion (R p) s.added)
          (λ p h. ((λ t. not_page number (subst (λ b. IsPageOf number (own b)) t h)), tt)) pages opened);
      top = (
        record { page = fresh_page before len; used = len },
        refl,
        refl,
        (let z : len ≡ 0 + len = omega arith in z),
      );
    }

-- All of it ---------------------------------------------------------------------------------------------------------

module _ (meaning : Meaning) (script : Script) (memory : ℕ → ℕ
    → ℕ) (old : Core) (b : Beside script old) (stands : Stands script memory old.blocks
    (in_order meaning script old.past at_start))
    (live : (r c : ℕ) → old.blocks r ≡ Some c → IsLive r (old.owner c)) (t : Turn) (quiet : (r : ℕ)
    → resets r t ≡ false)
    (fits : AllByRecursion (λ r. Fits meaning script old.past r × (r.from < r.to)) (bound_by t)) (len : ℕ)
    (s : Staged) (pool : Pool) (page : Owner)
    (ready : IsReady (taken_count old) (finished_count old) (open_number old) old.fence s.at (old.owner s.block)
    page) (put : IsPut old.board pool old.owner old.fence (open_number old) len s page old.open_chunk.pages) where
  abbrev rs : List Range
  rs = map (range_on old.blocks) (bound_by t)

  abbrev source : Range
  source = staged_range s len

  abbrev own : ℕ → Owner
  own = updated s.block page old.owner

  strange : (r c : ℕ) → old.blocks r ≡ Some c → s.block ≡ c → ⊥
  strange r c is same =
      ready.strange
      (live_of_buffer r (old.owner s.block) (subst (λ c. IsLive r (old.owner c)) (sym same) (live r c is)))

  newest_now : IsNewest (open_number old) (λ c. bind_owner (source ∷ rs) c (own c)) pool.newest
  newest_now =
      let n = put.top in
      subst (IsNewest (open_number old) (λ c. bind_owner (source ∷ rs) c (own c))) (sym n.1)
      (subst (λ c. IsPageOf (open_number old) (bind_owner (source ∷ rs) c (own c))
      × IsFreeFrom n.0.used (bind_owner (source ∷ rs) c (own c))) (sym n.2)
      (subst (λ o. IsPageOf (open_number old) (bind_owner (source ∷ rs) s.block o)
      × IsFreeFrom n.0.used (bind_owner (source ∷ rs) s.block o))
      (sym (given_here s.block page old.owner s.block refl)) (
        bind_page (source ∷ rs) s.block (open_number old) page ready.page,
        bind_free (source ∷ rs) s.block s.at n.0.used page (let u = n.3 in omega (arith, u))
            (λ i l.
            elim (cases_Bool (in_ranges (source ∷ rs) s.block i)) [
              | inr f ↦ f
              | inl x ↦ elim (or_cases (covers source s.block i) (in_ranges rs s.block i) x) [
                | inl y ↦ let u = n.3 in let w = covered_to source s.block i y in
                    absurd (let z : ⊥ = omega (arith, u, l, w) in z)
                | inr y ↦ let q = bound_back meaning script memory old.blocks old.past stands (bound_by t) fits
                    s.block i y in absurd (strange q.0 s.block q.1 refl)
              ]
            ]) ready.free,
      )))

  pub staged_beside : Beside script (record old {
    past = old.past ++ t ∷ [];
    owner = λ c. bind_owner (source ∷ rs) c (own c);
    pool = pool;
    open_chunk = record old.open_chunk {
      bound = old.open_chunk.bound ++ (source ∷ rs);
      staging = add_staging script old.blocks (bound_by t) old.open_chunk.staging;
      pages = old.open_chunk.pages ++ s.added;
    };
  })
  staged_beside =
      let f = bind_owner (source ∷ rs) in
      let k = bind_keeps (source ∷ rs) in
      record {
        places = places_by f k old.board pool own old.fence put.places;
        pages = record {
          handed =
              paged_by f (taken_count old) own (later old) (λ c m o l h. bind_page (source ∷ rs) c m o h)
              (kept_pages s.block page old.owner (taken_count old) (open_number old) (later old) (let l =
              handed_length old in omega (arith, l)) put.strange b.pages.handed);
          opened = all_map (λ p. IsPageOf (open_number old) (own p.block))
              (λ p. IsPageOf (open_number old) (f p.block (own p.block)))
              (λ p h. bind_page (source ∷ rs) p.block (open_number old) (own p.block) h)
              (old.open_chunk.pages ++ s.added) put.opened;
          apart = put.apart;
          newest = newest_now;
        };
        blocks =
            blocks_by f k script old.blocks old.is_staging own
            (record {
              alike = b.blocks.alike;
              held = λ c h. let x = b.blocks.held c h in
                  (kept_other s.block page old.owner IsOfBuffer ready.strange c x.0, x.1);
            });
        named = all_map (λ g. Names old.is_staging old.owner g.staging g.bound)
            (λ g. Names old.is_staging (λ c. f c (own c)) g.staging g.bound)
            (λ g h. (
              h.0,
              (λ c n. k.made c (own c) (kept_both s.block page old.owner IsMade
                  (page_made (open_number old) page ready.page) c (h.1 c n))),
            )) (old.taken ++ later old) b.named;
        named_open =
            more_names meaning script memory old b stands live t quiet fits (source ∷ []) (λ c. f c (own c))
            (λ c h. k.made c (own c) (kept_both s.block page old.owner IsMade
            (page_made (open_number old) page ready.page) c h))
            (λ c h.
            let same : s.block ≡ c = eqb-true s.block c (just (s.block == c) h) in
            k.made c (own c) (subst IsMade (sym (given_here s.block page old.owner c (sym same)))
            (page_made (open_number old) page ready.page)));
        bound = λ r c i is h.
            let kept : bound_at (f c (old.owner c)) i ≡ true =
            ap (λ o. bound_at (f c o) i)
            (sym (given_other s.block page old.owner c (λ e. strange r c is (sym e)))) ∙ h in
            stays_bound r old.past t i (quiet r)
            (elim (or_cases (bound_at (old.owner c) i) (in_ranges (source ∷ rs) c i)
            (bind_bound (source ∷ rs) c i (old.owner c) kept)) [
              | inl x ↦ or_left (is_bound r old.past false i) (in_ranges (bound_by t) r i) (b.bound r c i is x)
              | inr x ↦ elim (or_cases (covers source c i) (in_ranges rs c i) x) [
                | inl y ↦ absurd (strange r c is (covered_block source c i y))
                | inr y ↦
                    let q = bound_back meaning script memory old.blocks old.past stands (bound_by t) fits c i y in
                    or_right (is_bound r old.past false i) (in_ranges (bound_by t) r i)
                    (ap (λ q. in_ranges (bound_by t) q i) (stands.own r q.0 c is q.1) ∙ q.2)
              ]
            ]);
      }
    where
      just : (c : Bool) → (c || false) ≡ true → c ≡ true
      just true e = refl
      just false e = absurd (cc e)
