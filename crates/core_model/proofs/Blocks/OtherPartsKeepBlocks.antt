-- What holds beside the invariant is kept by each step of a part other than App, by posts that App takes, and by a
-- hand-over.
use Rattle.std.proofs.Common.{◌≡◌, ℕ, suc, ◌+◌, ◌*◌, ◌<◌, ◌≤◌, Bool, true, false, cond, ◌==◌, List, [], ◌∷◌, ◌++◌}
use Rattle.std.proofs.Common.{sym, ap, ◌∙◌, subst, ◌⊎◌, inl, inr, Option, Some, None, slice_get, slice_set}
use Rattle.std.proofs.Common.{arith}
use Rattle.std.specs.List.{AllByRecursion}
use Rattle.std.proofs.lemmas.Bool.{both_ways, cases_Bool, eqb-true, eq-eqb}
use Rattle.base_lemmas.proofs.Lists.{all_map}
use Rattle.core_model.specs.Script.{Script, updated}
use Rattle.core_model.specs.CoreState.{Segment, Owner, Unmade, Home, Returning, Spare, Board}
use Rattle.core_model.specs.CoreState.{Newest, Core, later, taken_count, open_number}
use Rattle.core_model.specs.Owners.{finish_owner}
use Rattle.core_model.specs.Kept.{IsPageOf, IsFreeFrom, IsTakenBy, IsOfBuffer, IsMade, bound_at, ArePaged, IsNewest}
use Rattle.core_model.specs.Kept.{PlacesRight, PagesRight, Names, Beside, Traced, IsTraced}
use Rattle.core_model.proofs.Steps.ChunkMoves.{moved, same_count}
use Rattle.core_model.proofs.Blocks.OwnerChanges.{places_by, blocks_by, names_by, named_by, paged_by, finish_keeps}
use Rattle.core_model.proofs.Blocks.OwnerChanges.{finish_page, finish_free, finish_bound, set_other, set_here}

-- The other parts ---------------------------------------------------------------------------------------------------

-- chunks move on, in the same line
module _ (script : Script) (old new : Core) (e : later new ≡ later old) where
  abbrev now : Core
  now = moved old new

  same_number : open_number now ≡ open_number old
  same_number = ap suc (same_count old new e)

  moved_beside : Beside script (record old { owner = new.owner; board = new.board }) → Beside script now
  moved_beside b = record {
    places = b.places;
    pages =
        subst (λ l. PagesRight new.owner (taken_count old) (open_number now) l old.open_chunk.pages old.pool.newest)
        (sym e)
        (subst (λ n. PagesRight new.owner (taken_count old) n (later old) old.open_chunk.pages old.pool.newest)
        (sym same_number) b.pages);
    blocks = b.blocks;
    named = subst (λ l. AllByRecursion (λ s. Names old.is_staging new.owner s.staging s.bound) (old.taken ++ l)) (sym e)
        b.named;
    named_open = b.named_open;
    bound = b.bound;
  }

-- and so do the turns that the chunks have
abbrev pub Both : Script → Core → Type 0
Both script core = Beside script core × IsTraced script core

pub moved_both : (script : Script) (old new : Core) → later new ≡ later old
    → Beside script (record old { owner = new.owner; board = new.board }) → IsTraced script old
    → Both script (moved old new)
moved_both script old new e b k = (
  moved_beside script old new e b,
  subst (λ l. Traced script old.blocks old.past (old.taken ++ l) old.open_chunk.turns old.open_chunk.bound
      old.open_chunk.writes old.open_chunk.commands) (sym e) k,
)

pub newest_by : (f : ℕ → Owner → Owner) (n : ℕ) (own : ℕ → Owner) (top : Option Newest)
    → ((b : ℕ) (o : Owner) → IsPageOf n o → IsPageOf n (f b o))
    → ((b at : ℕ) (o : Owner) → IsFreeFrom at o → IsFreeFrom at (f b o)) → IsNewest n own top
    → IsNewest n (λ b. f b (own b)) top
newest_by f n own None p q h = tt
newest_by f n own (Some t) p q h = (p t.page.block (own t.page.block) h.0, q t.page.block t.used (own t.page.block) h.1)

pub finished_beside : (script : Script) (old : Core) (n : ℕ) → Beside script old
    → Beside script (record old { owner = λ b. finish_owner n b (old.owner b) })
finished_beside script old n b = record {
  places = places_by (finish_owner n) (finish_keeps n) old.board old.pool old.owner old.fence b.places;
  pages = record {
    handed = paged_by (finish_owner n) (taken_count old) old.owner (later old) (λ b m o l h. finish_page n b m o h)
        b.pages.handed;
    opened = all_map (λ p. IsPageOf (open_number old) (old.owner p.block))
        (λ p. IsPageOf (open_number old) (finish_owner n p.block (old.owner p.block)))
        (λ p h. finish_page n p.block (open_number old) (old.owner p.block) h) old.open_chunk.pages b.pages.opened;
    apart = b.pages.apart;
    newest = newest_by (finish_owner n) (open_number old) old.owner old.pool.newest
        (λ b o h. finish_page n b (open_number old) o h) (λ b at o h. finish_free n b at o h) b.pages.newest;
  };
  blocks = blocks_by (finish_owner n) (finish_keeps n) script old.blocks old.is_staging old.owner b.blocks;
  named = named_by (finish_owner n) (finish_keeps n) old.is_staging old.owner (old.taken ++ later old) b.named;
  named_open = names_by (finish_owner n) (finish_keeps n) old.is_staging old.owner old.open_chunk.staging
      old.open_chunk.bound b.named_open;
  bound = λ r c i e h. b.bound r c i e (finish_bound n c i (old.owner c) h);
}

-- A block comes home ------------------------------------------------------------------------------------------------

module _ (script : Script) (old : Core) (block place class k : ℕ) (e : old.owner block ≡ Returning k)
    (low : class * 64 ≤ block) (high : block < class * 64 + 64)
    (vacant : slice_get (old.board.places class) place ≡ Some None) where
  abbrev pub own : ℕ → Owner
  own = updated block (Home k) old.owner

  abbrev pub board : Board
  board = record old.board {
    places = updated class (slice_set (old.board.places class) place (Some block))
        old.board.places;
  }

  own_other : (b : ℕ) → (b ≡ block → ⊥) → own b ≡ old.owner b
  own_other b n = let d : (b == block) ≡ false = elim (cases_Bool (b == block))
      [ inl t ↦ absurd (n (eqb-true b block t)) | inr f ↦ f ] in ap (λ c. cond c (Home k) (old.owner b)) d

  own_here : (b : ℕ) → b ≡ block → own b ≡ Home k
  own_here b s = ap (λ c. cond c (Home k) (old.owner b)) (eq-eqb b block s)

  -- an owner that is not on its way home is of another block
  other : (P : Owner → Type 0) → (P (Returning k) → ⊥) → (b : ℕ) → P (old.owner b) → P (own b)
  other P n b h = subst P (sym (own_other b (λ s. n (subst P (ap old.owner s ∙ e) h)))) h

  -- what is in a place now was there, or is the block
  in_place : (c p b : ℕ) → slice_get (board.places c) p ≡ Some (Some b) → ((c ≡ class) × (p ≡ place) × (b ≡ block))
      ⊎ (slice_get (old.board.places c) p ≡ Some (Some b))
  in_place c p b h =
      elim (cases_Bool (c == class)) [
        | inr f ↦ inr
            (sym (ap (λ x. slice_get (cond x (slice_set (old.board.places class) place (Some block))
            (old.board.places c)) p) f) ∙ h)
        | inl t ↦
            let same = eqb-true c class t in
            let here : slice_get (slice_set (old.board.places class) place (Some block)) p ≡ Some (Some b) =
            sym (ap (λ x. slice_get (cond x (slice_set (old.board.places class) place (Some block))
            (old.board.places c)) p) t) ∙ h in
            elim (cases_Bool (p == place)) [
              | inl u ↦
                  let at = eqb-true p place u in
                  let is : Some block ≡ Some b = set_here (old.board.places class) place (Some block) (Some b)
                  (ap (slice_get (slice_set (old.board.places class) place (Some block))) (sym at) ∙ here) in
                  inl (same, at, (let z : block ≡ b = cc is in sym z))
              | inr v ↦
                  inr (ap (λ c. slice_get (old.board.places c) p) same
                  ∙ sym (set_other (old.board.places class) place p (Some block)
                  (λ s. both_ways (p == place) v (eq-eqb p place s))) ∙ here)
            ]
      ]

  not_home : (p : PlacesRight old.board old.pool old.owner old.fence) → (c q : ℕ)
      → slice_get (old.board.places c) q ≡ Some (Some block) → ⊥
  not_home p c q h = let x = p.home c q block h in (let z : Returning k ≡ Home x.2 = sym e ∙ x.3 in cc z)

  pub homed_beside : Beside script old → Beside script (record old { owner = own; board = board })
  homed_beside b = let p = b.places in record {
    places = record {
      home = λ c q d h.
          elim (in_place c q d h) [
            | inl x ↦
                let s = x.0 in
                let u = x.2 in (
                  let z : c * 64 ≤ d = subst (λ c. c * 64 ≤ d) (sym s) (omega (arith, u, low)) in
                      z,
                  (let z : d < c * 64 + 64 = subst (λ c. d < c * 64 + 64) (sym s) (omega (arith, u, high)) in
                      z),
                  k,
                  own_here d u,
                )
            | inr x ↦ let w = p.home c q d x in (w.0, w.1, w.2, other (λ o. o ≡ Home w.2) (λ z. cc z) d w.3)
          ];
      apart = λ c q r d h j.
          elim (in_place c q d h) [
            | inl x ↦ elim (in_place c r d j) [
              | inl y ↦ x.1 ∙ sym y.1
              | inr y ↦ absurd (not_home p c r (subst (λ d. slice_get (old.board.places c) r ≡ Some (Some d)) x.2 y))
            ]
            | inr x ↦ elim (in_place c r d j) [
              | inl y ↦ absurd (not_home p c q (subst (λ d. slice_get (old.board.places c) q ≡ Some (Some d)) y.2 x))
              | inr y ↦ p.apart c q r d x y
            ]
          ];
      unmade = λ c j l m n. other (λ o. o ≡ Unmade) (λ z. cc z) (c * 64 + j) (p.unmade c j l m n);
      next = p.next;
      fresh = λ d l. other (λ o. o ≡ Unmade) (λ z. cc z) d (p.fresh d l);
      spare = all_map (λ q. old.owner q.block ≡ Spare) (λ q. own q.block ≡ Spare)
          (λ q h. other (λ o. o ≡ Spare) (λ z. cc z) q.block h) old.pool.spare p.spare;
      spares = p.spares;
      taken = λ d. taken_by d (d == block);
    };
    pages = record {
      handed = paged (taken_count old) (later old) b.pages.handed;
      opened = all_map (λ q. IsPageOf (open_number old) (old.owner q.block))
          (λ q. IsPageOf (open_number old) (own q.block)) (λ q h. other (IsPageOf (open_number old)) (λ z. z)
          q.block h) old.open_chunk.pages b.pages.opened;
      apart = b.pages.apart;
      newest = newest_home old.pool.newest b.pages.newest;
    };
    blocks = record {
      alike = b.blocks.alike;
      held = λ d s. let h = b.blocks.held d s in
          (other IsOfBuffer (λ z. z) d h.0, h.1);
    };
    named = all_map (λ s. Names old.is_staging old.owner s.staging s.bound)
        (λ s. Names old.is_staging own s.staging s.bound) (λ s h. (h.0, (λ d n. made d (h.1 d n))))
        (old.taken ++ later old) b.named;
    named_open = (b.named_open.0, (λ d n. made d (b.named_open.1 d n)));
    bound = λ r d i is h. b.bound r d i is (bound_by d i (d == block) h);
  }
    where
      taken_by : (d : ℕ) (c : Bool) → IsTakenBy old.fence (cond c (Home k) (old.owner d))
      taken_by d true = tt
      taken_by d false = b.places.taken d

      newest_home : (top : Option Newest) → IsNewest (open_number old) old.owner top
          → IsNewest (open_number old) own top
      newest_home None h = tt
      newest_home (Some t) h = (
        other (IsPageOf (open_number old)) (λ z. z) t.page.block h.0,
        free_home (t.page.block == block),
      )
        where
          free_home : (c : Bool) → IsFreeFrom t.used (cond c (Home k) (old.owner t.page.block))
          free_home true = tt
          free_home false = h.1

      paged : (n : ℕ) (ss : List Segment) → ArePaged n old.owner ss → ArePaged n own ss
      paged n [] h = tt
      paged n (s ∷ ss) h = (
        all_map (λ q. IsPageOf (suc n) (old.owner q.block)) (λ q. IsPageOf (suc n) (own q.block))
            (λ q x. other (IsPageOf (suc n)) (λ z. z) q.block x) s.pages h.0,
        h.1,
        paged (suc n) ss h.2,
      )

      made : (d : ℕ) → IsMade (old.owner d) → IsMade (own d)
      made d h = by (d == block)
        where
          by : (c : Bool) → IsMade (cond c (Home k) (old.owner d))
          by true = tt
          by false = h

      bound_by : (d i : ℕ) (c : Bool) → bound_at (cond c (Home k) (old.owner d)) i ≡ true
          → bound_at (old.owner d) i ≡ true
      bound_by d i true h = absurd (cc h)
      bound_by d i false h = h
