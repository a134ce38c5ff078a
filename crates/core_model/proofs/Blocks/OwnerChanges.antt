-- How what holds beside the invariant is kept: where blocks and pages stand, as owners change.
use Rattle.std.proofs.Common.{◌≡◌, ℕ, zero, suc, ◌<◌, Bool, true, false, cond, ◌==◌, List, []}
use Rattle.std.proofs.Common.{◌∷◌, refl, sym, ap, subst, inl, inr, Option, Some, slice_get, slice_set, arith}
use Rattle.std.proofs.lemmas.Bool.{cases_Bool, eqb-true, eq-eqb}
use Rattle.core_model.specs.CoreState.{Owner, Unmade, Home, Returning, Spare, Live, Retired, Paged, Dropped}
use Rattle.core_model.specs.CoreState.{has_class}
use Rattle.core_model.specs.Owners.{retire_owner, is_block, finish_owner, return_owner}
use Rattle.core_model.specs.Kept.{IsPageOf, IsFreeFrom, IsTakenBy, IsOfBuffer, IsMade, bound_at}
pub use Rattle.core_model.proofs.Blocks.OwnerBinding.{places_by, blocks_by, names_by, named_by, paged_by, bind_page}
pub use Rattle.core_model.proofs.Blocks.OwnerBinding.{bind_keeps, bind_free, bind_bound}
use Rattle.core_model.proofs.Blocks.OwnerBinding.{Keeps}

-- A block is retired ------------------------------------------------------------------------------------------------

retire_taken : (n fence : ℕ) (o : Owner) → IsTakenBy fence o → IsTakenBy fence (retire_owner n o)
retire_taken n fence Unmade h = h
retire_taken n fence (Home k) h = h
retire_taken n fence (Returning k) h = h
retire_taken n fence Spare h = h
retire_taken n fence (Live buffer since bound) h = tt
retire_taken n fence (Retired k since bound) h = h
retire_taken n fence (Paged k since bound) h = h
retire_taken n fence Dropped h = h

retire_buffer : (n : ℕ) (o : Owner) → IsOfBuffer o → IsOfBuffer (retire_owner n o)
retire_buffer n Unmade h = h
retire_buffer n (Home k) h = h
retire_buffer n (Returning k) h = h
retire_buffer n Spare h = h
retire_buffer n (Live buffer since bound) h = h
retire_buffer n (Retired k since bound) h = h
retire_buffer n (Paged k since bound) h = h
retire_buffer n Dropped h = h

retire_made : (n : ℕ) (o : Owner) → IsMade o → IsMade (retire_owner n o)
retire_made n Unmade h = h
retire_made n (Home k) h = h
retire_made n (Returning k) h = h
retire_made n Spare h = h
retire_made n (Live buffer since bound) h = h
retire_made n (Retired k since bound) h = h
retire_made n (Paged k since bound) h = h
retire_made n Dropped h = h

retire_page : (n m : ℕ) (o : Owner) → IsPageOf m o → IsPageOf m (retire_owner n o)
retire_page n m Unmade h = h
retire_page n m (Home k) h = h
retire_page n m (Returning k) h = h
retire_page n m Spare h = h
retire_page n m (Live buffer since bound) h = absurd h
retire_page n m (Retired k since bound) h = h
retire_page n m (Paged k since bound) h = h
retire_page n m Dropped h = h

retire_free : (n at : ℕ) (o : Owner) → IsFreeFrom at o → IsFreeFrom at (retire_owner n o)
retire_free n at Unmade h = h
retire_free n at (Home k) h = h
retire_free n at (Returning k) h = h
retire_free n at Spare h = h
retire_free n at (Live buffer since bound) h = h
retire_free n at (Retired k since bound) h = h
retire_free n at (Paged k since bound) h = h
retire_free n at Dropped h = h

retire_bound : (n i : ℕ) (o : Owner) → bound_at (retire_owner n o) i ≡ true → bound_at o i ≡ true
retire_bound n i Unmade h = h
retire_bound n i (Home k) h = h
retire_bound n i (Returning k) h = h
retire_bound n i Spare h = h
retire_bound n i (Live buffer since bound) h = absurd (cc h)
retire_bound n i (Retired k since bound) h = h
retire_bound n i (Paged k since bound) h = h
retire_bound n i Dropped h = h

-- the block of an option, by a chunk
abbrev pub retire : Option ℕ → ℕ → ℕ → Owner → Owner
retire old n b o = cond (is_block old b) (retire_owner n o) o

by_either : (P : Owner → Type 0) (c : Bool) (x y : Owner) → P x → P y → P (cond c x y)
by_either P true x y h k = h
by_either P false x y h k = k

pub retire_keeps : (old : Option ℕ) (n : ℕ) → Keeps (retire old n)
retire_keeps old n = record {
  unmade = λ b. by_either (λ o. o ≡ Unmade) (is_block old b) Unmade Unmade refl refl;
  home = λ b k. by_either (λ o. o ≡ Home k) (is_block old b) (Home k) (Home k) refl refl;
  spare = λ b. by_either (λ o. o ≡ Spare) (is_block old b) Spare Spare refl refl;
  taken = λ fence b o h. by_either (IsTakenBy fence) (is_block old b) (retire_owner n o) o (retire_taken n fence o h) h;
  buffer = λ b o c h. by_either IsOfBuffer (is_block old b) (retire_owner n o) o (retire_buffer n o h) h;
  made = λ b o h. by_either IsMade (is_block old b) (retire_owner n o) o (retire_made n o h) h;
}

pub retire_paged : (old : Option ℕ) (n b m : ℕ) (o : Owner) → IsPageOf m o → IsPageOf m (retire old n b o)
retire_paged old n b m o h = by_either (IsPageOf m) (is_block old b) (retire_owner n o) o (retire_page n m o h) h

pub retire_newest : (old : Option ℕ) (n b at : ℕ) (o : Owner) → IsFreeFrom at o → IsFreeFrom at (retire old n b o)
retire_newest old n b at o h = by_either (IsFreeFrom at) (is_block old b) (retire_owner n o) o (retire_free n at o h) h

pub retire_bounds : (old : Option ℕ) (n b i : ℕ) (o : Owner) → bound_at (retire old n b o) i ≡ true
    → bound_at o i ≡ true
retire_bounds old n b i o h = by (is_block old b) h
  where
    by : (c : Bool) → bound_at (cond c (retire_owner n o) o) i ≡ true → bound_at o i ≡ true
    by true h = retire_bound n i o h
    by false h = h

-- A post is made ----------------------------------------------------------------------------------------------------

finish_taken : (n fence b : ℕ) (o : Owner) → IsTakenBy fence o → IsTakenBy fence (finish_owner n b o)
finish_taken n fence b Unmade h = h
finish_taken n fence b (Home k) h = h
finish_taken n fence b (Returning k) h = h
finish_taken n fence b Spare h = h
finish_taken n fence b (Live buffer since bound) h = h
finish_taken n fence b (Retired k since bound) h = by_either (IsTakenBy fence) (k == n)
    (cond (has_class b) (Returning k) Dropped) (Retired k since bound)
    (by_either (IsTakenBy fence) (has_class b) (Returning k) Dropped tt tt) tt
finish_taken n fence b (Paged k since bound) h = h
finish_taken n fence b Dropped h = h

finish_buffer : (n b : ℕ) (o : Owner) → has_class b ≡ false → IsOfBuffer o → IsOfBuffer (finish_owner n b o)
finish_buffer n b Unmade c h = h
finish_buffer n b (Home k) c h = h
finish_buffer n b (Returning k) c h = h
finish_buffer n b Spare c h = h
finish_buffer n b (Live buffer since bound) c h = h
finish_buffer n b (Retired k since bound) c h = by_either IsOfBuffer (k == n)
    (cond (has_class b) (Returning k) Dropped) (Retired k since bound)
    (subst (λ x. IsOfBuffer (cond x (Returning k) Dropped)) (sym c) tt) tt
finish_buffer n b (Paged k since bound) c h = h
finish_buffer n b Dropped c h = h

finish_made : (n b : ℕ) (o : Owner) → IsMade o → IsMade (finish_owner n b o)
finish_made n b Unmade h = h
finish_made n b (Home k) h = h
finish_made n b (Returning k) h = h
finish_made n b Spare h = h
finish_made n b (Live buffer since bound) h = h
finish_made n b (Retired k since bound) h = by_either IsMade (k == n) (cond (has_class b) (Returning k) Dropped)
    (Retired k since bound) (by_either IsMade (has_class b) (Returning k) Dropped tt tt) tt
finish_made n b (Paged k since bound) h = h
finish_made n b Dropped h = h

pub finish_keeps : (n : ℕ) → Keeps (finish_owner n)
finish_keeps n = record {
  unmade = λ b. refl;
  home = λ b k. refl;
  spare = λ b. refl;
  taken = finish_taken n;
  buffer = finish_buffer n;
  made = finish_made n;
}

pub finish_page : (n b m : ℕ) (o : Owner) → IsPageOf m o → IsPageOf m (finish_owner n b o)
finish_page n b m Unmade h = h
finish_page n b m (Home k) h = h
finish_page n b m (Returning k) h = h
finish_page n b m Spare h = h
finish_page n b m (Live buffer since bound) h = h
finish_page n b m (Retired k since bound) h = absurd h
finish_page n b m (Paged k since bound) h = h
finish_page n b m Dropped h = h

pub finish_free : (n b at : ℕ) (o : Owner) → IsFreeFrom at o → IsFreeFrom at (finish_owner n b o)
finish_free n b at Unmade h = h
finish_free n b at (Home k) h = h
finish_free n b at (Returning k) h = h
finish_free n b at Spare h = h
finish_free n b at (Live buffer since bound) h = h
finish_free n b at (Retired k since bound) h = by_either (IsFreeFrom at) (k == n)
    (cond (has_class b) (Returning k) Dropped) (Retired k since bound)
    (by_either (IsFreeFrom at) (has_class b) (Returning k) Dropped tt tt) tt
finish_free n b at (Paged k since bound) h = h
finish_free n b at Dropped h = h

pub finish_bound : (n b i : ℕ) (o : Owner) → bound_at (finish_owner n b o) i ≡ true → bound_at o i ≡ true
finish_bound n b i Unmade h = h
finish_bound n b i (Home k) h = h
finish_bound n b i (Returning k) h = h
finish_bound n b i Spare h = h
finish_bound n b i (Live buffer since bound) h = h
finish_bound n b i (Retired k since bound) h = by (k == n) (has_class b) h
  where
    by : (x y : Bool) → bound_at (cond x (cond y (Returning k) Dropped) (Retired k since bound)) i ≡ true → false ≡ true
    by true true h = h
    by true false h = h
    by false y h = h
finish_bound n b i (Paged k since bound) h = h
finish_bound n b i Dropped h = h

-- A post is taken ---------------------------------------------------------------------------------------------------

return_taken : (n fence b : ℕ) (o : Owner) → IsTakenBy fence o → IsTakenBy fence (return_owner n o)
return_taken n fence b Unmade h = h
return_taken n fence b (Home k) h = h
return_taken n fence b (Returning k) h = h
return_taken n fence b Spare h = h
return_taken n fence b (Live buffer since bound) h = h
return_taken n fence b (Retired k since bound) h = h
return_taken n fence b (Paged k since bound) h = by_either (IsTakenBy fence) (k == n) Spare (Paged k since bound) tt h
return_taken n fence b Dropped h = h

return_buffer : (n b : ℕ) (o : Owner) → has_class b ≡ false → IsOfBuffer o → IsOfBuffer (return_owner n o)
return_buffer n b Unmade c h = h
return_buffer n b (Home k) c h = h
return_buffer n b (Returning k) c h = h
return_buffer n b Spare c h = h
return_buffer n b (Live buffer since bound) c h = h
return_buffer n b (Retired k since bound) c h = h
return_buffer n b (Paged k since bound) c h = absurd h
return_buffer n b Dropped c h = h

return_made : (n b : ℕ) (o : Owner) → IsMade o → IsMade (return_owner n o)
return_made n b Unmade h = h
return_made n b (Home k) h = h
return_made n b (Returning k) h = h
return_made n b Spare h = h
return_made n b (Live buffer since bound) h = h
return_made n b (Retired k since bound) h = h
return_made n b (Paged k since bound) h = by_either IsMade (k == n) Spare (Paged k since bound) tt tt
return_made n b Dropped h = h

pub return_keeps : (n : ℕ) → Keeps (λ b o. return_owner n o)
return_keeps n = record {
  unmade = λ b. refl;
  home = λ b k. refl;
  spare = λ b. refl;
  taken = return_taken n;
  buffer = return_buffer n;
  made = return_made n;
}

pub return_page : (n m : ℕ) (o : Owner) → n < m → IsPageOf m o → IsPageOf m (return_owner n o)
return_page n m Unmade l h = h
return_page n m (Home k) l h = h
return_page n m (Returning k) l h = h
return_page n m Spare l h = h
return_page n m (Live buffer since bound) l h = h
return_page n m (Retired k since bound) l h = h
return_page n m (Paged k since bound) l h = subst (λ c. IsPageOf m (cond c Spare (Paged k since bound)))
    (let d : false ≡ (k == n) = elim (cases_Bool (k == n)) [
      | inl t ↦ let e = eqb-true k n t in
          absurd (let z : ⊥ = omega (arith, e, l, h) in z)
      | inr f ↦ sym f
    ] in d) h
return_page n m Dropped l h = h

pub return_spare : (n : ℕ) (o : Owner) → IsPageOf n o → return_owner n o ≡ Spare
return_spare n Unmade h = absurd h
return_spare n (Home k) h = absurd h
return_spare n (Returning k) h = absurd h
return_spare n Spare h = absurd h
return_spare n (Live buffer since bound) h = absurd h
return_spare n (Retired k since bound) h = absurd h
return_spare n (Paged k since bound) h = ap (λ c. cond c Spare (Paged k since bound)) (eq-eqb k n h)
return_spare n Dropped h = absurd h

pub return_free : (n at : ℕ) (o : Owner) → IsFreeFrom at o → IsFreeFrom at (return_owner n o)
return_free n at Unmade h = h
return_free n at (Home k) h = h
return_free n at (Returning k) h = h
return_free n at Spare h = h
return_free n at (Live buffer since bound) h = h
return_free n at (Retired k since bound) h = h
return_free n at (Paged k since bound) h = by_either (IsFreeFrom at) (k == n) Spare (Paged k since bound) tt h
return_free n at Dropped h = h

pub return_bound : (n b i : ℕ) (o : Owner) → bound_at (return_owner n o) i ≡ true → bound_at o i ≡ true
return_bound n b i Unmade h = h
return_bound n b i (Home k) h = h
return_bound n b i (Returning k) h = h
return_bound n b i Spare h = h
return_bound n b i (Live buffer since bound) h = h
return_bound n b i (Retired k since bound) h = h
return_bound n b i (Paged k since bound) h = by (k == n) h
  where
    by : (x : Bool) → bound_at (cond x Spare (Paged k since bound)) i ≡ true → false ≡ true
    by true h = h
    by false h = h
return_bound n b i Dropped h = h

-- Places of a board -------------------------------------------------------------------------------------------------

pub set_other : {A : Type 0} (xs : List A) (i j : ℕ) (x : A) → (j ≡ i → ⊥)
    → slice_get (slice_set xs i x) j ≡ slice_get xs j
set_other [] i j x n = refl
set_other (y ∷ ys) zero zero x n = absurd (n refl)
set_other (y ∷ ys) zero (suc j) x n = refl
set_other (y ∷ ys) (suc i) zero x n = refl
set_other (y ∷ ys) (suc i) (suc j) x n = set_other ys i j x (λ e. n (ap suc e))

pub set_here : {A : Type 0} (xs : List A) (i : ℕ) (x y : A) → slice_get (slice_set xs i x) i ≡ Some y → x ≡ y
set_here [] i x y e = absurd (cc e)
set_here (z ∷ zs) zero x y e = cc e
set_here (z ∷ zs) (suc i) x y e = set_here zs i x y e
