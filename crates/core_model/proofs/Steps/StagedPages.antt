-- The page that bytes are staged to: it is the open chunk's, no buffer's, and free from a place on.
use Rattle.std.proofs.Common.{◌≡◌, ℕ, ◌≤◌, true, List, ◌∷◌, refl, subst, inl, inr, Some, arith}
use Rattle.std.specs.List.{AllByRecursion}
use Rattle.std.proofs.lemmas.Bool.{both_ways}
use Rattle.dx_types.specs.declared.range.Range.{Range}
use Rattle.base_lemmas.proofs.Lists.{all_back}
use Rattle.core_model.specs.CoreState.{Owner, Unmade, Home, Returning, Spare, Live, Retired, Paged, Dropped, Pool}
use Rattle.core_model.specs.Owners.{nothing_bound, in_ranges, bind_owner}
use Rattle.core_model.specs.Placing.{PageChoice, Staged, Stages, On_newest, On_spare, On_new}
use Rattle.core_model.specs.Adding.{page_owner}
use Rattle.core_model.specs.Invariant.{Allows, IsSince, IsLive}
use Rattle.core_model.specs.Kept.{IsPageOf, IsFreeFrom, IsTakenBy, IsOfBuffer, IsNewest}
use Rattle.core_model.proofs.Steps.Binding.{or_right}

-- The page ----------------------------------------------------------------------------------------------------------

-- a page that is to be written to from a place on is the open chunk's, and no buffer's
pub record IsReady (t f number fence at : ℕ) (was now : Owner) : Type 0 where
  pub strange : IsOfBuffer was → ⊥
  pub keeps : (i chunk : ℕ) → chunk ≤ number → Allows t f was i chunk → Allows t f now i chunk
  pub since : IsSince f now
  pub page : IsPageOf number now
  pub taken : IsTakenBy fence now
  pub free : IsFreeFrom at now

newest_ready : (t f number fence at : ℕ) (o : Owner) → IsSince f o → IsPageOf number o → IsTakenBy fence o
    → IsFreeFrom at o → IsReady t f number fence at o o
newest_ready t f number fence at o s p k e = record {
  strange = strange o p;
  keeps = λ i chunk l a. a;
  since =
      s;
  page = p;
  taken = k;
  free = e;
}
  where
    strange : (o : Owner) → IsPageOf number o → IsOfBuffer o → ⊥
    strange Unmade p b = p
    strange (Home k) p b = p
    strange (Returning k) p b = p
    strange Spare p b = p
    strange (Live buffer since bound) p b = p
    strange (Retired k since bound) p b = p
    strange (Paged k since bound) p b = b
    strange Dropped p b = p

fresh_ready : (t f number fence : ℕ) (o : Owner) → fence ≤ f → t ≤ fence → (IsOfBuffer o → ⊥)
    → ((i chunk : ℕ) → Allows t f o i chunk → chunk ≤ t) → IsReady t f number fence 0 o
    (Paged number fence nothing_bound)
fresh_ready t f number fence o l m strange old = record {
  strange = strange;
  keeps = λ i chunk n a. let x = old i chunk a in (n, inl (omega (arith, x, m)));
  since = l;
  page = refl;
  taken = omega arith;
  free = λ i h. refl;
}

pub page_ready : (choice : PageChoice) (len : ℕ) (s : Staged) (before after : Pool)
    → Stages choice len s before after → (t f number fence : ℕ) (owner : ℕ → Owner) → fence ≤ f → t ≤ fence
    → IsNewest number owner before.newest → AllByRecursion (λ p. owner p.block ≡ Spare) before.spare
    → owner before.next ≡ Unmade → IsSince f (owner s.block) → IsTakenBy fence (owner s.block)
    → IsReady t f number fence s.at (owner s.block) (page_owner number fence s.added (owner s.block))
page_ready choice len s before after (On_newest _ _ n e fits) t f number fence owner l m newest spare fresh since
    taken =
    let x : IsNewest number owner (Some n) = subst (IsNewest number owner) e newest in
    newest_ready t f number fence n.used (owner n.page.block) since x.0 taken x.1
page_ready choice len s before after (On_spare _ _ front p back size e long none) t f number fence owner l m newest
    spare fresh since taken =
    let is : owner p.block ≡ Spare =
    (let z : AllByRecursion (λ p. owner p.block ≡ Spare) (p ∷ back) =
    all_back (λ p. owner p.block ≡ Spare) front (p ∷ back)
    (subst (AllByRecursion (λ p. owner p.block ≡ Spare)) e spare) in z).0 in
    fresh_ready t f number fence (owner p.block) l m (λ b. subst IsOfBuffer is b)
    (λ i chunk a. subst (λ o. Allows t f o i chunk) is a)
page_ready choice len s before after (On_new _ _ none) t f number fence owner l m newest spare fresh since taken =
    fresh_ready t f number fence (owner before.next) l m (λ b. subst IsOfBuffer fresh b)
    (λ i chunk a. absurd (subst (λ o. Allows t f o i chunk) fresh a))

-- only chunks that a fence finished may touch a free byte of it
pub page_old : (t f number fence at i chunk : ℕ) (o : Owner) → IsPageOf number o → IsTakenBy fence o
    → IsFreeFrom at o → at ≤ i → Allows t f o i chunk → chunk ≤ fence
page_old t f number fence at i chunk Unmade p k e l a = absurd p
page_old t f number fence at i chunk (Home n) p k e l a = absurd p
page_old t f number fence at i chunk (Returning n) p k e l a = absurd p
page_old t f number fence at i chunk Spare p k e l a = absurd p
page_old t f number fence at i chunk (Live buffer since bound) p k e l a = absurd p
page_old t f number fence at i chunk (Retired n since bound) p k e l a = absurd p
page_old t f number fence at i chunk (Paged n since bound) p k e l a =
    elim a.1 [ inl h ↦ omega (arith, h, k) | inr h ↦ absurd (both_ways (bound i) (e i l) h) ]
page_old t f number fence at i chunk Dropped p k e l a = absurd p

-- the open chunk may touch it where it is bound
pub page_allows : (t f number b i : ℕ) (rs : List Range) (o : Owner) → IsPageOf number o → in_ranges rs b i ≡ true
    → Allows t f (bind_owner rs b o) i number
page_allows t f number b i rs Unmade p h = absurd p
page_allows t f number b i rs (Home n) p h = absurd p
page_allows t f number b i rs (Returning n) p h = absurd p
page_allows t f number b i rs Spare p h = absurd p
page_allows t f number b i rs (Live buffer since bound) p h = absurd p
page_allows t f number b i rs (Retired n since bound) p h = absurd p
page_allows t f number b i rs (Paged n since bound) p h = (
  omega (arith, p),
  inr (or_right (bound i) (in_ranges rs b i) h),
)
page_allows t f number b i rs Dropped p h = absurd p

pub live_of_buffer : (r : ℕ) (o : Owner) → IsLive r o → IsOfBuffer o
live_of_buffer r Unmade l = l
live_of_buffer r (Home n) l = l
live_of_buffer r (Returning n) l = l
live_of_buffer r Spare l = l
live_of_buffer r (Live buffer since bound) l = tt
live_of_buffer r (Retired n since bound) l = tt
live_of_buffer r (Paged n since bound) l = l
live_of_buffer r Dropped l = tt
