-- A scan of a list by its places, for an element that fails a test.
use Rattle.std.proofs.Common.{◌≡◌, ℕ, zero, suc, ◌+◌, Bool, true, false, ◌&&◌, List, [], ◌∷◌, take, refl, sym, ap, ◌∙◌, Option, Some, None, slice_get, add-one}
use Rattle.base_lemmas.specs.Lists.{all_pass}

module _ {X : Type 0} (p : X → Bool) where
  -- an element that fails
  pub all_hit : (xs : List X) (i : ℕ) (x : X) → slice_get xs i ≡ Some x → p x ≡ false → all_pass p xs ≡ false
  all_hit [] i x e h = absurd (cc e)
  all_hit (y ∷ xs) zero x e h = let s : y ≡ x = cc e in ap (λ t. t && all_pass p xs) (ap p s ∙ h)
  all_hit (y ∷ xs) (suc i) x e h = right (p y) (all_pass p xs) (all_hit xs i x e h)
    where
      right : (a b : Bool) → b ≡ false → (a && b) ≡ false
      right true b k = k
      right false b k = refl

  next_suc : (xs : List X) (i : ℕ) → (o : Option X) → slice_get xs i ≡ o → ((x : X) → o ≡ Some x → p x ≡ true) → all_pass p (take i xs) ≡ true → all_pass p (take (suc i) xs) ≡ true
  next_suc [] i o e h k = refl
  next_suc (y ∷ xs) zero o e h k = ap (λ t. t && true) (h y (sym e))
  next_suc (y ∷ xs) (suc i) o e h k =
      both (p y) (all_pass p (take (suc i) xs)) (first (p y) (all_pass p (take i xs)) k) (next_suc xs i o e h (second (p y) (all_pass p (take i xs)) k))
    where
      first : (a b : Bool) → (a && b) ≡ true → a ≡ true
      first true b k = refl
      first false b k = absurd (cc k)

      second : (a b : Bool) → (a && b) ≡ true → b ≡ true
      second true b k = k
      second false b k = absurd (cc k)

      both : (a b : Bool) → a ≡ true → b ≡ true → (a && b) ≡ true
      both a b h k = ap (λ t. t && b) h ∙ k

  -- all so far pass, and this one
  pub all_miss : (xs : List X) (i : ℕ) (x : X) → slice_get xs i ≡ Some x → p x ≡ true → all_pass p (take i xs) ≡ true → all_pass p (take (i + 1) xs) ≡ true
  all_miss xs i x e h k = rw add-one (next_suc xs i (slice_get xs i) refl (λ y f. let s : Some x ≡ Some y = sym e ∙ f in let t : x ≡ y = cc s in ap p (sym t) ∙ h) k)

  -- and there is none here
  pub all_none : (xs : List X) (i : ℕ) → slice_get xs i ≡ None → all_pass p (take i xs) ≡ true → all_pass p (take (i + 1) xs) ≡ true
  all_none xs i e k = rw add-one (next_suc xs i (slice_get xs i) refl (λ y f. let s : None ≡ Some y = sym e ∙ f in absurd (cc s)) k)
