-- Lists that have the same elements, each as often.
use Rattle.std.proofs.Common.{◌≡◌, List, [], ◌∷◌, ◌++◌, refl, sym, ap, ◌∙◌, subst, ◌⊎◌, inl, inr, append_assoc}
use Rattle.base_lemmas.specs.Lists.{IsReordering}

module _ {A : Type 0} where
  -- where an element of two lists together stands
  abbrev Splits : List A → List A → List A → A → List A → Type 0
  Splits h k f x b = ((h2 : List A) × (h ≡ f ++ x ∷ h2) × (b ≡ h2 ++ k))
      ⊎ ((k1 : List A) × (k ≡ k1 ++ x ∷ b) × (f ≡ h ++ k1))

  splits : (h k f : List A) (x : A) (b : List A) → h ++ k ≡ f ++ x ∷ b → Splits h k f x b
  splits [] k f x b e = inr (f, e, refl)
  splits (y ∷ h) k [] x b e = let s : y ≡ x = cc e in inl (h, ap (λ y. y ∷ h) s, (let t : h ++ k ≡ b = cc e in sym t))
  splits (y ∷ h) k (z ∷ f) x b e =
      let s : y ≡ z = cc e in
      elim (splits h k f x b (cc e)) [
        | inl l ↦ inl (l.0, ap (λ l. y ∷ l) l.1 ∙ ap (λ y. y ∷ (f ++ x ∷ l.0)) s, l.2)
        | inr r ↦ inr (r.0, r.1, ap (λ z. z ∷ f) (sym s) ∙ ap (λ l. y ∷ l) r.2)
      ]

  -- an element may be taken out of both
  abbrev TakenOut : List A → A → List A → List A → Type 0
  TakenOut f x b zs = (f' : List A) × (b' : List A) × (zs ≡ f' ++ x ∷ b') × IsReordering (f ++ b) (f' ++ b')

  taken_out : (f : List A) (x : A) (b zs : List A) → IsReordering (f ++ x ∷ b) zs → TakenOut f x b zs
  taken_out [] x b zs r = r
  taken_out (g ∷ f) x b zs r =
      let h = r.0 in
      let k = r.1 in
      let i = taken_out f x b (h ++ k) r.3 in
      let f' = i.0 in
      let b' = i.1 in
      elim (splits h k f' x b' i.2) [
        | inl l ↦
            let h2 = l.0 in (
              f',
              h2 ++ g ∷ k,
              r.2 ∙ ap (λ l. l ++ g ∷ k) l.1 ∙ append_assoc f' (x ∷ h2) (g ∷ k),
              (
                f' ++ h2,
                k,
                sym (append_assoc f' h2 (g ∷ k)),
                subst (IsReordering (f ++ b)) (ap (λ l. f' ++ l) l.2 ∙ sym (append_assoc f' h2 k)) i.3,
              ),
            )
        | inr m ↦
            let k1 = m.0 in (
              h ++ g ∷ k1,
              b',
              r.2 ∙ ap (λ l. h ++ g ∷ l) m.1 ∙ sym (append_assoc h (g ∷ k1) (x ∷ b')),
              (
                h,
                k1 ++ b',
                append_assoc h (g ∷ k1) b',
                subst (IsReordering (f ++ b)) (ap (λ l. l ++ b') m.2
                    ∙ append_assoc h k1 b') i.3,
              ),
            )
      ]

  pub reordering_then : (xs ys zs : List A) → IsReordering xs ys → IsReordering ys zs → IsReordering xs zs
  reordering_then [] ys zs e r = subst (λ l. IsReordering l zs) e r
  reordering_then (x ∷ xs) ys zs p r =
      let t = taken_out p.0 x p.1 zs (subst (λ l. IsReordering l zs) p.2 r) in
      (t.0, t.1, t.2, reordering_then xs (p.0 ++ p.1) (t.0 ++ t.1) p.3 t.3)

  pub reordering_self : (xs : List A) → IsReordering xs xs
  reordering_self [] = refl
  reordering_self (x ∷ xs) = ([], xs, refl, reordering_self xs)

  pub reordering_append : (xs ys us vs : List A) → IsReordering xs ys → IsReordering us vs
      → IsReordering (xs ++ us) (ys ++ vs)
  reordering_append [] ys us vs e r = subst (λ l. IsReordering us (l ++ vs)) (sym e) r
  reordering_append (x ∷ xs) ys us vs p r = (
    p.0,
    p.1 ++ vs,
    ap (λ l. l ++ vs) p.2 ∙ append_assoc p.0 (x ∷ p.1) vs,
    subst (IsReordering (xs ++ us)) (append_assoc p.0 p.1 vs) (reordering_append xs (p.0 ++ p.1) us vs p.3 r),
  )

  to_front : (x : A) (p o : List A) → IsReordering (p ++ x ∷ o) (x ∷ (p ++ o))
  to_front x [] o = reordering_self (x ∷ o)
  to_front x (q ∷ p) o = (x ∷ [], p ++ o, refl, to_front x p o)

  -- an element may be moved to the front of the second part
  pub reordering_moved : (xs done p : List A) (x : A) (o : List A) → IsReordering xs (done ++ (p ++ x ∷ o))
      → IsReordering xs ((done ++ x ∷ []) ++ (p ++ o))
  reordering_moved xs done p x o r =
      subst (IsReordering xs) (sym (append_assoc done (x ∷ []) (p ++ o)))
      (reordering_then xs (done ++ (p ++ x ∷ o)) (done ++ x ∷ (p ++ o)) r
      (reordering_append done done (p ++ x ∷ o) (x ∷ (p ++ o)) (reordering_self done) (to_front x p o)))
