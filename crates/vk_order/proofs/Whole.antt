-- An order that has distinct places of a listing, and as many, has each once.
use Rattle.std.proofs.Common.{◌≡◌, ℕ, suc, ◌≤◌, List, [], ◌∷◌, ◌++◌, length, refl, sym, ap, ◌∙◌, subst, ◌⊎◌, inl, inr, arith, length-append}
use Rattle.std.specs.List.{AllByRecursion}
use Rattle.std.proofs.lemmas.Bool.{cases_eq}
use Rattle.base_lemmas.specs.Lists.{Pairwise, IsReordering}
use Rattle.base_lemmas.proofs.Lists.{all_front, all_back, all_append, all_map, all_both, pairs_without, pairs_to}

-- x stands in the list
abbrev pub IsIn : List ℕ → ℕ → Type 0
IsIn xs x = (front : List ℕ) × (back : List ℕ) × (xs ≡ front ++ x ∷ back)

-- no element is equal to one after it
abbrev pub Distinct : List ℕ → Type 0
Distinct xs = Pairwise (λ x y. x ≡ y → ⊥) xs

find_it : (x : ℕ) (ys : List ℕ) → IsIn ys x ⊎ AllByRecursion (λ y. x ≡ y → ⊥) ys
find_it x [] = inr tt
find_it x (y ∷ ys) =
    elim (cases_eq x y) [
      | inl e ↦ inl ([], ys, ap (λ z. z ∷ ys) (sym e))
      | inr n ↦ elim (find_it x ys) [
        | inl i ↦ inl (y ∷ i.0, i.1, ap (λ l. y ∷ l) i.2)
        | inr none ↦ inr (n, none)
      ]
    ]

-- another element stands in the list without this one
in_without : (z y : ℕ) (front back : List ℕ) → IsIn (front ++ y ∷ back) z → (z ≡ y → ⊥) → IsIn (front ++ back) z
in_without z y [] back ([], b, e) n = absurd (n (let h : y ≡ z = cc e in sym h))
in_without z y [] back (w ∷ f, b, e) n = (f, b, cc e)
in_without z y (u ∷ front) back ([], b, e) n = let h : u ≡ z = cc e in ([], front ++ back, ap (λ v. v ∷ (front ++ back)) h)
in_without z y (u ∷ front) back (w ∷ f, b, e) n =
    let h : u ≡ w = cc e in
    let t : front ++ y ∷ back ≡ f ++ z ∷ b = cc e in
    let i = in_without z y front back (f, b, t) n in
    (w ∷ i.0, i.1, ap (λ l. u ∷ l) i.2 ∙ ap (λ v. v ∷ (i.0 ++ z ∷ i.1)) h)

all_in_without : (y : ℕ) (front back zs : List ℕ) → AllByRecursion (IsIn (front ++ y ∷ back)) zs → AllByRecursion (λ z. y ≡ z → ⊥) zs → AllByRecursion (IsIn (front ++ back)) zs
all_in_without y front back zs h n =
    all_map (λ z. IsIn (front ++ y ∷ back) z × (y ≡ z → ⊥)) (IsIn (front ++ back)) (λ z p. in_without z y front back p.0 (λ e. p.1 (sym e))) zs
    (all_both (IsIn (front ++ y ∷ back)) (λ z. y ≡ z → ⊥) zs h n)

length_middle : (x : ℕ) (front back : List ℕ) → length (front ++ x ∷ back) ≡ suc (length (front ++ back))
length_middle x front back = let a = length-append front (x ∷ back) in let b = length-append front back in omega (arith, a, b)

-- distinct elements of a list are no more than it has
pub no_more : (ys xs : List ℕ) → Distinct ys → AllByRecursion (IsIn xs) ys → length ys ≤ length xs
no_more [] xs d h = omega arith
no_more (y ∷ ys) xs d h =
    let i = h.0 in
    let rest : AllByRecursion (IsIn (i.0 ++ i.1)) ys = all_in_without y i.0 i.1 ys (subst (λ l. AllByRecursion (IsIn l) ys) i.2 h.1) d.0 in
    let n = no_more ys (i.0 ++ i.1) d.1 rest in
    let m = length_middle y i.0 i.1 in
    let e : length xs ≡ length (i.0 ++ y ∷ i.1) = ap length i.2 in
    omega (arith, n, m, e)

-- in a list that doesn't have the first, the others stand in the rest
in_rest : (x : ℕ) (xs zs : List ℕ) → AllByRecursion (IsIn (x ∷ xs)) zs → AllByRecursion (λ z. x ≡ z → ⊥) zs → AllByRecursion (IsIn xs) zs
in_rest x xs zs h n = all_in_without x [] xs zs h n

pub whole_order : (xs ys : List ℕ) → Distinct ys → AllByRecursion (IsIn xs) ys → length ys ≡ length xs → IsReordering xs ys
whole_order [] [] d h e = refl
whole_order [] (y ∷ ys) d h e = absurd (omega (arith, e))
whole_order (x ∷ xs) ys d h e =
    elim (find_it x ys) [
      | inr none ↦ let n = no_more ys xs d (in_rest x xs ys h none) in absurd (omega (arith, n, e))
      | inl i ↦
          let front = i.0 in
          let back = i.1 in
          let d' : Distinct (front ++ x ∷ back) = subst Distinct i.2 d in
          let h' : AllByRecursion (IsIn (x ∷ xs)) (front ++ x ∷ back) = subst (AllByRecursion (IsIn (x ∷ xs))) i.2 h in
          let in_back = all_back (IsIn (x ∷ xs)) front (x ∷ back) h' in
          let others : AllByRecursion (IsIn (x ∷ xs)) (front ++ back) = all_append (IsIn (x ∷ xs)) front back (all_front (IsIn (x ∷ xs)) front (x ∷ back) h') in_back.1 in
          let apart_front : AllByRecursion (λ z. x ≡ z → ⊥) front = all_map (λ y. y ≡ x → ⊥) (λ z. x ≡ z → ⊥) (λ z n e. n (sym e)) front (pairs_to (λ x y. x ≡ y → ⊥) x front back d') in
          let apart_back : AllByRecursion (λ z. x ≡ z → ⊥) back = after_it x front back d' in
          let apart : AllByRecursion (λ z. x ≡ z → ⊥) (front ++ back) = all_append (λ z. x ≡ z → ⊥) front back apart_front apart_back in
          let m = length_middle x front back in
          let l : length ys ≡ length (front ++ x ∷ back) = ap length i.2 in
          (front, back, i.2, whole_order xs (front ++ back) (pairs_without (λ x y. x ≡ y → ⊥) x front back d') (in_rest x xs (front ++ back) others apart) (omega (arith, m, l, e)))
    ]
  where
    after_it : (x : ℕ) (front back : List ℕ) → Distinct (front ++ x ∷ back) → AllByRecursion (λ z. x ≡ z → ⊥) back
    after_it x [] back d = d.0
    after_it x (y ∷ front) back d = after_it x front back d.1
