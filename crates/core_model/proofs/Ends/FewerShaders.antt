-- With a module more there is a requested shader fewer without one.
use Rattle.std.proofs.Common.{◌≡◌, ℕ, zero, suc, ◌<◌, ◌≤◌, Bool, true, false, cond, ◌||◌, ◌==◌, List, [], ◌∷◌, ◌++◌}
use Rattle.std.proofs.Common.{length, refl, sym, ap, ◌∙◌, subst, Some, slice_get, arith}
use Rattle.std.proofs.lemmas.Bool.{eq-eqb}
use Rattle.std.proofs.lemmas.List.Folds.{list_any-append}
use Rattle.core_model.specs.OtherParts.{is_among, unmade}

pub unmade_append : (modules xs ys : List ℕ) → unmade modules (xs ++ ys) ≡ unmade modules xs ++ unmade modules ys
unmade_append modules [] ys = refl
unmade_append modules (x ∷ xs) ys = by (is_among x modules) (unmade_append modules xs ys)
  where
    by : (c : Bool) → unmade modules (xs ++ ys) ≡ unmade modules xs ++ unmade modules ys
        → cond c (unmade modules (xs ++ ys)) (x ∷ unmade modules (xs ++ ys))
        ≡ cond c (unmade modules xs) (x ∷ unmade modules xs) ++ unmade modules ys
    by true e = e
    by false e = ap (λ l. x ∷ l) e

pub unmade_short : (modules xs : List ℕ) → length (unmade modules xs) ≤ length xs
unmade_short modules [] = omega arith
unmade_short modules (x ∷ xs) = by (is_among x modules) (unmade_short modules xs)
  where
    by : (c : Bool) → length (unmade modules xs) ≤ length xs
        → length (cond c (unmade modules xs) (x ∷ unmade modules xs)) ≤ suc (length xs)
    by true l = omega (arith, l)
    by false l = omega (arith, l)

among_more : (x s : ℕ) (ms : List ℕ) → is_among x (ms ++ s ∷ []) ≡ (is_among x ms || ((s == x) || false))
among_more x s ms = list_any-append (λ m. m == x) ms (s ∷ [])

not_more : (s : ℕ) (modules xs : List ℕ) → length (unmade (modules ++ s ∷ []) xs) ≤ length (unmade modules xs)
not_more s modules [] = omega arith
not_more s modules (x ∷ xs) = by (is_among x modules) (s == x) (among_more x s modules) (not_more s modules xs)
  where
    by : (a b : Bool) → is_among x (modules ++ s ∷ []) ≡ (a || (b || false))
        → length (unmade (modules ++ s ∷ []) xs) ≤ length (unmade modules xs)
        → length (unmade (modules ++ s ∷ []) (x ∷ xs)) ≤ length (cond a (unmade modules xs) (x ∷ unmade modules xs))
    by true b e l =
        subst (λ c. length (cond c (unmade (modules ++ s ∷ []) xs) (x ∷ unmade (modules ++ s ∷ []) xs)) ≤ length
        (unmade modules xs)) (sym e) l
    by false true e l =
        subst (λ c. length (cond c (unmade (modules ++ s ∷ []) xs) (x ∷ unmade (modules ++ s ∷ []) xs)) ≤ suc
        (length (unmade modules xs))) (sym e) (omega (arith, l))
    by false false e l =
        subst (λ c. length (cond c (unmade (modules ++ s ∷ []) xs) (x ∷ unmade (modules ++ s ∷ []) xs)) ≤ suc
        (length (unmade modules xs))) (sym e) (omega (arith, l))

pub one_fewer : (s : ℕ) (modules xs : List ℕ) (j : ℕ) → slice_get (unmade modules xs) j ≡ Some s
    → length (unmade (modules ++ s ∷ []) xs) < length (unmade modules xs)
one_fewer s modules [] j e = absurd (cc e)
one_fewer s modules (x ∷ xs) j e = by (is_among x modules) (s == x) refl (among_more x s modules) j e
    (λ j h. one_fewer s modules xs j h)
  where
    by : (a b : Bool) → (s == x) ≡ b → is_among x (modules ++ s ∷ []) ≡ (a || (b || false)) → (j : ℕ)
        → slice_get (cond a (unmade modules xs) (x ∷ unmade modules xs)) j ≡ Some s
        → ((j : ℕ) → slice_get (unmade modules xs) j ≡ Some s
        → length (unmade (modules ++ s ∷ []) xs) < length (unmade modules xs))
        → length (unmade (modules ++ s ∷ []) (x ∷ xs)) < length (cond a (unmade modules xs) (x ∷ unmade modules xs))
    by true b q e j h rec =
        subst (λ c. length (cond c (unmade (modules ++ s ∷ []) xs) (x ∷ unmade (modules ++ s ∷ []) xs)) < length
        (unmade modules xs)) (sym e) (rec j h)
    by false true q e j h rec =
        let l = not_more s modules xs in
        subst (λ c. length (cond c (unmade (modules ++ s ∷ []) xs) (x ∷ unmade (modules ++ s ∷ []) xs)) < suc
        (length (unmade modules xs))) (sym e) (omega (arith, l))
    by false false q e zero h rec = absurd (let same : x ≡ s = cc h in let z : false ≡ true = sym q
        ∙ eq-eqb s x (sym same) in cc z)
    by false false q e (suc j) h rec =
        let l = rec j h in
        subst (λ c. length (cond c (unmade (modules ++ s ∷ []) xs) (x ∷ unmade (modules ++ s ∷ []) xs)) < suc
        (length (unmade modules xs))) (sym e) (omega (arith, l))
