-- What holds at each place of a list, of the items before it: of lists that are joined, and of an item found in the
-- middle.
use Rattle.std.proofs.Common.{◌≡◌, List, [], ◌∷◌, ◌++◌, sym, ap, ◌∙◌, subst, append_assoc, append-nil}

abbrev pub AtEach : {X : Type 0} → (List X → X → Type 0) → List X → List X → Type 0
AtEach P before [] = Unit {0}
AtEach P before (x ∷ xs) = P before x × AtEach P (before ++ x ∷ []) xs

pub each_append : {X : Type 0} (P : List X → X → Type 0) (before xs ys : List X) → AtEach P before xs
    → AtEach P (before ++ xs) ys → AtEach P before (xs ++ ys)
each_append P before [] ys h k = subst (λ l. AtEach P l ys) (append-nil before) k
each_append P before (x ∷ xs) ys h k = (
  h.0,
  each_append P (before ++ x ∷ []) xs ys h.1 (subst (λ l. AtEach P l ys)
      (sym (append_assoc before (x ∷ []) xs)) k),
)

pub at_middle : {X : Type 0} (P : List X → X → Type 0) (before xs : List X) → AtEach P before xs
    → (front : List X) (x : X) (back : List X) → xs ≡ front ++ x ∷ back → P (before ++ front) x
at_middle P before [] h [] x back e = absurd (cc e)
at_middle P before [] h (f ∷ front) x back e = absurd (cc e)
at_middle P before (y ∷ ys) h [] x back e =
    let s : y ≡ x = cc e in
    subst (λ l. P l x) (sym (append-nil before)) (subst (λ z. P before z) s h.0)
at_middle P before (y ∷ ys) h (f ∷ front) x back e =
    let s : y ≡ f = cc e in
    subst (λ l. P l x) (append_assoc before (y ∷ []) front ∙ ap (λ z. before ++ z ∷ front) s)
    (at_middle P (before ++ y ∷ []) ys h.1 front x back (cc e))
