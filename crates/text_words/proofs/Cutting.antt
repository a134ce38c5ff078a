-- Texts cut at a byte.
use Rattle.std.proofs.Common.{◌≡◌, ℕ, zero, suc, ◌<◌, List, [], ◌∷◌, ◌++◌, length, take, drop, eqb, Bool, true, false, not, refl, sym, ap, ◌∙◌, arith}
use Rattle.std.specs.List.{slice_index}
use Rattle.std.specs.Str.{bytes_eq}
use Rattle.std.proofs.lemmas.Slice.Eq.{bytes_eq-Decides}
use Rattle.std.proofs.lemmas.Bool.{eqb-true, eq-eqb}
use Rattle.std.proofs.lemmas.List.{take-append-drop, append-nil}
use Rattle.text_words.specs.Words.{Lacks, StopsAt, Cut}

-- a text is cut at a byte in one way
pub same_cut : (c : ℕ) (a b x y : List ℕ) → Lacks c a → Lacks c b → StopsAt c x → StopsAt c y → a ++ x ≡ b ++ y → (a ≡ b) × (x ≡ y)
same_cut c [] [] x y la lb sx sy e = (refl, e)
same_cut c [] (b ∷ bs) [] y la lb sx sy e = absurd cc
same_cut c [] (b ∷ bs) (x ∷ xs) y la lb sx sy e = let first : x ≡ b = cc in absurd (lb.0 (sym first ∙ sx))
same_cut c (a ∷ front) [] x [] la lb sx sy e = absurd cc
same_cut c (a ∷ front) [] x (y ∷ ys) la lb sx sy e = let first : a ≡ y = cc in absurd (la.0 (first ∙ sy))
same_cut c (a ∷ front) (b ∷ bs) x y la lb sx sy e =
    let first : a ≡ b = cc in
    let others : front ++ x ≡ bs ++ y = cc in
    let rest = same_cut c front bs x y la.1 lb.1 sx sy others in
    (λ i. first i ∷ rest.0 i, rest.1)

-- the bytes before a place lack c where none of them is c
lacks_take : (c n : ℕ) (xs : List ℕ) → ((k : ℕ) → k < n → k < length xs → eqb (slice_index xs k) c ≡ true → ⊥) → Lacks c (take n xs)
lacks_take c zero xs h = tt
lacks_take c (suc n) [] h = tt
lacks_take c (suc n) (x ∷ xs) h = (
  λ e. h 0 (omega arith) (omega arith) (eq-eqb x c e),
  lacks_take c n xs (λ k lt inside. h (suc k) (omega arith) (omega arith)),
)

stops_drop : (c n : ℕ) (xs : List ℕ) → (n < length xs → eqb (slice_index xs n) c ≡ true) → StopsAt c (drop n xs)
stops_drop c zero [] h = tt
stops_drop c zero (x ∷ xs) h = eqb-true x c (h (omega arith))
stops_drop c (suc n) [] h = tt
stops_drop c (suc n) (x ∷ xs) h = stops_drop c n xs (λ lt. h (omega arith))

pub cut_at : (c n : ℕ) (xs front behind : List ℕ) → front ≡ take n xs → behind ≡ drop n xs
    → ((k : ℕ) → k < n → k < length xs → eqb (slice_index xs k) c ≡ true → ⊥) → (n < length xs → eqb (slice_index xs n) c ≡ true)
    → Cut c xs front behind
cut_at c n xs front behind f b before here = rw (f, b) record {
  spelled = sym (take-append-drop n xs);
  lacks = lacks_take c n xs before;
  stops = stops_drop c n xs here;
}

pub no_stop : (c : ℕ) (ys : List ℕ) → StopsAt c ys → ((rest : List ℕ) → ys ≡ c ∷ rest → ⊥) → ys ≡ []
no_stop c [] stops none = refl
no_stop c (y ∷ ys) stops none = absurd (none ys (ap (λ (x : ℕ). x ∷ ys) stops))

pub lacks_not : (c : ℕ) (xs front more : List ℕ) → Lacks c xs → xs ≡ front ++ c ∷ more → ⊥
lacks_not c [] [] more lacks e = cc
lacks_not c [] (f ∷ front) more lacks e = cc
lacks_not c (x ∷ xs) [] more lacks e = let first : x ≡ c = cc in lacks.0 first
lacks_not c (x ∷ xs) (f ∷ front) more lacks e = let others : xs ≡ front ++ c ∷ more = cc in lacks_not c xs front more lacks.1 others

-- a text that was cut where no c stands has none
pub no_cut : (c : ℕ) (text word rest : List ℕ) → Cut c text word rest → ((more : List ℕ) → rest ≡ c ∷ more → ⊥) → (front more : List ℕ) → text ≡ front ++ c ∷ more → ⊥
no_cut c text word rest cut none front more e =
    lacks_not c word front more cut.lacks (sym (append-nil word) ∙ ap (λ (l : List ℕ). word ++ l) (sym (no_stop c rest cut.stops none)) ∙ sym cut.spelled ∙ e)

-- what a comparison says
pub same_bytes : (xs ys zs : List ℕ) (r : Bool) → r ≡ bytes_eq xs ys → ys ≡ zs → (r ≡ true → xs ≡ zs) × (xs ≡ zs → r ≡ true)
same_bytes xs ys zs r e is = (λ t. (bytes_eq-Decides xs ys).0 (sym e ∙ t) ∙ is, λ s. e ∙ (bytes_eq-Decides xs ys).1 (s ∙ sym is))

pub none_left : (xs : List ℕ) → eqb (length xs) 0 ≡ true → xs ≡ []
none_left [] e = refl
none_left (x ∷ xs) e = let none : length (x ∷ xs) ≡ 0 = eqb-true (length (x ∷ xs)) 0 e in absurd (omega arith)

pub not_both : (r b : Bool) → r ≡ not b → b ≡ true → r ≡ true → ⊥
not_both true true e is t = cc
not_both true false e is t = cc
not_both false b e is t = cc

pub some_left : (xs : List ℕ) → eqb (length xs) 0 ≡ false → 0 < length xs
some_left [] e = absurd cc
some_left (x ∷ xs) e = omega arith
