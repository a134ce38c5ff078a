-- Where the cell of a shader is.
use Rattle.std.proofs.Common.{◌≡◌, ℕ, zero, suc, ◌≤◌, ◌<◌, Bool, cond, List, [], ◌∷◌, length, get_or, Result, Ok, Err, refl, sym, ap, subst, ◌∙◌, inl, inr, arith}
use Rattle.std.specs.Prelude.{◌↔◌, IsTrue}
use Rattle.std.specs.List.Sorted.{IsBinarySearchResult}
use Rattle.std.specs.Ordering.{nat_cmp}
use Rattle.std.specs.Result.{is_ok}
use Rattle.std.proofs.lemmas.Bool.{cases_eq, cases_lt, eq-eqb, ne_eqb}
use Rattle.std.proofs.lemmas.List.{length-map}
use Rattle.std.proofs.lemmas.List.Sorted.{searched}
use Rattle.pipe_cache.specs.Cells.{Cell, HasShader, IsRising, call_of_cell, calls_in, place_in}

place_here : (c : Cell) (cs : List Cell) (n : ℕ) → c.call ≡ n → place_in (c ∷ cs) n ≡ 0
place_here c cs n e = ap (λ (b : Bool). cond b 0 (suc (place_in cs n))) (eq-eqb c.call n e)

place_later : (c : Cell) (cs : List Cell) (n : ℕ) → (c.call ≡ n → ⊥) → place_in (c ∷ cs) n ≡ suc (place_in cs n)
place_later c cs n apart = ap (λ (b : Bool). cond b 0 (suc (place_in cs n))) (ne_eqb c.call n apart)

-- at the place of a call is the cell of this call
pub at_place : (cells : List Cell) (n : ℕ) → HasShader cells n → get_or (calls_in cells) (place_in cells n) 0 ≡ n
at_place [] n has = absurd (omega arith)
at_place (c ∷ cs) n has = elim (cases_eq c.call n) [
  | inl e ↦ ap (λ (i : ℕ). get_or (calls_in (c ∷ cs)) i 0) (place_here c cs n e) ∙ e
  | inr apart ↦
      let later = place_later c cs n apart in
      let below : suc (place_in cs n) < suc (length cs) = subst (λ (i : ℕ). i < suc (length cs)) later has in
      ap (λ (i : ℕ). get_or (calls_in (c ∷ cs)) i 0) later ∙ at_place cs n (omega (arith, below))
]

-- calls that rise have a place each
pub place_found : (cells : List Cell) (n i : ℕ) → IsRising (calls_in cells) → i < length cells
    → get_or (calls_in cells) i 0 ≡ n → place_in cells n ≡ i
place_found [] n i rising below e = absurd (omega arith)
place_found (c ∷ cs) n zero rising below e = place_here c cs n e
place_found (c ∷ cs) n (suc i) rising below e =
    let inside : suc i < suc (length (calls_in cs)) = omega (arith, below, length-map cs call_of_cell) in
    let less : c.call < get_or (calls_in cs) i 0 = rising 0 (suc i) (omega arith) inside in
    place_later c cs n (λ same. omega (arith, less, e, same))
    ∙ ap (λ (k : ℕ). suc k) (place_found cs n i (λ j k before fits. rising (suc j) (suc k) (omega (arith, before)) (omega (arith, fits))) (omega (arith, below)) e)

-- different calls have different places
pub other_place : (cells : List Cell) (m n : ℕ) → (m ≡ n → ⊥) → HasShader cells n → place_in cells m ≡ place_in cells n
    → ⊥
other_place cells m n apart has same =
    apart (sym (at_place cells m (subst (λ (i : ℕ). i < length cells) (sym same) has))
    ∙ ap (λ (i : ℕ). get_or (calls_in cells) i 0) same ∙ at_place cells n has)

never_falls : (xs : List ℕ) → IsRising xs → (i j : ℕ) → i ≤ j → j < length xs → get_or xs i 0 ≤ get_or xs j 0
never_falls xs rising i j le below = elim (cases_lt i j) [
  | inl before ↦ let less = rising i j before below in omega (arith, less)
  | inr not_before ↦ let same : i ≡ j = omega (arith, le, not_before) in let equal = ap (λ (k : ℕ). get_or xs k 0) same in omega (arith, equal)
]

-- what a search found is the place
pub search_found : (cells : List Cell) (calls : List ℕ) (n i : ℕ) → calls ≡ calls_in cells → IsRising calls
    → IsBinarySearchResult (λ y. nat_cmp y n) calls (Ok i) → i ≡ place_in cells n
search_found cells calls n i same rising found =
    let at = searched calls n (Ok i) found (never_falls calls rising) in
    let rises : IsRising (calls_in cells) = subst IsRising same rising in
    let long = ap (λ (l : List ℕ). length l) same ∙ length-map cells call_of_cell in
    let below : i < length cells = omega (arith, at.0, long) in
    sym (place_found cells n i rises below (ap (λ (l : List ℕ). get_or l i 0) (sym same) ∙ at.1))

-- a search for a shader that is there finds it
pub search_finds : (cells : List Cell) (calls : List ℕ) (n i : ℕ) → calls ≡ calls_in cells → IsRising calls
    → HasShader cells n → IsBinarySearchResult (λ y. nat_cmp y n) calls (Err i) → ⊥
search_finds cells calls n i same rising has found =
    let at = searched calls n (Err i) found (never_falls calls rising) in
    let long = ap (λ (l : List ℕ). length l) same ∙ length-map cells call_of_cell in
    let below : place_in cells n < length calls = omega (arith, has, long) in
    let there : get_or calls (place_in cells n) 0 ≡ n = ap (λ (l : List ℕ). get_or l (place_in cells n) 0) same ∙ at_place cells n has in
    elim (cases_lt (place_in cells n) i) [
      | inl before ↦ let less = at.1 (place_in cells n) before in omega (arith, less, there)
      | inr behind ↦ let more = at.2 (place_in cells n) behind below in omega (arith, more, there)
    ]

-- whether a search finds a shader tells whether it is there
pub search_tells : (cells : List Cell) (calls : List ℕ) (n : ℕ) (r : Result ℕ ℕ) → calls ≡ calls_in cells
    → IsRising calls → IsBinarySearchResult (λ y. nat_cmp y n) calls r → IsTrue (is_ok r) ↔ HasShader cells n
search_tells cells calls n (Ok i) same rising found =
    let at = searched calls n (Ok i) found (never_falls calls rising) in
    let long = ap (λ (l : List ℕ). length l) same ∙ length-map cells call_of_cell in
    let placed = search_found cells calls n i same rising found in
    (λ _. omega (arith, at.0, long, placed), λ _. refl)
search_tells cells calls n (Err i) same rising found = (λ never. absurd cc, λ has. absurd (search_finds cells calls n i same rising has found))
