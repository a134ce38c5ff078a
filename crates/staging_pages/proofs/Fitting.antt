-- Whether as many bytes are left as are asked for, and what a page is where they aren't.
use Rattle.std.proofs.Common.{◌≡◌, ◌≢◌, ℕ, ◌+◌, ◌-◌, ◌<◌, ◌≤◌, Bool, true, false, not, cond, eqb, List, [], ◌∷◌, ◌++◌, length, take, drop, slice_range, refl, ap, ◌∙◌, ◌⊎◌, inl, inr, subst, arith}
use lib.Dec.{T, T_not, eqb→eq, eqb_refl}
use Rattle.std.proofs.lemmas.Bool.Decides.{leb_tells}
use Rattle.std.proofs.lemmas.List.{length-take, length-drop, take-append-drop}
use Rattle.buffer_blocks.specs.Block.{bytes_of, with_bytes}
use Rattle.buffer_blocks.specs.Written.{written}
use Rattle.buffer_blocks.proofs.Written.{written-fits}
use Rattle.staging_pages.specs.PageState.{PageState}
use Rattle.staging_pages.specs.Page.{staged, fitting}

empty : (l : List ℕ) → length l ≡ 0 → l ≡ []
empty [] e = refl
empty (x ∷ xs) e = absurd (omega arith)

-- nothing written leaves a page as it was
staged_nothing : (page : PageState) → page.used ≤ length (bytes_of page.block) → staged page 0 [] ≡ page
staged_nothing page within =
    let same : written (bytes_of page.block) page.used [] ≡ bytes_of page.block = written-fits (bytes_of page.block) page.used [] (omega arith) ∙ (ap (λ n. take page.used (bytes_of page.block) ++ drop n (bytes_of page.block)) (omega arith) ∙ take-append-drop page.used (bytes_of page.block)) in
    let P : List ℕ → ℕ → PageState = λ bytes used. record { block = with_bytes page.block bytes; used = used } in
    ap (λ bytes. P bytes (page.used + 0)) same ∙ ap (λ n. P (bytes_of page.block) n) (omega arith)

module _ (page : PageState) (len : ℕ) (within : page.used ≤ length (bytes_of page.block)) where
  abbrev total : ℕ
  total = length (bytes_of page.block)

  abbrev lent : List ℕ
  lent = slice_range (bytes_of page.block) page.used (page.used + fitting page len)

  cases : ((page.used + len ≤ total) × (fitting page len ≡ len)) ⊎ ((total < page.used + len) × (fitting page len ≡ 0))
  cases = elim (leb_tells (page.used + len) total) [ inl t ↦ inl (t.1, ap (λ b. cond b len 0) t.0) | inr t ↦ inr (t.1, ap (λ b. cond b len 0) t.0) ]

  length-lent : length lent ≡ fitting page len
  length-lent =
      let cut = length-take (page.used + fitting page len - page.used) (drop page.used (bytes_of page.block)) in let rest = length-drop page.used (bytes_of page.block) in
      elim cases [ inl t ↦ omega arith | inr t ↦ omega arith ]

  -- as many bytes as are asked for are lent only where as many are left
  pub all_left : (now : List ℕ) → now ≡ lent → length now ≡ len → (page.used + len ≤ total) × (fitting page len ≡ len)
  all_left now e l =
      let lens : length now ≡ fitting page len = ap length e ∙ length-lent in
      elim cases [ inl t ↦ t | inr t ↦ absurd (omega arith) ]

  -- else none are, and the page is as it was
  pub none_left : (now : List ℕ) → now ≡ lent → length now ≢ len → (total < page.used + len) × (staged page (fitting page len) now ≡ page)
  none_left now e ne =
      let lens : length now ≡ fitting page len = ap length e ∙ length-lent in
      elim cases [
        | inl t ↦ absurd (ne (lens ∙ t.1))
        | inr t ↦ (t.0, ap (λ n. staged page n now) t.1 ∙ (ap (staged page 0) (empty now (lens ∙ t.1)) ∙ staged_nothing page within))
      ]

-- what the code's comparison of two lengths tells
pub equal : (m n : ℕ) → T (not (not (eqb m n))) → m ≡ n
equal m n t = eqb→eq m n (twice (eqb m n) t) where
  twice : (b : Bool) → T (not (not b)) → T b
  twice true s = tt
  twice false s = absurd s

pub not_equal : (m n : ℕ) → T (not (eqb m n)) → m ≢ n
not_equal m n t e = T_not (eqb m n) t (subst (λ k. T (eqb m k)) e (eqb_refl m))
