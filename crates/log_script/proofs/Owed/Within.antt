-- What is touched lies within what is bound: pieces of both.
use Rattle.std.proofs.Common.{◌≡◌, ℕ, Bool, true, false, ◌||◌, List, ◌∷◌, ◌++◌, refl, sym, ap, ◌∙◌, inl, inr}
use Rattle.std.proofs.lemmas.Bool.{or_left, or_right, or_cases}
use Rattle.std.proofs.lemmas.List.{map-append}
use Rattle.std.proofs.lemmas.List.Folds.{list_any-append}
use Rattle.dx_types.specs.declared.range.Range.{Range}
use Rattle.dx_types.specs.declared.range.ResRange.{ResRange}
use Rattle.vk_types.specs.declared.touch.Touch.{Touch}
use Rattle.vk_types.specs.Memory.{covers}
use Rattle.vk_types.specs.Hazards.{is_touched}
use Rattle.d3d_model.specs.Past.{Past}
use Rattle.core_model.specs.Owners.{in_ranges}
use Rattle.log_script.specs.Makers.{of_maker, of_makers}

-- each byte that is touched is bound
abbrev pub Within : List Touch → List Range → Type 0
Within ts rs = (b i : ℕ) → is_touched ts b i ≡ true → in_ranges rs b i ≡ true

or_more : (a x y : Bool) → (x ≡ true → y ≡ true) → a || x ≡ true → a || y ≡ true
or_more true x y h e = refl
or_more false x y h e = h e

-- one more of each, of the same range
pub within_more : (t : Touch) (ts : List Touch) (rs : List Range) → Within ts rs → Within (t ∷ ts) (t.range ∷ rs)
within_more t ts rs h = λ b i. or_more (covers t.range b i) (is_touched ts b i) (in_ranges rs b i) (h b i)

-- one more range
pub within_over : (ts : List Touch) (r : Range) (rs : List Range) → Within ts rs → Within ts (r ∷ rs)
within_over ts r rs h = λ b i e. or_right (covers r b i) (in_ranges rs b i) (h b i e)

pub within_both : (ts us : List Touch) (rs : List Range) → Within ts rs → Within us rs → Within (ts ++ us) rs
within_both ts us rs h k =
    λ b i e. elim (or_cases (is_touched ts b i) (is_touched us b i)
    (sym (list_any-append (λ t. covers t.range b i) ts us) ∙ e)) [
      | inl f ↦ h b i f
      | inr f ↦ k b i f
    ]

-- ranges of two lists, as ranges of buffers by their creations
made_both : (past : Past) (xs ys : List ResRange) (b i : ℕ) → in_ranges (of_makers past (xs ++ ys)) b i
    ≡ (in_ranges (of_makers past xs) b i || in_ranges (of_makers past ys) b i)
made_both past xs ys b i =
    ap (λ rs. in_ranges rs b i) (map-append (of_maker past) xs ys)
    ∙ list_any-append (λ r. covers r b i) (of_makers past xs) (of_makers past ys)

pub within_front : (past : Past) (ts : List Touch) (xs ys : List ResRange) → Within ts (of_makers past xs)
    → Within ts (of_makers past (xs ++ ys))
within_front past ts xs ys h = λ b i e. made_both past xs ys b i
    ∙ or_left (in_ranges (of_makers past xs) b i) (in_ranges (of_makers past ys) b i) (h b i e)

pub within_back : (past : Past) (ts : List Touch) (xs ys : List ResRange) → Within ts (of_makers past ys)
    → Within ts (of_makers past (xs ++ ys))
within_back past ts xs ys h = λ b i e. made_both past xs ys b i
    ∙ or_right (in_ranges (of_makers past xs) b i) (in_ranges (of_makers past ys) b i) (h b i e)
