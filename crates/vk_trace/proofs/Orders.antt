-- The line of an order, as it is read.
use Rattle.std.proofs.Common.{◌≡◌, ℕ, ◌<◌, inl, List, [], ◌∷◌, ◌++◌, length, map, refl, sym, ap, subst, ◌∙◌, arith}
use Rattle.std.specs.Prelude.{decimal, codes}
use Rattle.std.specs.List.{AllByRecursion}
use Rattle.std.proofs.lemmas.List.{append-nil}
use Rattle.text_words.proofs.Digits.{Lacks-decimal}
use Rattle.vk_trace.specs.ListText.{IsSmall, join}
use Rattle.vk_trace.specs.OrderLine.{IsOrder, IsOrderOf, NoOrder, order_words}
use Rattle.vk_trace.specs.Reading.{split}
use Rattle.vk_trace.proofs.Splits.{AllLack, join_split, split_words}

-- so far the words are `order`, these places, and the words that are left
pub record PlacesRead (text : List ℕ) (words : List (List ℕ)) (places : List ℕ) : Type 0 where
  pub small : AllByRecursion IsSmall places
  pub spelled : split 32 text ≡ codes "order" ∷ (map decimal places ++ words)

lacks_numbers : (places : List ℕ) → AllByRecursion IsSmall places → AllLack 32 (map decimal places)
unfolding AllLack
lacks_numbers [] all = tt
lacks_numbers (p ∷ places) all = (Lacks-decimal 32 p (inl (omega arith)) (omega (arith, all.0)), lacks_numbers places all.1)

lacks_words : (places : List ℕ) → AllByRecursion IsSmall places → AllLack 32 (order_words places)
unfolding AllLack
lacks_words places all = (((λ e. absurd (omega arith)), ((λ e. absurd (omega arith)), ((λ e. absurd (omega arith)), ((λ e. absurd (omega arith)), ((λ e. absurd (omega arith)), tt))))), lacks_numbers places all)

-- the words of an order's line are `order` and its places
pub order_split : (text places : List ℕ) → IsOrder places → text ≡ join 32 (order_words places) → split 32 text ≡ order_words places
order_split text places good e = ap (split 32) e ∙ split_words 32 (order_words places) (λ n. cc n) (lacks_words places good.small)

pub places_first : (text : List ℕ) (words old : List (List ℕ)) → old ≡ split 32 text → old ≡ codes "order" ∷ words → PlacesRead text words []
places_first text words old is e = record { small = tt; spelled = sym is ∙ e }

map_push : (places : List ℕ) (p : ℕ) (words : List (List ℕ)) → map decimal (places ++ p ∷ []) ++ words ≡ map decimal places ++ decimal p ∷ words
map_push [] p words = refl
map_push (q ∷ places) p words = ap (λ (l : List (List ℕ)). decimal q ∷ l) (map_push places p words)

small_push : (places : List ℕ) (p : ℕ) → AllByRecursion IsSmall places → IsSmall p → AllByRecursion IsSmall (places ++ p ∷ [])
small_push [] p all g = (g, tt)
small_push (q ∷ places) p all g = (all.0, small_push places p all.1 g)

pub places_more : (text : List ℕ) (old new : List (List ℕ)) (places more : List ℕ) (p : ℕ) → PlacesRead text old places → IsSmall p → old ≡ decimal p ∷ new → more ≡ places ++ p ∷ [] → PlacesRead text new more
places_more text old new places more p r small e is =
    subst (λ (all : List ℕ). PlacesRead text new all) (sym is) (record {
      small = small_push places p r.small small;
      spelled = r.spelled ∙ ap (λ (l : List (List ℕ)). codes "order" ∷ (map decimal places ++ l)) e ∙ ap (λ (l : List (List ℕ)). codes "order" ∷ l) (sym (map_push places p new));
    })

-- no place is what stands next
stuck : (places others : List ℕ) (words : List (List ℕ)) → AllByRecursion IsSmall others → (words ≡ [] → ⊥) → ((v : ℕ) (more : List (List ℕ)) → IsSmall v → words ≡ decimal v ∷ more → ⊥)
    → map decimal places ++ words ≡ map decimal others → ⊥
stuck [] [] words all some none e = some e
stuck [] (o ∷ others) words all some none e = none o (map decimal others) all.0 e
stuck (p ∷ places) [] words all some none e = cc e
stuck (p ∷ places) (o ∷ others) words all some none e = stuck places others words all.1 some none (tails _ _ _ _ e)
  where
    tails : (a b : List ℕ) (x y : List (List ℕ)) → a ∷ x ≡ b ∷ y → x ≡ y
    tails a b x y e = cc

behind : (a b : List ℕ) (x y : List (List ℕ)) → a ∷ x ≡ b ∷ y → x ≡ y
behind a b x y e = cc

pub no_name : (text : List ℕ) (old : List (List ℕ)) → old ≡ split 32 text → ((more : List (List ℕ)) → old ≡ codes "order" ∷ more → ⊥) → NoOrder text
no_name text old is none = λ places good e. none (map decimal places) (is ∙ order_split text places good e)

pub no_place : (text : List ℕ) (words : List (List ℕ)) (places : List ℕ) → PlacesRead text words places → (words ≡ [] → ⊥) → ((v : ℕ) (more : List (List ℕ)) → IsSmall v → words ≡ decimal v ∷ more → ⊥) → NoOrder text
no_place text words places r some none = λ others good e. stuck places others words good.small some none (behind _ _ _ _ (sym r.spelled ∙ order_split text others good e))

none_named : (others : List ℕ) → 0 < length others → map decimal others ≡ [] → ⊥
none_named [] some e = absurd (omega (arith, some))
none_named (o ∷ others) some e = cc e

pub no_places : (text : List ℕ) (words : List (List ℕ)) (places : List ℕ) → PlacesRead text words places → words ≡ [] → length places ≡ 0 → NoOrder text
no_places text words [] r ended none = λ others good e. none_named others good.some (behind _ _ _ _ (sym (order_split text others good e) ∙ r.spelled ∙ ap (λ (l : List (List ℕ)). codes "order" ∷ l) ended))
no_places text words (p ∷ places) r ended none = absurd (omega (arith, none))

pub places_all : (text : List ℕ) (words : List (List ℕ)) (places : List ℕ) → PlacesRead text words places → words ≡ [] → 0 < length places → IsOrderOf text places
places_all text words places r ended some = record {
  good = record { small = r.small; some = some };
  spelled = sym (join_split 32 text) ∙ ap (join 32) (r.spelled ∙ ap (λ (l : List (List ℕ)). codes "order" ∷ (map decimal places ++ l)) ended ∙ ap (λ (l : List (List ℕ)). codes "order" ∷ l) (append-nil (map decimal places)));
}
