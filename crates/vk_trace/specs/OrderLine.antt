-- The line of an order of a listing's acts.
use Rattle.std.specs.Prelude.{◌≡◌, ℕ, ◌<◌, List, [], ◌∷◌, ◌++◌, length, map, decimal, codes}
use Rattle.std.specs.List.{AllByRecursion}
use Rattle.vk_trace.specs.ListText.{IsSmall, join}

-- an order names a place at least
pub record IsOrder (places : List ℕ) : Type 0 where
  pub small : AllByRecursion IsSmall places
  pub some : 0 < length places

-- `order`, and the places that it names
abbrev pub order_words : List ℕ → List (List ℕ)
order_words places = codes "order" ∷ map decimal places

-- an order's line: its words with a blank between each two, and a line feed
unfoldable pub order_line : List ℕ → List ℕ
order_line places = join 32 (order_words places) ++ 10 ∷ []

-- a line without its line feed is that of an order
pub record IsOrderOf (text places : List ℕ) : Type 0 where
  pub good : IsOrder places
  pub spelled : text ≡ join 32 (order_words places)

-- or of none
abbrev pub NoOrder : List ℕ → Type 0
NoOrder text = (places : List ℕ) → IsOrder places → text ≡ join 32 (order_words places) → ⊥
