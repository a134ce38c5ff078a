-- Places below a bound, and places that rise.
use Rattle.std.proofs.Common.{◌≡◌, ℕ, ◌+◌, ◌<◌, ◌≤◌, false, ◌&&◌, ◌||◌, List, [], ◌∷◌, ◌++◌, length, take, get_or, refl, sym, ap, ◌∙◌, subst, arith}
use Rattle.std.specs.List.{AllByRecursion}
use Rattle.std.proofs.lemmas.Bool.{le-ltb}
use Rattle.std.proofs.lemmas.List.{take_more}
use Rattle.vk_types.specs.declared.op.VkOp.{VkOp}
use Rattle.vk_types.specs.Before.{side_at, sides_ordered, before}
use Rattle.base_lemmas.specs.Lists.{Pairwise}
use Rattle.vk_types.specs.Allowed.{Keeps}
use Rattle.base_lemmas.proofs.Lists.{all_map, all_append}
use Rattle.vk_order.specs.Order.{stands_in}
use Rattle.vk_order.proofs.Acts.{unequal}

-- each is below the bound
abbrev pub AreBelow : ℕ → List ℕ → Type 0
AreBelow past places = AllByRecursion (λ p. p < past) places

-- what is not below the bound is none of them
pub none_of : (places : List ℕ) (past place : ℕ) → AreBelow past places → past ≤ place → stands_in places place ≡ false
none_of [] past place h le = refl
none_of (p ∷ ps) past place h le =
    let lt = h.0 in
    ap (λ b. b || stands_in ps place) (unequal p place (λ e. omega (arith, lt, e))) ∙ none_of ps past place h.1 le

pub below_next : (order : List ℕ) (i past more : ℕ) → i < length order → past ≤ more → get_or order i 0 < more → AreBelow past (take i order) → AreBelow more (take (i + 1) order)
below_next order i past more lt le here h =
    subst (AreBelow more) (sym (take_more order i 0 lt))
    (all_append (λ p. p < more) (take i order) (get_or order i 0 ∷ []) (all_map (λ p. p < past) (λ p. p < more) (λ p l. omega (arith, l, le)) (take i order) h) (here, tt))

last_pair : (xs : List ℕ) (y : ℕ) → Pairwise (λ p q. p < q) xs → AreBelow y xs → Pairwise (λ p q. p < q) (xs ++ y ∷ [])
last_pair [] y h b = (tt, tt)
last_pair (x ∷ xs) y h b = (all_append (λ q. x < q) xs (y ∷ []) h.0 (b.0, tt), last_pair xs y h.1 b.1)

pub rising_next : (order : List ℕ) (i past : ℕ) → i < length order → past ≤ get_or order i 0 → AreBelow past (take i order) → Pairwise (λ p q. p < q) (take i order)
    → Pairwise (λ p q. p < q) (take (i + 1) order)
rising_next order i past lt le below h =
    subst (Pairwise (λ p q. p < q)) (sym (take_more order i 0 lt))
    (last_pair (take i order) (get_or order i 0) h (all_map (λ p. p < past) (λ p. p < get_or order i 0) (λ p l. omega (arith, l, le)) (take i order) below))

-- an order that rises is the listing's own
pub rising_kept : (ops : List VkOp) (order : List ℕ) → Pairwise (λ p q. p < q) order → Keeps (before ops) order
rising_kept ops [] h = tt
rising_kept ops (o ∷ os) h =
    (all_map (λ q. o < q) (λ q. before ops q o ≡ false) (λ q lt. ap (λ b. b && sides_ordered ops q o (side_at ops q) (side_at ops o)) (le-ltb q o (omega (arith, lt)))) os h.0, rising_kept ops os h.1)
