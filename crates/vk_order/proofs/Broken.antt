-- Pairs that an order breaks.
use Rattle.std.proofs.Common.{◌≡◌, ℕ, ◌+◌, ◌<◌, ◌≤◌, Bool, true, false, cond, ◌&&◌, ◌||◌, ◌==◌, nat_lt, List, [], ◌∷◌, length, take, refl, sym, ap, ◌∙◌, inl, inr, Some, slice_get, arith}
use Rattle.std.specs.List.{AllByRecursion}
use Rattle.std.proofs.lemmas.Bool.{both_ways, cases_Bool, cases_eq, cases_lt}
use Rattle.std.proofs.lemmas.Option.{slice_get_past}
use Rattle.vk_types.specs.declared.op.VkOp.{VkOp}
use Rattle.vk_types.specs.Before.{Side, On_host, On_device, No_act, side_of, side_at, sides_ordered, before}
use Rattle.vk_types.specs.Allowed.{Keeps}
use Rattle.base_lemmas.proofs.Scan.{scan_hit, scan_miss}
use Rattle.vk_order.specs.Order.{late_of, stands_in, stands_before, is_broken}
use Rattle.vk_order.proofs.Acts.{unequal}

none_after : (rel : ℕ → ℕ → Bool) (p q : ℕ) (os : List ℕ) → AllByRecursion (λ x. rel x p ≡ false) os → stands_in os q ≡ true → rel q p ≡ false
none_after rel p q [] h e = absurd (cc e)
none_after rel p q (o ∷ os) h e =
    elim (cases_eq o q) [
      | inl same ↦ ap (λ x. rel x p) (sym same) ∙ h.0
      | inr n ↦ none_after rel p q os h.1 (sym (ap (λ b. b || stands_in os q) (unequal o q n)) ∙ e)
    ]

keeps_pair : (rel : ℕ → ℕ → Bool) (os : List ℕ) → Keeps rel os → (x y : ℕ) → stands_before os y x ≡ true → rel x y ≡ false
keeps_pair rel [] k x y e = absurd (cc e)
keeps_pair rel (o ∷ os) k x y e =
    elim (cases_Bool (o == y)) [
      | inl t ↦ elim (cases_eq o y) [
        | inl same ↦ ap (rel x) (sym same) ∙ none_after rel o x os k.0 (sym (ap (λ b. stands_in (cond b os (late_of os y)) x) t) ∙ e)
        | inr n ↦ absurd (both_ways (o == y) (unequal o y n) t)
      ]
      | inr f ↦ keeps_pair rel os k.1 x y (sym (ap (λ b. stands_in (cond b os (late_of os y)) x) f) ∙ e)
    ]

-- an order that keeps what the listing orders breaks no pair
pub kept_whole : (ops : List VkOp) (order : List ℕ) → Keeps (before ops) order → (x y : ℕ) → is_broken ops order x y ≡ false
kept_whole ops order k x y =
    elim (cases_Bool (stands_before order y x)) [
      | inl t ↦ ap (λ b. b && stands_before order y x) (keeps_pair (before ops) order k x y t)
      | inr f ↦ ap (λ b. before ops x y && b) f ∙ and_false (before ops x y)
    ]
  where
    and_false : (x : Bool) → (x && false) ≡ false
    and_false true = refl
    and_false false = refl

late_in : (os : List ℕ) (y x : ℕ) → stands_in (late_of os y) x ≡ true → stands_in os x ≡ true
late_in [] y x e = e
late_in (o ∷ os) y x e =
    elim (cases_Bool (o == y)) [
      | inl t ↦ more (sym (ap (λ b. stands_in (cond b os (late_of os y)) x) t) ∙ e)
      | inr f ↦ more (late_in os y x (sym (ap (λ b. stands_in (cond b os (late_of os y)) x) f) ∙ e))
    ]
  where
    right : (a b : Bool) → b ≡ true → (a || b) ≡ true
    right true b h = refl
    right false b h = h

    more : stands_in os x ≡ true → stands_in (o ∷ os) x ≡ true
    more h = right (o == x) (stands_in os x) h

keeps_of : (rel : ℕ → ℕ → Bool) (os : List ℕ) → ((x y : ℕ) → stands_before os y x ≡ true → rel x y ≡ false) → Keeps rel os
keeps_of rel [] h = tt
keeps_of rel (o ∷ os) h = (firsts os (λ x e. h x o (ap (λ b. stands_in (cond b os (late_of os o)) x) (self o) ∙ e)), keeps_of rel os (λ x y e. h x y (later x y e)))
  where
    self : (n : ℕ) → (n == n) ≡ true
    self n = grind arith

    right : (a b : Bool) → b ≡ true → (a || b) ≡ true
    right true b h = refl
    right false b h = h

    firsts : (ps : List ℕ) → ((x : ℕ) → stands_in ps x ≡ true → rel x o ≡ false) → AllByRecursion (λ x. rel x o ≡ false) ps
    firsts [] g = tt
    firsts (p ∷ ps) g = (g p (ap (λ b. b || stands_in ps p) (self p)), firsts ps (λ x e. g x (right (p == x) (stands_in ps x) e)))

    later : (x y : ℕ) → stands_before os y x ≡ true → stands_before (o ∷ os) y x ≡ true
    later x y e =
        elim (cases_Bool (o == y)) [
          | inl t ↦ ap (λ b. stands_in (cond b os (late_of os y)) x) t ∙ late_in os y x e
          | inr f ↦ ap (λ b. stands_in (cond b os (late_of os y)) x) f ∙ e
        ]

-- nothing is ordered before what is not there
past_end : (ops : List VkOp) (x y : ℕ) → length ops ≤ y → before ops x y ≡ false
past_end ops x y le = ap (λ o. nat_lt x y && sides_ordered ops x y (side_at ops x) (side_of o)) (slice_get_past ops y le) ∙ none (nat_lt x y) (side_at ops x)
  where
    none : (b : Bool) (s : Side) → (b && sides_ordered ops x y s No_act) ≡ false
    none true On_host = refl
    none true (On_device c) = refl
    none true No_act = refl
    none false s = refl

-- an order that breaks no pair keeps what the listing orders
pub whole_kept : (ops : List VkOp) (order : List ℕ) (n : ℕ) → length ops ≤ n → ((x y : ℕ) → y < n → is_broken ops order x y ≡ false) → Keeps (before ops) order
whole_kept ops order n le h = keeps_of (before ops) order one
  where
    left : (a b : Bool) → (a && b) ≡ false → b ≡ true → a ≡ false
    left true b e f = absurd (both_ways b e f)
    left false b e f = refl

    one : (x y : ℕ) → stands_before order y x ≡ true → before ops x y ≡ false
    one x y e =
        elim (cases_lt y n) [
          | inl l ↦ left (before ops x y) (stands_before order y x) (h x y l) e
          | inr ge ↦ past_end ops x y (omega (arith, ge, le))
        ]

-- The least place that is broken with a second ---------------------------------------------------------------------------------

-- the first places that were looked at, of those behind the second: none below the least is broken
abbrev pub NoneBelow : List VkOp → ℕ → List ℕ → ℕ → ℕ → Type 0
NoneBelow ops second places i least = (x : ℕ) → x < least → (before ops x second && stands_in (take i places) x) ≡ false

pub none_yet : (ops : List VkOp) (second : ℕ) (places : List ℕ) (least : ℕ) → NoneBelow ops second places 0 least
none_yet ops second places least x l = and_false (before ops x second)
  where
    and_false : (x : Bool) → (x && false) ≡ false
    and_false true = refl
    and_false false = refl

-- the place at i is not below the new least, or not ordered before the second
pub none_next : (ops : List VkOp) (second : ℕ) (places : List ℕ) (i place least more : ℕ) → slice_get places i ≡ Some place → more ≤ least
    → (place < more → before ops place second ≡ false) → NoneBelow ops second places i least → NoneBelow ops second places (i + 1) more
none_next ops second places i place least more e le h k x l =
    elim (cases_eq place x) [
      | inl same ↦ ap (λ b. b && stands_in (take (i + 1) places) x) (ap (λ n. before ops n second) (sym same) ∙ h (omega (arith, same, l)))
      | inr n ↦ go (before ops x second) refl n
    ]
  where
    go : (b : Bool) → before ops x second ≡ b → (place ≡ x → ⊥) → (before ops x second && stands_in (take (i + 1) places) x) ≡ false
    go true e' n =
        let below : x < least = omega (arith, l, le) in
        let none : stands_in (take i places) x ≡ false = sym (ap (λ b. b && stands_in (take i places) x) e') ∙ k x below in
        ap (λ b. b && stands_in (take (i + 1) places) x) e' ∙ scan_miss (λ z. z == x) places i place e (unequal place x n) none
    go false e' n = ap (λ b. b && stands_in (take (i + 1) places) x) e'

pub broken_here : (ops : List VkOp) (order : List ℕ) (second i place : ℕ) → slice_get (late_of order second) i ≡ Some place → before ops place second ≡ true → is_broken ops order place second ≡ true
broken_here ops order second i place e b =
    ap (λ t. t && stands_in (late_of order second) place) b ∙ scan_hit (λ z. z == place) (late_of order second) i place e (self place)
  where
    self : (n : ℕ) → (n == n) ≡ true
    self n = grind arith
