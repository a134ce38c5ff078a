-- An order of new places of acts, and what a reordering of the acts has.
use Rattle.std.proofs.Common.{◌≡◌, ℕ, zero, suc, ◌+◌, ◌<◌, ◌≤◌, Bool, true, false, not, cond, ◌&&◌, ◌||◌, ◌==◌, List, [], ◌∷◌, ◌++◌, length, take, refl, sym, ap, ◌∙◌, subst, inl, inr, slice_get, arith, append_assoc, length-append}
use Rattle.std.specs.List.{AllByRecursion}
use Rattle.std.proofs.lemmas.Bool.{and_parts, both_ways, cases_Bool, eq-eqb, ne_eqb}
use Rattle.std.proofs.lemmas.List.Folds.{list_any-append}
use Rattle.vk_types.specs.declared.op.VkOp.{VkOp}
use Rattle.base_lemmas.specs.Lists.{IsReordering}
use Rattle.vk_types.specs.Listing.{is_act, act_places, acts}
use Rattle.base_lemmas.proofs.Lists.{all_front, all_back, all_map, all_both, all_reordered, pairs_with}
use Rattle.vk_order.specs.Order.{is_act_in, is_new_in, is_new_at, stands_in}
use Rattle.vk_order.proofs.Whole.{IsIn, Distinct, no_more, whole_order}

append_none : (xs : List ℕ) → xs ++ [] ≡ xs
append_none [] = refl
append_none (x ∷ xs) = ap (λ l. x ∷ l) (append_none xs)

not_true : (b : Bool) → not b ≡ true → b ≡ false
not_true true e = absurd (cc e)
not_true false e = refl

either_none : (a b : Bool) → (a || b) ≡ false → (a ≡ false) × (b ≡ false)
either_none true b e = absurd (cc e)
either_none false b e = (refl, e)

or_none : (a b : Bool) → a ≡ false → b ≡ false → (a || b) ≡ false
or_none a b e f = ap (λ t. t || b) e ∙ f

both_true : (a b : Bool) → a ≡ true → b ≡ true → (a && b) ≡ true
both_true a b e f = ap (λ t. t && b) e ∙ f

apart : (x y : ℕ) → (x == y) ≡ false → x ≡ y → ⊥
apart x y f e = both_ways (x == y) f (eq-eqb x y e)

pub unequal : (x y : ℕ) → (x ≡ y → ⊥) → (x == y) ≡ false
unequal x y n = ne_eqb x y n

-- places of acts, none of them twice and none of these
pub record AreNew (ops : List VkOp) (front ps : List ℕ) : Type 0 where
  pub act : AllByRecursion (λ p. is_act_in (slice_get ops p) ≡ true) ps
  pub distinct : Distinct ps
  pub others : AllByRecursion (λ p. stands_in front p ≡ false) ps

stands_with : (front : List ℕ) (p q : ℕ) → stands_in (front ++ p ∷ []) q ≡ false → (stands_in front q ≡ false) × (p ≡ q → ⊥)
stands_with front p q e =
    let two = either_none (stands_in front q) ((p == q) || false) (sym (list_any-append (λ x. x == q) front (p ∷ [])) ∙ e) in
    (two.0, apart p q ((either_none (p == q) false two.1).0))

stands_without : (front : List ℕ) (p q : ℕ) → stands_in front q ≡ false → (p ≡ q → ⊥) → stands_in (front ++ p ∷ []) q ≡ false
stands_without front p q e n = list_any-append (λ x. x == q) front (p ∷ []) ∙ or_none (stands_in front q) ((p == q) || false) e (or_none (p == q) false (unequal p q n) refl)

pub new_from : (ops : List VkOp) (front rest : List ℕ) (n : ℕ) → n ≤ length rest → ((i : ℕ) → i < n → is_new_in ops (front ++ take i rest) (slice_get rest i) ≡ true) → AreNew ops front (take n rest)
new_from ops front rest zero le h = record { act = tt; distinct = tt; others = tt }
new_from ops front [] (suc n) le h = absurd (omega (arith, le))
new_from ops front (p ∷ ps) (suc n) le h =
    let first = and_parts (is_act_in (slice_get ops p)) (not (stands_in (front ++ []) p)) (h zero (omega arith)) in
    let new : stands_in front p ≡ false = ap (λ l. stands_in l p) (sym (append_none front)) ∙ not_true (stands_in (front ++ []) p) first.1 in
    let more = new_from ops (front ++ p ∷ []) ps n (omega (arith, le)) (λ i l. ap (λ f. is_new_in ops f (slice_get ps i)) (append_assoc front (p ∷ []) (take i ps)) ∙ h (suc i) (omega (arith, l))) in
    record {
      act = (first.0, more.act);
      distinct = (all_map (λ q. stands_in (front ++ p ∷ []) q ≡ false) (λ q. p ≡ q → ⊥) (λ q e. (stands_with front p q e).1) (take n ps) more.others, more.distinct);
      others = (new, all_map (λ q. stands_in (front ++ p ∷ []) q ≡ false) (λ q. stands_in front q ≡ false) (λ q e. (stands_with front p q e).0) (take n ps) more.others);
    }

pub new_there : (ops : List VkOp) (front rest : List ℕ) → AreNew ops front rest → (i : ℕ) → i < length rest → is_new_in ops (front ++ take i rest) (slice_get rest i) ≡ true
new_there ops front [] a i l = absurd (omega (arith, l))
new_there ops front (p ∷ ps) a zero l = both_true (is_act_in (slice_get ops p)) (not (stands_in (front ++ []) p)) (a.act.0) (ap (λ l. not (stands_in l p)) (append_none front) ∙ ap not (a.others.0))
new_there ops front (p ∷ ps) a (suc i) l =
    let more : AreNew ops (front ++ p ∷ []) ps = record {
      act = a.act.1;
      distinct = a.distinct.1;
      others = all_map (λ q. (stands_in front q ≡ false) × (p ≡ q → ⊥)) (λ q. stands_in (front ++ p ∷ []) q ≡ false) (λ q e. stands_without front p q e.0 e.1) ps
          (all_both (λ q. stands_in front q ≡ false) (λ q. p ≡ q → ⊥) ps (a.others.1) (a.distinct.0));
    } in
    ap (λ f. is_new_in ops f (slice_get ps i)) (sym (append_assoc front (p ∷ []) (take i ps))) ∙ new_there ops (front ++ p ∷ []) ps more i (omega (arith, l))

-- The acts -----------------------------------------------------------------------------------------------------------------

in_more : (b : Bool) (at m : ℕ) (xs : List ℕ) → IsIn xs m → IsIn (cond b (at ∷ xs) xs) m
in_more true at m xs i = (at ∷ i.0, i.1, ap (λ l. at ∷ l) i.2)
in_more false at m xs i = i

in_places : (ops : List VkOp) (at k m : ℕ) → at + k ≡ m → is_act_in (slice_get ops k) ≡ true → IsIn (act_places at ops) m
in_places [] at k m e h = absurd (cc h)
in_places (o ∷ ops) at zero m e h =
    let is : at ≡ m = omega (arith, e) in
    ([], act_places (suc at) ops, ap (λ b. cond b (at ∷ act_places (suc at) ops) (act_places (suc at) ops)) h ∙ ap (λ n. n ∷ act_places (suc at) ops) is)
in_places (o ∷ ops) at (suc k) m e h = in_more (is_act o) at m (act_places (suc at) ops) (in_places ops (suc at) k m (omega (arith, e)) h)

pub few_places : (ops : List VkOp) (at : ℕ) → length (act_places at ops) ≤ length ops
few_places [] at = omega arith
few_places (o ∷ ops) at =
    let rest = few_places ops (suc at) in
    elim (cases_Bool (is_act o)) [
      | inl t ↦ let e : length (act_places at (o ∷ ops)) ≡ suc (length (act_places (suc at) ops)) = ap (λ b. length (cond b (at ∷ act_places (suc at) ops) (act_places (suc at) ops))) t in omega (arith, rest, e)
      | inr f ↦ let e : length (act_places at (o ∷ ops)) ≡ length (act_places (suc at) ops) = ap (λ b. length (cond b (at ∷ act_places (suc at) ops) (act_places (suc at) ops))) f in omega (arith, rest, e)
    ]

-- the places are of acts and none twice, where the listing is the rest of a longer one
later_places : (ops : List VkOp) (at : ℕ) → AllByRecursion (λ p. at ≤ p) (act_places at ops)
later_places [] at = tt
later_places (o ∷ ops) at =
    let rest = all_map (λ p. suc at ≤ p) (λ p. at ≤ p) (λ p l. omega (arith, l)) (act_places (suc at) ops) (later_places ops (suc at)) in
    elim (cases_Bool (is_act o)) [
      | inl t ↦ subst (λ b. AllByRecursion (λ p. at ≤ p) (cond b (at ∷ act_places (suc at) ops) (act_places (suc at) ops))) (sym t) (omega arith, rest)
      | inr f ↦ subst (λ b. AllByRecursion (λ p. at ≤ p) (cond b (at ∷ act_places (suc at) ops) (act_places (suc at) ops))) (sym f) rest
    ]

distinct_places : (ops : List VkOp) (at : ℕ) → Distinct (act_places at ops)
distinct_places [] at = tt
distinct_places (o ∷ ops) at =
    let rest = distinct_places ops (suc at) in
    elim (cases_Bool (is_act o)) [
      | inl t ↦ subst (λ b. Distinct (cond b (at ∷ act_places (suc at) ops) (act_places (suc at) ops))) (sym t)
          (all_map (λ p. suc at ≤ p) (λ p. at ≡ p → ⊥) (λ p l e. omega (arith, l, e)) (act_places (suc at) ops) (later_places ops (suc at)), rest)
      | inr f ↦ subst (λ b. Distinct (cond b (at ∷ act_places (suc at) ops) (act_places (suc at) ops))) (sym f) rest
    ]

-- each place is of an act of the whole, of which these are the operations from the first place on
acts_there : (whole ops : List VkOp) (at : ℕ) → ((k m : ℕ) → at + k ≡ m → slice_get whole m ≡ slice_get ops k) → AllByRecursion (λ p. is_act_in (slice_get whole p) ≡ true) (act_places at ops)
acts_there whole [] at h = tt
acts_there whole (o ∷ ops) at h =
    let rest = acts_there whole ops (suc at) (λ k m e. h (suc k) m (omega (arith, e))) in
    elim (cases_Bool (is_act o)) [
      | inl t ↦ subst (λ b. AllByRecursion (λ p. is_act_in (slice_get whole p) ≡ true) (cond b (at ∷ act_places (suc at) ops) (act_places (suc at) ops))) (sym t)
          (ap is_act_in (h zero at (omega arith)) ∙ t, rest)
      | inr f ↦ subst (λ b. AllByRecursion (λ p. is_act_in (slice_get whole p) ≡ true) (cond b (at ∷ act_places (suc at) ops) (act_places (suc at) ops))) (sym f) rest
    ]

-- Reorderings ----------------------------------------------------------------------------------------------------------------

distinct_reordered : (xs ys : List ℕ) → IsReordering xs ys → Distinct xs → Distinct ys
distinct_reordered [] ys r d = subst Distinct (sym r) tt
distinct_reordered (x ∷ xs) ys r d =
    let rest = distinct_reordered xs (r.0 ++ r.1) r.3 d.1 in
    let far = all_reordered (λ y. x ≡ y → ⊥) xs (r.0 ++ r.1) r.3 d.0 in
    subst Distinct (sym r.2)
    (pairs_with (λ x y. x ≡ y → ⊥) x r.0 r.1 rest
    (all_map (λ y. x ≡ y → ⊥) (λ y. y ≡ x → ⊥) (λ y n e. n (sym e)) r.0 (all_front (λ y. x ≡ y → ⊥) r.0 r.1 far))
    (all_back (λ y. x ≡ y → ⊥) r.0 r.1 far))

length_reordered : (xs ys : List ℕ) → IsReordering xs ys → length xs ≡ length ys
length_reordered [] ys r = sym (ap length r)
length_reordered (x ∷ xs) ys r =
    let rest = length_reordered xs (r.0 ++ r.1) r.3 in
    let a = length-append r.0 (x ∷ r.1) in
    let b = length-append r.0 r.1 in
    let e : length ys ≡ length (r.0 ++ x ∷ r.1) = ap length r.2 in
    omega (arith, rest, a, b, e)

none_of_none : (ps : List ℕ) → AllByRecursion (λ p. stands_in [] p ≡ false) ps
none_of_none [] = tt
none_of_none (p ∷ ps) = (refl, none_of_none ps)

-- in a reordering of the acts each place is new
pub reordered_new : (ops : List VkOp) (order : List ℕ) → IsReordering (acts ops) order → (i : ℕ) → i < length order → is_new_at ops order i ≡ true
reordered_new ops order r i l =
    new_there ops [] order (record {
      act = all_reordered (λ p. is_act_in (slice_get ops p) ≡ true) (acts ops) order r (acts_there ops ops 0 (λ k m e. let is : m ≡ k = omega (arith, e) in ap (slice_get ops) is));
      distinct = distinct_reordered (acts ops) order r (distinct_places ops 0);
      others = none_of_none order;
    }) i l

-- an order with an odd place within it, or that is too short, is no reordering of the acts
pub odd_place : (ops : List VkOp) (order : List ℕ) (at : ℕ) → is_new_at ops order at ≡ false → at < length order → IsReordering (acts ops) order → ⊥
odd_place ops order at odd l r = both_ways (is_new_at ops order at) odd (reordered_new ops order r at l)

pub too_short : (ops : List VkOp) (order : List ℕ) → length order < length (acts ops) → IsReordering (acts ops) order → ⊥
too_short ops order l r = let e = length_reordered (acts ops) order r in omega (arith, l, e)

in_acts : (ops : List VkOp) (ps : List ℕ) → AllByRecursion (λ p. is_act_in (slice_get ops p) ≡ true) ps → AllByRecursion (IsIn (acts ops)) ps
in_acts ops ps h = all_map (λ p. is_act_in (slice_get ops p) ≡ true) (IsIn (acts ops)) (λ p e. in_places ops 0 p p (omega arith) e) ps h

-- new places are no more than the acts
pub few_new : (ops : List VkOp) (ps : List ℕ) → AreNew ops [] ps → length ps ≤ length (acts ops)
few_new ops ps a = no_more ps (acts ops) a.distinct (in_acts ops ps a.act)

-- as many new places as acts are all
pub all_new : (ops : List VkOp) (ps : List ℕ) → AreNew ops [] ps → length (acts ops) ≤ length ps → IsReordering (acts ops) ps
all_new ops ps a le = let few = few_new ops ps a in whole_order (acts ops) ps a.distinct (in_acts ops ps a.act) (omega (arith, le, few))
