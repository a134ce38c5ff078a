-- When a device doesn't hold a block: none of its messages has it, or one that was completed gave it up and none took
-- it since.
use Rattle.std.proofs.Common.{◌≡◌, ℕ, zero, suc, ◌≤◌, Bool, true, false, not, ◌&&◌, ◌||◌, List, [], ◌∷◌, ◌++◌}
use Rattle.std.proofs.Common.{length, take, drop, refl, sym, ap, ◌∙◌, Some, arith}
use Rattle.std.specs.List.{list_any}
use Rattle.std.proofs.lemmas.Bool.{eq-eqb}
use Rattle.std.proofs.lemmas.List.Folds.{list_any-append}
use Rattle.vk_types.specs.declared.message.Placed.{Placed}
use Rattle.core_model.specs.Owners.{is_block}
use Rattle.core_model.specs.Succession.{takes, stages_in, is_staged_in, all_places}
use Rattle.core_model.specs.Spine.{gives_up, has_place, held_done}
use Rattle.core_model.proofs.Steps.Binding.{or_left, or_right}

neither : (a b : Bool) → (a || b) ≡ false → (a ≡ false) × (b ≡ false)
neither true b e = absurd (cc e)
neither false b e = (refl, e)

-- none of two lists
pub takes_neither : (b : ℕ) (ps qs : List Placed) → takes b (ps ++ qs) ≡ false
    → (takes b ps ≡ false) × (takes b qs ≡ false)
takes_neither b ps qs h = neither (takes b ps) (takes b qs) (sym (list_any-append (λ p. is_block p.block b) ps qs) ∙ h)

pub stages_neither : (b : ℕ) (ps qs : List Placed) → stages_in b (ps ++ qs) ≡ false
    → (stages_in b ps ≡ false) × (stages_in b qs ≡ false)
stages_neither b ps qs h = neither (stages_in b ps) (stages_in b qs)
    (sym (list_any-append (λ p. is_staged_in b p.staged) ps qs) ∙ h)

-- a device that held the block, or not, behind these messages
abbrev pub holds_from : ℕ → ℕ → List (List Placed) → Bool → Bool
holds_from b n pss was = held_done b (take n pss) was || list_any (has_place b) (drop n pss)

pub no_places : (b : ℕ) (pss : List (List Placed)) → takes b (all_places pss) ≡ false
    → stages_in b (all_places pss) ≡ false → list_any (has_place b) pss ≡ false
no_places b [] t s = refl
no_places b (ps ∷ pss) t s =
    let x = takes_neither b ps (all_places pss) t in
    let y = stages_neither b ps (all_places pss) s in
    ap (λ c. (c || stages_in b ps) || list_any (has_place b) pss) x.0
    ∙ ap (λ c. c || list_any (has_place b) pss) y.0 ∙ no_places b pss x.1 y.1

-- what none of the messages has is not held
pub none_holds : (b n : ℕ) (pss : List (List Placed)) → list_any (has_place b) pss ≡ false
    → holds_from b n pss false ≡ false
none_holds b zero pss h = h
none_holds b (suc n) [] h = refl
none_holds b (suc n) (ps ∷ pss) h =
    let x = neither (has_place b ps) (list_any (has_place b) pss) h in
    let y = neither (takes b ps) (stages_in b ps) x.0 in
    ap (λ c. holds_from b n pss ((false || c) && not (gives_up b ps))) y.0 ∙ none_holds b n pss x.1

-- what isn't held is not held when more messages were completed
pub fewer_hold : (b n m : ℕ) (pss : List (List Placed)) (was : Bool) → n ≤ m → holds_from b n pss was ≡ false
    → holds_from b m pss was ≡ false
fewer_hold b zero m pss was l h =
    let x = neither was (list_any (has_place b) pss) h in
    ap (holds_from b m pss) x.0 ∙ none_holds b m pss x.1
fewer_hold b (suc n) zero pss was l h = absurd (let z : ⊥ = omega (arith, l) in z)
fewer_hold b (suc n) (suc m) [] was l h = h
fewer_hold b (suc n) (suc m) (ps ∷ pss) was l h =
    fewer_hold b n m pss ((was || takes b ps) && not (gives_up b ps)) (omega (arith, l)) h

-- one that was completed gave it up
pub given_back : (b n : ℕ) (front : List (List Placed)) (here : List Placed) (back : List (List Placed)) (was : Bool)
    → suc (length front) ≤ n → gives_up b here ≡ true → list_any (has_place b) back ≡ false
    → holds_from b n (front ++ here ∷ back) was ≡ false
given_back b zero front here back was l g h = absurd (let z : ⊥ = omega (arith, l) in z)
given_back b (suc n) [] here back was l g h =
    ap (λ c. holds_from b n back ((was || takes b here) && not c)) g
    ∙ ap (holds_from b n back) (never (was || takes b here)) ∙ none_holds b n back h
  where
    never : (c : Bool) → (c && false) ≡ false
    never true = refl
    never false = refl
given_back b (suc n) (ps ∷ front) here back was l g h =
    given_back b n front here back ((was || takes b ps) && not (gives_up b ps)) (omega (arith, l)) g h

-- a mark among places
pub mark_gives : (b : ℕ) (before : List Placed) (p : Placed) (after : List Placed) → p.mark ≡ Some b
    → gives_up b (before ++ p ∷ after) ≡ true
mark_gives b [] p after e = or_left (is_block p.mark b) (gives_up b after) (ap (λ o. is_block o b) e ∙ eq-eqb b b refl)
mark_gives b (q ∷ before) p after e = or_right (is_block q.mark b) (gives_up b (before ++ p ∷ after))
    (mark_gives b before p after e)

-- messages that took it not, and were completed
pub untaken : (b : ℕ) (front back : List (List Placed)) → takes b (all_places front) ≡ false
    → list_any (has_place b) back ≡ false → holds_from b (length front) (front ++ back) false ≡ false
untaken b [] back t h = h
untaken b (ps ∷ front) back t h =
    let x = takes_neither b ps (all_places front) t in
    ap (λ c. holds_from b (length front) (front ++ back) ((false || c) && not (gives_up b ps))) x.0
    ∙ untaken b front back x.1 h
