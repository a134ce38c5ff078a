-- Words whose bytes all lie above a number, and so above the separators.
use Rattle.std.proofs.Common.{◌≡◌, ℕ, ◌<◌, ◌≤◌, Bool, true, false, cond, ◌&&◌, ltb, List, [], ◌∷◌, ◌++◌, refl, arith}
use Rattle.std.proofs.lemmas.Bool.{ltb-true, lt-ltb}
use Rattle.text_words.specs.Words.{Lacks}
use Rattle.vk_trace.proofs.Splits.{AllLack}

abbrev pub above : ℕ → List ℕ → Bool
above c [] = true
above c (x ∷ xs) = ltb c x && above c xs

pub both : (a b : Bool) → a && b ≡ true → (a ≡ true) × (b ≡ true)
both true true e = (refl, refl)
both true false e = absurd cc
both false b e = absurd cc

pub and : (a b : Bool) → a ≡ true → b ≡ true → a && b ≡ true
and true b p q = q
and false b p q = absurd cc

pub above_append : (c : ℕ) (xs ys : List ℕ) → above c xs ≡ true → above c ys ≡ true → above c (xs ++ ys) ≡ true
above_append c [] ys p q = q
above_append c (x ∷ xs) ys p q = let parts = both (ltb c x) (above c xs) p in and (ltb c x) (above c (xs ++ ys)) parts.0 (above_append c xs ys parts.1 q)

pub above_cond : (c : ℕ) (b : Bool) (xs ys : List ℕ) → above c xs ≡ true → above c ys ≡ true → above c (cond b xs ys) ≡ true
above_cond c true xs ys p q = p
above_cond c false xs ys p q = q

pub lacks_above : (c d : ℕ) (xs : List ℕ) → d ≤ c → above c xs ≡ true → Lacks d xs
lacks_above c d [] le p = tt
lacks_above c d (x ∷ xs) le p =
    let parts = both (ltb c x) (above c xs) p in
    let lt : c < x = ltb-true c x parts.0 in
    ((λ e. absurd (omega arith)), lacks_above c d xs le parts.1)

abbrev pub all_above : ℕ → List (List ℕ) → Bool
all_above c [] = true
all_above c (w ∷ ws) = above c w && all_above c ws

pub all_above_append : (c : ℕ) (ws vs : List (List ℕ)) → all_above c ws ≡ true → all_above c vs ≡ true → all_above c (ws ++ vs) ≡ true
all_above_append c [] vs p q = q
all_above_append c (w ∷ ws) vs p q = let parts = both (above c w) (all_above c ws) p in and (above c w) (all_above c (ws ++ vs)) parts.0 (all_above_append c ws vs parts.1 q)

pub all_lack : (c d : ℕ) (ws : List (List ℕ)) → d ≤ c → all_above c ws ≡ true → AllLack d ws
unfolding AllLack
all_lack c d [] le p = tt
all_lack c d (w ∷ ws) le p = let parts = both (above c w) (all_above c ws) p in (lacks_above c d w le parts.0, all_lack c d ws le parts.1)

pub above_less : (c d : ℕ) (xs : List ℕ) → d ≤ c → above c xs ≡ true → above d xs ≡ true
above_less c d [] le p = refl
above_less c d (x ∷ xs) le p =
    let q = both (ltb c x) (above c xs) p in
    let lt : c < x = ltb-true c x q.0 in
    and (ltb d x) (above d xs) (lt-ltb d x (omega arith)) (above_less c d xs le q.1)
