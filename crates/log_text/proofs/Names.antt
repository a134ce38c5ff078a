-- The names of the kinds: no two are the same, and none has a blank or a line feed.
use Rattle.std.proofs.Common.{◌≡◌, ℕ, Bool, true, false, cond, not, ◌&&◌, eqb, Option, Some, None, List, [], ◌∷◌, refl, sym, ap, ◌∙◌}
use Rattle.std.proofs.lemmas.Bool.{eqb-true, eqb-false}
use Rattle.call_log.specs.Kinds.{Kind, kinds, kind_numbered}
use Rattle.text_words.specs.Words.{Lacks}
use Rattle.text_words.proofs.Hex.{all_digits, digits_at}
use Rattle.call_log.proofs.KindTable.{kind_small}

-- a test of the name of a form, if there is one
name_test : (List ℕ → Bool) → Option Kind → Bool
name_test p None = true
name_test p (Some f) = p f.name

named : (p : List ℕ → Bool) (k : ℕ) (f : Kind) → kind_numbered k ≡ Some f → all_digits (λ n. name_test p (kind_numbered n)) 80 ≡ true → p f.name ≡ true
unfolding name_test
named p k f e all = ap (name_test p) (sym e) ∙ digits_at (λ n. name_test p (kind_numbered n)) 80 k all (kind_small k f e)

-- ---- no blank, no line feed

lacks_test : ℕ → List ℕ → Bool
lacks_test c [] = true
lacks_test c (x ∷ xs) = not (eqb x c) && lacks_test c xs

both : (a b : Bool) → a && b ≡ true → (a ≡ true) × (b ≡ true)
both true true e = (refl, refl)
both true false e = absurd cc
both false b e = absurd cc

not_true : (a : Bool) → not a ≡ true → a ≡ false
not_true true e = absurd cc
not_true false e = refl

lacks_from : (c : ℕ) (xs : List ℕ) → lacks_test c xs ≡ true → Lacks c xs
unfolding lacks_test
lacks_from c [] e = tt
lacks_from c (x ∷ xs) e = let parts = both (not (eqb x c)) (lacks_test c xs) e in (eqb-false x c (not_true (eqb x c) parts.0), lacks_from c xs parts.1)

pub name_no_blank : (k : ℕ) (f : Kind) → kind_numbered k ≡ Some f → Lacks 32 f.name
unfolding kind_numbered name_test lacks_test all_digits
name_no_blank k f e = lacks_from 32 f.name (named (lacks_test 32) k f e refl)

pub name_no_feed : (k : ℕ) (f : Kind) → kind_numbered k ≡ Some f → Lacks 10 f.name
unfolding kind_numbered name_test lacks_test all_digits
name_no_feed k f e = lacks_from 10 f.name (named (lacks_test 10) k f e refl)

-- ---- no two are the same

same_list : List ℕ → List ℕ → Bool
same_list [] [] = true
same_list [] (y ∷ ys) = false
same_list (x ∷ xs) [] = false
same_list (x ∷ xs) (y ∷ ys) = cond (eqb x y) (same_list xs ys) false

-- the number of the last of some kinds that has a name
last_named : List Kind → List ℕ → ℕ
last_named [] name = 0
last_named (k ∷ ks) name = cond (same_list k.name name) (cond (eqb (last_named ks name) 0) k.number (last_named ks name)) (last_named ks name)

kind_test : ℕ → Option Kind → Bool
kind_test n None = true
kind_test n (Some k) = eqb (last_named kinds k.name) n

number_of_name : (n : ℕ) (k : Kind) → kind_numbered n ≡ Some k → last_named kinds k.name ≡ n
unfolding kind_numbered same_list last_named kind_test all_digits
number_of_name n k e = eqb-true _ _ (ap (kind_test n) (sym e) ∙ digits_at (λ m. kind_test m (kind_numbered m)) 80 n refl (kind_small n k e))

-- two kinds of one name are the same
pub same_name : (k j : ℕ) (f g : Kind) → kind_numbered k ≡ Some f → kind_numbered j ≡ Some g → f.name ≡ g.name → k ≡ j
same_name k j f g p q e = sym (number_of_name k f p) ∙ ap (last_named kinds) e ∙ number_of_name j g q
