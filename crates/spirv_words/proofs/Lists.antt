-- Facts on lists.
use Rattle.std.proofs.Common.{◌≡◌, ℕ, ◌+◌, Bool, true, false, List, [], ◌∷◌, ◌++◌, length, Some, None, refl, ap, ◌∙◌, arith}
use Rattle.std.specs.Prelude.{◌||◌, map}
use Rattle.std.specs.List.{list_any}
use Rattle.std.proofs.lemmas.List.{map-append}
use Rattle.std.proofs.lemmas.List.Folds.{list_any-append}
use Rattle.spirv_model.specs.declared.op.Op.{Op as View}
use Rattle.spirv_model.specs.Op.{Op}
use Rattle.spirv_model.specs.History.{after}
use Rattle.spirv_model.specs.View.{shown}
use Rattle.spirv_model.specs.Operands.{Verdict, or_else}
use Rattle.spirv_model.specs.FirstBad.{first_fault}
use Rattle.spirv_words.specs.Kept.{so_far}

either : (a b : Bool) → (a || (b || false)) ≡ (b || a)
either true true = refl
either true false = refl
either false true = refl
either false false = refl

-- whether one of a list and one more element passes a test
pub any_pushed : {X : Type 0} (p : X → Bool) (xs : List X) (x : X) → list_any p (xs ++ x ∷ []) ≡ (p x || list_any p xs)
any_pushed p xs x = list_any-append p xs (x ∷ []) ∙ either (list_any p xs) (p x)

-- behind one instruction more
pub after-append : (os : List Op) (h : List Op) (o : Op) → after (os ++ o ∷ []) h ≡ o ∷ after os h
after-append [] h o = refl
after-append (x ∷ os) h o = after-append os (x ∷ h) o

pub so_far_pushed : (ops : List View) (v : View) → so_far (ops ++ v ∷ []) ≡ shown v ∷ so_far ops
so_far_pushed ops v = ap (λ l. after l []) (map-append shown ops (v ∷ [])) ∙ after-append (map shown ops) [] (shown v)

-- the first of two stretches of words that is refused
pub fault_of_both : (at : ℕ) (vs ws : List Verdict) → first_fault at (vs ++ ws) ≡ or_else (first_fault at vs) (first_fault (at + length vs) ws)
fault_of_both at [] ws = ap (λ n. first_fault n ws) (omega arith)
fault_of_both at (None ∷ vs) ws = fault_of_both (at + 1) vs ws ∙ ap (λ n. or_else (first_fault (at + 1) vs) (first_fault n ws)) (omega arith)
fault_of_both at (Some k ∷ vs) ws = refl
