-- Instructions that the profile takes, one after another.
use Rattle.std.proofs.Common.{◌≡◌, ℕ, ◌+◌, ◌<◌, Bool, true, false, if◌then◌else◌, List, [], ◌∷◌, ◌++◌, Some, None, refl, ap, ◌∙◌}
use Rattle.std.specs.Prelude.{◌||◌, ◌&&◌}
use Rattle.std.proofs.lemmas.Bool.{lt-ltb, eq-eqb, ne_eqb}
use Rattle.spirv_model.specs.declared.fault.ModuleKind.TheVariants as kind
use Rattle.spirv_model.specs.Op.{Op}
use Rattle.spirv_model.specs.Op as op
use Rattle.spirv_model.specs.History.{result_of, maker, is_id, is_branched_to, branches_to, after}
use Rattle.spirv_model.specs.Operands.{Verdict, or_else, unless, below, result, not_made, suits, made, label, label_at, later_label, not_yet, operands}
use Rattle.spirv_model.specs.FirstBad.{first_word_rule, first_fault, word_count, ops_fault}

pub and_parts : (a b : Bool) → (a && b) ≡ true → (a ≡ true) × (b ≡ true)
and_parts true b e = (refl, e)
and_parts false b e = cc

-- every word is right
abbrev pub Fine : List Verdict → Type 0
Fine [] = Unit {0}
Fine (k ∷ ks) = (k ≡ None) × Fine ks

-- every word of these instructions is right after a history
abbrev pub Passes : (bound : ℕ) → (h os : List Op) → Type 0
Passes bound h [] = Unit {0}
Passes bound h (o ∷ os) = Fine (first_word_rule h o ∷ operands bound h o) × Passes bound (o ∷ h) os

none_then : (at : ℕ) (k : Verdict) (ks : List Verdict) → k ≡ None → first_fault (at + 1) ks ≡ None → first_fault at (k ∷ ks) ≡ None
none_then at None ks e r = r
none_then at (Some k) ks e r = cc

pub fine_fault : (at : ℕ) (ks : List Verdict) → Fine ks → first_fault at ks ≡ None
fine_fault at [] h = refl
fine_fault at (k ∷ ks) h = none_then at k ks h.0 (fine_fault (at + 1) ks h.1)

-- then no word of them is refused
pub passes_fault : (bound : ℕ) (h os : List Op) (at : ℕ) → Passes bound h os → ops_fault bound h at os ≡ None
passes_fault bound h [] at p = refl
passes_fault bound h (o ∷ os) at p =
    ap (λ f. or_else f (ops_fault bound (o ∷ h) (at + word_count o) os)) (fine_fault at (first_word_rule h o ∷ operands bound h o) p.0)
    ∙ passes_fault bound (o ∷ h) os (at + word_count o) p.1

pub passes_append : (bound : ℕ) (h a b : List Op) → Passes bound h a → Passes bound (after a h) b → Passes bound h (a ++ b)
passes_append bound h [] b p q = q
passes_append bound h (o ∷ a) b p q = (p.0, passes_append bound (o ∷ h) a b p.1 q)

pub after_append : (a b h : List Op) → after (a ++ b) h ≡ after b (after a h)
after_append [] b h = refl
after_append (o ∷ a) b h = after_append a b (o ∷ h)

-- who makes an id
pub maker_here : (r : ℕ) (o : Op) (h : List Op) → result_of o ≡ Some r → maker r (o ∷ h) ≡ Some o
maker_here r o h e = ap (λ x. if is_id r x then Some o else maker r h) e ∙ ap (λ t. if t then Some o else maker r h) (eq-eqb r r refl)

pub maker_other : (x r : ℕ) (o : Op) (h : List Op) → result_of o ≡ Some r → (r ≡ x → ⊥) → maker x (o ∷ h) ≡ maker x h
maker_other x r o h e ne = ap (λ y. if is_id x y then Some o else maker x h) e ∙ ap (λ t. if t then Some o else maker x h) (ne_eqb r x ne)

pub maker_none : (x : ℕ) (o : Op) (h : List Op) → result_of o ≡ None → maker x (o ∷ h) ≡ maker x h
maker_none x o h e = ap (λ y. if is_id x y then Some o else maker x h) e

or_true : (a b : Bool) → b ≡ true → (a || b) ≡ true
or_true true b e = refl
or_true false b e = e

-- a label that a branch named before stays named
pub branched_after : (l : ℕ) (os h : List Op) → is_branched_to l h ≡ true → is_branched_to l (after os h) ≡ true
branched_after l [] h e = e
branched_after l (o ∷ os) h e = branched_after l os (o ∷ h) (or_true (branches_to l o) (is_branched_to l h) e)

pub branched_here : (l : ℕ) (h : List Op) → is_branched_to l (op.Branch l ∷ h) ≡ true
branched_here l h = ap (λ t. t || is_branched_to l h) (eq-eqb l l refl)

-- ## The rules of operands

module _ (bound : ℕ) (h : List Op) where
  in_bound : (x : ℕ) (k : Verdict) → x < bound → k ≡ None → below bound h x k ≡ None
  in_bound x k lt e = ap (λ t. if t then k else Some kind.Ident) (lt-ltb x bound lt) ∙ e

  pub result_fine : (r : ℕ) → r < bound → maker r h ≡ None → result bound h r ≡ None
  result_fine r lt e = in_bound r (not_made bound h (maker r h)) lt (ap (not_made bound h) e)

  pub made_fine : (p : Op → Bool) (x : ℕ) (o : Op) → x < bound → maker x h ≡ Some o → p o ≡ true → made bound h p x ≡ None
  made_fine p x o lt e q = in_bound x (suits bound h p (maker x h)) lt (ap (suits bound h p) e ∙ ap (λ t. unless t kind.Shape) q)

  pub label_fine : (l : ℕ) → l < bound → maker l h ≡ None → label bound h l ≡ None
  label_fine l lt e = in_bound l (label_at bound h l (maker l h)) lt (ap (label_at bound h l) e)

  pub back_fine : (l : ℕ) → l < bound → maker l h ≡ Some (op.Label l) → is_branched_to l h ≡ true → label bound h l ≡ None
  back_fine l lt e b = in_bound l (label_at bound h l (maker l h)) lt (ap (label_at bound h l) e ∙ ap (λ t. unless t kind.Flow) b)

  pub later_fine : (l : ℕ) → l < bound → maker l h ≡ None → later_label bound h l ≡ None
  later_fine l lt e = in_bound l (not_yet bound h (maker l h)) lt (ap (not_yet bound h) e)
