-- What is taken at a bound is taken at each greater one, shown for the instructions before the numbers.
use Rattle.std.proofs.Common.{◌≡◌, ℕ, ◌+◌, ◌≤◌, Bool, true, false, if◌then◌else◌, List, [], ◌∷◌, map, Option, Some, None, refl, ap, ◌∙◌, arith}
use Rattle.std.specs.Prelude.{nat_lt, ◌&&◌}
use Rattle.std.proofs.lemmas.Bool.{lt-ltb, ltb-true}
use Rattle.spirv_model.specs.declared.fault.ModuleFault.{ModuleFault}
use Rattle.spirv_model.specs.declared.fault.ModuleKind.TheVariants as kind
use Rattle.spirv_model.specs.Op.{Op}
use Rattle.spirv_model.specs.Op as op
use Rattle.spirv_model.specs.Types.{is_word}
use Rattle.spirv_model.specs.Operands.{Verdict, or_else, below, made, later, members, operands}
use Rattle.spirv_model.specs.FirstBad.{first_word_rule, first_fault, word_count, ops_fault}
use Rattle.spirv_emit.proofs.Profile.InstructionsPass.{and_parts, Fine, Passes}

fault_none : (a b : Option ModuleFault) → or_else a b ≡ None → (a ≡ None) × (b ≡ None)
fault_none None b e = (refl, e)
fault_none (Some k) b e = cc

-- the other way round: where no word is refused, each is right
first_fine : (at : ℕ) (ks : List (Verdict)) → first_fault at ks ≡ None → Fine ks
first_fine at [] e = tt
first_fine at (None ∷ ks) e = (refl, first_fine (at + 1) ks e)
first_fine at (Some k ∷ ks) e = cc

pub fault_passes : (bound : ℕ) (h os : List Op) (at : ℕ) → ops_fault bound h at os ≡ None → Passes bound h os
fault_passes bound h [] at e = tt
fault_passes bound h (o ∷ os) at e =
    let p = fault_none (first_fault at (first_word_rule h o ∷ operands bound h o)) (ops_fault bound (o ∷ h) (at + word_count o) os) e in
    (first_fine at (first_word_rule h o ∷ operands bound h o) p.0, fault_passes bound (o ∷ h) os (at + word_count o) p.1)

module _ (b b' : ℕ) (le : b ≤ b') (h : List Op) where
  taken : (t : Bool) (x : ℕ) (k : Verdict) → nat_lt x b ≡ t → (if t then k else Some kind.Ident) ≡ None → below b' h x k ≡ None
  taken true x k q e = ap (λ t. if t then k else Some kind.Ident) (lt-ltb x b' (let l = ltb-true x b q in omega arith)) ∙ e
  taken false x k q e = cc

  more : (x : ℕ) (k : Verdict) → below b h x k ≡ None → below b' h x k ≡ None
  more x k e = taken (nat_lt x b) x k refl e

  or_more : (x : ℕ) (k j : Verdict) → or_else (below b h x k) j ≡ None → or_else (below b' h x k) j ≡ None
  or_more x k j e = both (below b h x k) refl e
    where
      both : (q : Verdict) → below b h x k ≡ q → or_else q j ≡ None → or_else (below b' h x k) j ≡ None
      both None r f = ap (λ y. or_else y j) (more x k r) ∙ f
      both (Some y) r f = cc

  made_more : (p : Op → Bool) (ms : List ℕ) → Fine (map (made b h p) ms) → Fine (map (made b' h p) ms)
  made_more p [] f = tt
  made_more p (m ∷ ms) f = (more m _ f.0, made_more p ms f.1)

  members_more : (ms : List ℕ) → Fine (members b h ms) → Fine (members b' h ms)
  members_more [] f = tt
  members_more (m ∷ []) f = (more m _ f.0, tt)
  members_more (m ∷ n ∷ ms) f = made_more is_word (m ∷ n ∷ ms) f

  later_more : (xs : List ℕ) → Fine (map (later b h) xs) → Fine (map (later b' h) xs)
  later_more [] f = tt
  later_more (x ∷ xs) f = (more x _ f.0, later_more xs f.1)

-- the instructions before the numbers
abbrev pub early : Op → Bool
early (op.Capability c) = true
early (op.MemoryModel a m) = true
early (op.EntryPoint m f n n' is) = true
early (op.ExecutionMode f m x y z) = true
early (op.Decorate x d vs) = true
early (op.MemberDecorate x m d vs) = true
early (op.TypeVoid r) = true
early (op.TypeBool r) = true
early (op.TypeInt r w s) = true
early (op.TypeVector r t n) = true
early (op.TypeRuntimeArray r t) = true
early (op.TypeStruct r ms) = true
early (op.TypePointer r c t) = true
early (op.TypeFunction r t) = true
early (op.Variable t r c []) = true
early _ = false

fine_more : (b b' : ℕ) → b ≤ b' → (h : List Op) (o : Op) → early o ≡ true → Fine (operands b h o) → Fine (operands b' h o)
fine_more b b' le h (op.Capability c) e f = f
fine_more b b' le h (op.MemoryModel a m) e f = f
fine_more b b' le h (op.EntryPoint m g n n' is) e f = (f.0, (more b b' le h g _ f.1.0, (f.1.1.0, (f.1.1.1.0, later_more b b' le h is f.1.1.1.1))))
fine_more b b' le h (op.ExecutionMode g m x y z) e f = (or_more b b' le h g _ _ f.0, f.1)
fine_more b b' le h (op.Decorate x d vs) e f = (more b b' le h x _ f.0, f.1)
fine_more b b' le h (op.MemberDecorate x m d vs) e f = (more b b' le h x _ f.0, f.1)
fine_more b b' le h (op.TypeVoid r) e f = (or_more b b' le h r _ _ f.0, f.1)
fine_more b b' le h (op.TypeBool r) e f = (or_more b b' le h r _ _ f.0, f.1)
fine_more b b' le h (op.TypeInt r w s) e f = (or_more b b' le h r _ _ f.0, f.1)
fine_more b b' le h (op.TypeVector r t n) e f = (or_more b b' le h r _ _ f.0, (more b b' le h t _ f.1.0, f.1.1))
fine_more b b' le h (op.TypeRuntimeArray r t) e f = (more b b' le h r _ f.0, (more b b' le h t _ f.1.0, f.1.1))
fine_more b b' le h (op.TypeStruct r ms) e f = (more b b' le h r _ f.0, members_more b b' le h ms f.1)
fine_more b b' le h (op.TypePointer r c t) e f = (more b b' le h r _ f.0, (f.1.0, (more b b' le h t _ f.1.1.0, f.1.1.1)))
fine_more b b' le h (op.TypeFunction r t) e f = (or_more b b' le h r _ _ f.0, (more b b' le h t _ f.1.0, f.1.1))
fine_more b b' le h (op.Variable t r c []) e f = (more b b' le h t _ f.0, (more b b' le h r _ f.1.0, f.1.1))
fine_more b b' le h _ e f = cc

abbrev pub AllEarly : List Op → Type 0
AllEarly [] = Unit {0}
AllEarly (o ∷ os) = (early o ≡ true) × AllEarly os

-- a greater bound takes them too
pub passes_more : (b b' : ℕ) → b ≤ b' → (h os : List Op) → AllEarly os → Passes b h os → Passes b' h os
passes_more b b' le h [] a p = tt
passes_more b b' le h (o ∷ os) a p = ((p.0.0, fine_more b b' le h o a.0 p.0.1), passes_more b b' le (o ∷ h) os a.1 p.1)

abbrev pub are_early : List Op → Bool
are_early [] = true
are_early (o ∷ os) = early o && are_early os

pub early_all : (os : List Op) → are_early os ≡ true → AllEarly os
early_all [] e = tt
early_all (o ∷ os) e = let p = and_parts (early o) (are_early os) e in (p.0, early_all os p.1)
