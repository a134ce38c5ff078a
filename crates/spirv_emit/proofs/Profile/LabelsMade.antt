-- What was made stays, and so every label of code that is taken is made in the end.
use Rattle.std.proofs.Common.{◌≡◌, ℕ, ◌+◌, Bool, true, false, if◌then◌else◌, ◌⊎◌, inl, inr, List, [], ◌∷◌, ◌++◌, Option, Some, None, refl, sym, ap, ◌∙◌, subst}
use Rattle.spirv_model.specs.declared.fault.ModuleKind.TheVariants as kind
use Rattle.spirv_model.specs.declared.code.UnaryCode.{UnaryCode}
use Rattle.spirv_model.specs.declared.code.UnaryCode.TheVariants as unary
use Rattle.spirv_model.specs.declared.code.BinaryCode.{BinaryCode}
use Rattle.spirv_model.specs.declared.code.BinaryCode.TheVariants as binary
use Rattle.spirv_model.specs.Op.{Op}
use Rattle.spirv_model.specs.Op as op
use Rattle.spirv_model.specs.History.{result_of, maker, after}
use Rattle.spirv_model.specs.Operands.{Verdict, or_else, result, not_made, operands, unary_operands, binary_operands}
use Rattle.spirv_model.specs.FirstBad.{late_operands, late_fault, word_count, id, known, block, is_label}
use Rattle.spirv_emit.proofs.Profile.InstructionsPass.{Fine, Passes, fine_fault, maker_here, maker_other, maker_none}

taken_none : (t : Bool) (k : Verdict) → (if t then k else Some kind.Ident) ≡ None → k ≡ None
taken_none true k e = e
taken_none false k e = cc

else_none : (a b : Verdict) → or_else a b ≡ None → a ≡ None
else_none None b e = refl
else_none (Some k) b e = cc

some_same : (x r : ℕ) → Some x ≡ Some r → x ≡ r
some_same x r e = cc

module _ (bound : ℕ) (h : List Op) where
  unmade_none : (m : Option Op) → not_made bound h m ≡ None → m ≡ None
  unmade_none None e = refl
  unmade_none (Some o) e = cc

  result_unmade : (x r : ℕ) → Some x ≡ Some r → result bound h x ≡ None → maker r h ≡ None
  result_unmade x r e f = let u : maker x h ≡ None = unmade_none (maker x h) (taken_none _ _ f) in let q : x ≡ r = some_same x r e in subst (λ y. maker y h ≡ None) q u

  unary_result : (o : UnaryCode) (t x a r : ℕ) → Some x ≡ Some r → Fine (unary_operands bound h o t x a) → maker r h ≡ None
  unary_result unary.Negate t x a r e f = result_unmade x r e f.1.0
  unary_result unary.LogicalNot t x a r e f = result_unmade x r e f.1.0
  unary_result unary.Complement t x a r e f = result_unmade x r e f.1.0
  unary_result unary.BitReverse t x a r e f = result_unmade x r e f.1.0
  unary_result unary.BitCount t x a r e f = result_unmade x r e f.1.0

  binary_result : (o : BinaryCode) (t x a b r : ℕ) → Some x ≡ Some r → Fine (binary_operands bound h o t x a b) → maker r h ≡ None
  binary_result binary.Add t x a b r e f = result_unmade x r e f.1.0
  binary_result binary.Subtract t x a b r e f = result_unmade x r e f.1.0
  binary_result binary.Multiply t x a b r e f = result_unmade x r e f.1.0
  binary_result binary.Divide t x a b r e f = result_unmade x r e f.1.0
  binary_result binary.Modulo t x a b r e f = result_unmade x r e f.1.0
  binary_result binary.WideMultiply t x a b r e f = result_unmade x r e f.1.0
  binary_result binary.SignedWideMultiply t x a b r e f = result_unmade x r e f.1.0
  binary_result binary.LogicalAnd t x a b r e f = result_unmade x r e f.1.0
  binary_result binary.Equal t x a b r e f = result_unmade x r e f.1.0
  binary_result binary.NotEqual t x a b r e f = result_unmade x r e f.1.0
  binary_result binary.GreaterEqual t x a b r e f = result_unmade x r e f.1.0
  binary_result binary.SignedGreaterEqual t x a b r e f = result_unmade x r e f.1.0
  binary_result binary.Less t x a b r e f = result_unmade x r e f.1.0
  binary_result binary.SignedLess t x a b r e f = result_unmade x r e f.1.0
  binary_result binary.ShiftRight t x a b r e f = result_unmade x r e f.1.0
  binary_result binary.SignedShiftRight t x a b r e f = result_unmade x r e f.1.0
  binary_result binary.ShiftLeft t x a b r e f = result_unmade x r e f.1.0
  binary_result binary.BitOr t x a b r e f = result_unmade x r e f.1.0
  binary_result binary.BitXor t x a b r e f = result_unmade x r e f.1.0
  binary_result binary.BitAnd t x a b r e f = result_unmade x r e f.1.0

  -- a right result wasn't made before
  pub fine_result : (o : Op) (r : ℕ) → result_of o ≡ Some r → Fine (operands bound h o) → maker r h ≡ None
  fine_result (op.TypeVoid x) r e f = result_unmade x r e (else_none _ _ f.0)
  fine_result (op.TypeBool x) r e f = result_unmade x r e (else_none _ _ f.0)
  fine_result (op.TypeInt x w s) r e f = result_unmade x r e (else_none _ _ f.0)
  fine_result (op.TypeVector x t n) r e f = result_unmade x r e (else_none _ _ f.0)
  fine_result (op.TypeFunction x t) r e f = result_unmade x r e (else_none _ _ f.0)
  fine_result (op.TypeRuntimeArray x t) r e f = result_unmade x r e f.0
  fine_result (op.TypeStruct x ms) r e f = result_unmade x r e f.0
  fine_result (op.TypePointer x c t) r e f = result_unmade x r e f.0
  fine_result (op.Constant t x v) r e f = result_unmade x r e f.1.0
  fine_result (op.Variable t x c vs) r e f = result_unmade x r e f.1.0
  fine_result (op.Function t x c g) r e f = result_unmade x r e (else_none _ _ f.1.0)
  fine_result (op.Load t x p) r e f = result_unmade x r e f.1.0
  fine_result (op.AccessChain t x b is) r e f = result_unmade x r e f.1.0
  fine_result (op.CompositeExtract t x v i) r e f = result_unmade x r e f.1.0
  fine_result (op.Unary o t x a) r e f = unary_result o t x a r e f
  fine_result (op.Binary o t x a b) r e f = binary_result o t x a b r e f
  fine_result (op.Select t x c a b) r e f = result_unmade x r e f.1.0
  fine_result (op.Atomic o t x p s m v) r e f = result_unmade x r e f.1.0
  fine_result (op.AtomicCompareExchange t x p s q u v c) r e f = result_unmade x r e f.1.0
  fine_result (op.Label x) r e f = result_unmade x r e f.0
  fine_result _ r e f = cc

  stays_over : (o w : Op) (x : ℕ) (q : Option ℕ) → result_of o ≡ q → Fine (operands bound h o) → maker x h ≡ Some w → maker x (o ∷ h) ≡ Some w
  stays_over o w x None r f e = maker_none x o h r ∙ e
  stays_over o w x (Some y) r f e = maker_other x y o h r (λ (same : y ≡ x). let u = subst (λ z. maker z h ≡ None) same (fine_result o y r f) in cc) ∙ e

-- an id that was made keeps its maker
pub stays : (bound : ℕ) (h code : List Op) (x : ℕ) (w : Op) → Passes bound h code → maker x h ≡ Some w → maker x (after code h) ≡ Some w
stays bound h [] x w p e = e
stays bound h (o ∷ code) x w p e = stays bound (o ∷ h) code x w p.1 (stays_over bound h o w x (result_of o) refl p.0.1 e)

-- a label stands in the code
abbrev pub HasLabel : ℕ → List Op → Type 0
HasLabel l [] = ⊥
HasLabel l (op.Label x ∷ code) = (x ≡ l) ⊎ HasLabel l code
HasLabel l (_ ∷ code) = HasLabel l code

pub has_left : (l : ℕ) (a b : List Op) → HasLabel l a → HasLabel l (a ++ b)
has_left l [] b e = absurd e
has_left l (op.Label x ∷ a) b (inl e) = inl e
has_left l (op.Label x ∷ a) b (inr e) = inr (has_left l a b e)
has_left l (_ ∷ a) b e = has_left l a b e

pub has_right : (l : ℕ) (a b : List Op) → HasLabel l b → HasLabel l (a ++ b)
has_right l [] b e = e
has_right l (op.Label x ∷ a) b e = inr (has_right l a b e)
has_right l (_ ∷ a) b e = has_right l a b e

-- a block has this label
abbrev pub IsBlock : List Op → ℕ → Type 0
IsBlock all l = maker l all ≡ Some (op.Label l)

pub label_made : (bound : ℕ) (h code : List Op) (l : ℕ) → Passes bound h code → HasLabel l code → IsBlock (after code h) l
label_made bound h [] l p e = absurd e
label_made bound h (op.Label x ∷ code) l p (inl e) = stays bound (op.Label x ∷ h) code l (op.Label l) p.1 (subst (λ y. maker l (op.Label y ∷ h) ≡ Some (op.Label l)) (sym e) (maker_here l (op.Label l) h refl))
label_made bound h (op.Label x ∷ code) l p (inr e) = label_made bound (op.Label x ∷ h) code l p.1 e
label_made bound h (o ∷ code) l p e = label_made bound (o ∷ h) code l p.1 e

-- each label and id that these instructions name is made in the whole
abbrev pub Settles : List Op → List Op → Type 0
Settles all [] = Unit {0}
Settles all (o ∷ os) = Fine (late_operands all o) × Settles all os

pub settles_append : (all a b : List Op) → Settles all a → Settles all b → Settles all (a ++ b)
settles_append all [] b p q = q
settles_append all (o ∷ a) b p q = (p.0, settles_append all a b p.1 q)

pub settles_fault : (all os : List Op) (at : ℕ) → Settles all os → late_fault all at os ≡ None
settles_fault all [] at p = refl
settles_fault all (o ∷ os) at p =
    ap (λ f. or_else f (late_fault all (at + word_count o) os)) (fine_fault (at + 1) (late_operands all o) p.0) ∙ settles_fault all os (at + word_count o) p.1

pub block_fine : (all : List Op) (l : ℕ) → IsBlock all l → block all l ≡ None
block_fine all l e = ap (is_label all) e

-- an id that is made, by whatever
pub id_fine : (all : List Op) (x : ℕ) (o : Op) → maker x all ≡ Some o → id all x ≡ None
id_fine all x o e = ap (known all) e
