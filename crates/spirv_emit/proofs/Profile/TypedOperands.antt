-- The rules of operands, where the ids were made with the types that they need.
use Rattle.std.proofs.Common.{◌≡◌, ℕ, ◌<◌, Bool, true, false, List, Some, None, refl, ap, ◌∙◌}
use Rattle.std.specs.Prelude.{◌||◌, ◌&&◌}
use Rattle.std.proofs.lemmas.Bool.{eq-eqb}
use Rattle.spirv_model.specs.Op.{Op}
use Rattle.spirv_model.specs.Op as op
use Rattle.spirv_model.specs.History.{value_type, maker}
use Rattle.spirv_model.specs.Types.{made_as, is_word, is_truth, is_pointer}
use Rattle.spirv_model.specs.Values.{type_named, gives, is_type, pointee, value_pointee, is_constant}
use Rattle.spirv_model.specs.Operands.{value, word, truth, pointer_to, target, shared_word, constant}
use Rattle.spirv_emit.proofs.Profile.InstructionsPass.{made_fine}

-- an id of a value of this type
pub record Typed (h : List Op) (x t : ℕ) : Type 0 where
  pub by : Op
  pub is : maker x h ≡ Some by
  pub type_is : value_type by ≡ Some t

-- a type of words, and one of truths
abbrev pub IsWordType : List Op → ℕ → Type 0
IsWordType h w = maker w h ≡ Some (op.TypeInt w 32 0)

abbrev pub IsTruthType : List Op → ℕ → Type 0
IsTruthType h b = maker b h ≡ Some (op.TypeBool b)

or_left : (a b : Bool) → a ≡ true → (a || b) ≡ true
or_left true b e = refl
or_left false b e = cc

or_right : (a b : Bool) → b ≡ true → (a || b) ≡ true
or_right true b e = refl
or_right false b e = e

pub same_id : (t : ℕ) → is_type (Some t) (Some t) ≡ true
same_id t = eq-eqb t t refl

module _ (bound : ℕ) (h : List Op) where
  pub value_fine : (x t : ℕ) → x < bound → Typed h x t → value bound h (Some t) x ≡ None
  value_fine x t lt y = made_fine bound h _ x y.by lt y.is (ap (λ u. is_type u (Some t)) y.type_is ∙ same_id t)

  pub word_fine : (x w : ℕ) → x < bound → Typed h x w → IsWordType h w → word bound h x ≡ None
  word_fine x w lt y e = made_fine bound h _ x y.by lt y.is (ap (λ u. made_as is_word (type_named h u)) y.type_is ∙ ap (made_as is_word) e)

  pub truth_fine : (x b : ℕ) → x < bound → Typed h x b → IsTruthType h b → truth bound h x ≡ None
  truth_fine x b lt y e = made_fine bound h _ x y.by lt y.is (ap (λ u. made_as is_truth (type_named h u)) y.type_is ∙ ap (made_as is_truth) e)

  -- a pointer of a class to a type
  abbrev pub IsPointerType : (p class t : ℕ) → Type 0
  IsPointerType p class t = maker p h ≡ Some (op.TypePointer p class t)

  pub points_to : (x p class t : ℕ) → (y : Typed h x p) → IsPointerType p class t → value_pointee h (Some y.by) ≡ Some t
  points_to x p class t y e = ap (λ u. pointee (type_named h u)) y.type_is ∙ ap pointee e

  pub pointer_fine : (x p class t : ℕ) → x < bound → Typed h x p → IsPointerType p class t → pointer_to bound h t x ≡ None
  pointer_fine x p class t lt y e = made_fine bound h _ x y.by lt y.is (ap (λ u. is_type u (Some t)) (points_to x p class t y e) ∙ same_id t)

  -- what is stored has the type that the pointer points to
  pub stored_fine : (x p class t v : ℕ) → v < bound → Typed h x p → IsPointerType p class t → Typed h v t → value bound h (value_pointee h (maker x h)) v ≡ None
  stored_fine x p class t v lt y e z =
      ap (λ u. value bound h u v) (ap (value_pointee h) y.is ∙ points_to x p class t y e) ∙ value_fine v t lt z

  -- a word of a variable, and one of a buffer
  pub local_target_fine : (x p w : ℕ) → x < bound → Typed h x p → IsPointerType p 7 w → IsWordType h w → target bound h x ≡ None
  local_target_fine x p w lt y e k =
      made_fine bound h _ x y.by lt y.is
      (ap (λ u. made_as (λ o. is_pointer h 7 is_word o || is_pointer h 12 is_word o) (type_named h u)) y.type_is
      ∙ ap (made_as (λ o. is_pointer h 7 is_word o || is_pointer h 12 is_word o)) e
      ∙ or_left (made_as is_word (maker w h)) false (ap (made_as is_word) k))

  pub buffer_target_fine : (x p w : ℕ) → x < bound → Typed h x p → IsPointerType p 12 w → IsWordType h w → target bound h x ≡ None
  buffer_target_fine x p w lt y e k =
      made_fine bound h _ x y.by lt y.is
      (ap (λ u. made_as (λ o. is_pointer h 7 is_word o || is_pointer h 12 is_word o) (type_named h u)) y.type_is
      ∙ ap (made_as (λ o. is_pointer h 7 is_word o || is_pointer h 12 is_word o)) e
      ∙ ap (made_as is_word) k)

  pub shared_fine : (x p w : ℕ) → x < bound → Typed h x p → IsPointerType p 12 w → IsWordType h w → shared_word bound h w x ≡ None
  shared_fine x p w lt y e k =
      made_fine bound h _ x y.by lt y.is
      (ap (λ u. is_type u (Some w) && gives h (is_pointer h 12 is_word) y.by) (points_to x p 12 w y e)
      ∙ ap (λ t. t && gives h (is_pointer h 12 is_word) y.by) (same_id w)
      ∙ ap (λ u. made_as (is_pointer h 12 is_word) (type_named h u)) y.type_is
      ∙ ap (made_as (is_pointer h 12 is_word)) e
      ∙ ap (made_as is_word) k)

  pub constant_fine : (p : ℕ → Bool) (x t v : ℕ) → x < bound → maker x h ≡ Some (op.Constant t x v) → p v ≡ true → constant bound h p x ≡ None
  constant_fine p x t v lt e q = made_fine bound h (is_constant p) x (op.Constant t x v) lt e q
