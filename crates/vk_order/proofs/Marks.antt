-- Places of an order, as they are marked.
use Rattle.std.proofs.Common.{◌≡◌, ◌≢◌, ℕ, zero, suc, ◌+◌, ◌<◌, Bool, true, false, not, ◌&&◌, ◌||◌, ◌==◌, List, [], ◌∷◌, length, take, set, get_or, refl, sym, ap, subst, ◌∙◌, inl, inr, Some, slice_get, arith, get_or-set_same, get_or-set_other}
use Rattle.std.proofs.lemmas.Bool.{cases_lt, eq-eqb, cases_Bool, eqb-true}
use Rattle.std.proofs.lemmas.Option.{slice_get_past}
use Rattle.std.proofs.Math.ListN.{length-set}
use Rattle.vk_types.specs.declared.op.VkOp.{VkOp}
use Rattle.vk_order.specs.Order.{is_act_in, is_new, is_new_in, is_new_at, stands_in}

-- the marks tell which places stand among these
pub record AreMarks (ops : List VkOp) (front : List ℕ) (marks : List Bool) : Type 0 where
  pub len : length marks ≡ length ops
  pub each : (p : ℕ) → p < length ops → get_or marks p false ≡ stands_in front p

or_swap : (x y : Bool) → (x || y) ≡ (y || x)
or_swap true true = refl
or_swap true false = refl
or_swap false true = refl
or_swap false false = refl

or_true : (x : Bool) → (x || true) ≡ true
or_true true = refl
or_true false = refl

or_false : (x : Bool) → (x || false) ≡ x
or_false true = refl
or_false false = refl

or_group : (x y z : Bool) → (x || (y || z)) ≡ ((x || y) || z)
or_group true y z = refl
or_group false y z = refl

stands_push : (order : List ℕ) (at place p : ℕ) → slice_get order at ≡ Some place → stands_in (take (suc at) order) p ≡ (stands_in (take at order) p || (place == p))
stands_push [] at place p e = absurd (none at e)
  where
    none : (k : ℕ) → slice_get ([]) k ≡ Some place → ⊥
    none zero e = cc e
    none (suc k) e = cc e
stands_push (o ∷ order) zero place p e = let same : o ≡ place = cc e in or_swap (o == p) false ∙ ap (λ (n : ℕ). n == p) same
stands_push (o ∷ order) (suc at) place p e = ap (λ b. (o == p) || b) (stands_push order at place p e) ∙ or_group (o == p) (stands_in (take at order) p) (place == p)

differ : (m n : ℕ) → (m ≡ n → ⊥) → (m == n) ≡ false
differ m n ne = elim (cases_Bool (m == n)) [ inl h ↦ absurd (ne (eqb-true m n h)) | inr h ↦ h ]

each_more : (ops : List VkOp) (order : List ℕ) (marks : List Bool) (at place : ℕ) → AreMarks ops (take at order) marks → slice_get order at ≡ Some place
    → (p : ℕ) → p < length ops → get_or (set marks place true) p false ≡ stands_in (take (suc at) order) p
each_more ops order marks at place m e p l =
    let len = m.len in
    elim (cases_lt p place) [
      | inl less ↦ other (omega arith)
      | inr ge ↦ elim (cases_lt place p) [
        | inl more ↦ other (omega arith)
        | inr le ↦
            let same : place ≡ p = omega arith in
            let inside : place < length marks = omega (arith, l, len, same) in
            subst (λ (q : ℕ). get_or (set marks place true) q false ≡ stands_in (take (suc at) order) q) same
            (rw get_or-set_same (sym (stands_push order at place place e ∙ ap (λ b. stands_in (take at order) place || b) (eq-eqb place place refl) ∙ or_true (stands_in (take at order) place))))
      ]
    ]
  where
    other : p ≢ place → get_or (set marks place true) p false ≡ stands_in (take (suc at) order) p
    other ne = rw get_or-set_other (m.each p l ∙ sym (stands_push order at place p e ∙ ap (λ b. stands_in (take at order) p || b) (differ place p (λ s. ne (sym s))) ∙ or_false (stands_in (take at order) p)))

pub marks_more : (ops : List VkOp) (order : List ℕ) (marks : List Bool) (at place : ℕ) → AreMarks ops (take at order) marks → slice_get order at ≡ Some place → AreMarks ops (take (at + 1) order) (set marks place true)
marks_more ops order marks at place m e =
    let one : suc at ≡ at + 1 = omega arith in
    subst (λ (n : ℕ). AreMarks ops (take n order) (set marks place true)) one (record { len = length-set marks place true ∙ m.len; each = each_more ops order marks at place m e })

-- a place is new by its mark
pub new_is : (ops : List VkOp) (front : List ℕ) (marks : List Bool) (place : ℕ) → AreMarks ops front marks → is_new ops front place ≡ (is_act_in (slice_get ops place) && not (get_or marks place false))
new_is ops front marks place m =
    elim (cases_lt place (length ops)) [
      | inl l ↦ ap (λ b. is_act_in (slice_get ops place) && not b) (sym (m.each place l))
      | inr past ↦
          let none = ap is_act_in (slice_get_past ops place past) in
          ap (λ b. b && not (stands_in front place)) none ∙ sym (ap (λ b. b && not (get_or marks place false)) none)
    ]

pub new_at : (ops : List VkOp) (order : List ℕ) (marks : List Bool) (at place : ℕ) → AreMarks ops (take at order) marks → slice_get order at ≡ Some place
    → is_new_at ops order at ≡ (is_act_in (slice_get ops place) && not (get_or marks place false))
new_at ops order marks at place m e = ap (is_new_in ops (take at order)) e ∙ new_is ops (take at order) marks place m

pub no_marks : (ops : List VkOp) (marks : List Bool) → length marks ≡ length ops → ((p : ℕ) → get_or marks p false ≡ false) → AreMarks ops [] marks
no_marks ops marks len none = record { len = len; each = λ p l. none p }
