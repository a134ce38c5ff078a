-- What an instruction that computes is: the formulas of its destinations, in each component.
use Rattle.std.proofs.Common.{◌≡◌, ◌≢◌, ℕ, Bool, true, false, not, if◌then◌else◌, min, max, List, [], ◌∷◌, Option, Some, None, refl, sym, ap, ◌∙◌, subst, ⊎_elim}
use Rattle.std.specs.Prelude.{◌==◌, nat_lt, nat_le, bit_and, bit_or, bit_xor, count_ones, is_some}
use Rattle.std.specs.Int.{reverse_bits, w32}
use Rattle.std.proofs.Math.Dec.{eqb}
use Rattle.std.proofs.lemmas.Bool.Decides.{eqb_tells}
use Rattle.shader_model.specs.declared.ids.Ids.{Ids}
use Rattle.shader_model.specs.declared.tree.Declared.{Declared}
use Rattle.shader_model.specs.declared.tree.Target.{Target}
use Rattle.shader_model.specs.declared.tree.Instr.{Instr}
use Rattle.shader_model.specs.declared.opcode.Row.{Row}
use Rattle.shader_model.specs.Opcodes.{kinds, rows, row_among, row_of}
use Rattle.shader_model.specs.Good.{HasOperands}
use Rattle.shader_model.specs.Invocation.{State, source, with_target, with_first, with_both, done_by}
use Rattle.shader_model.specs.Arithmetic.{added, negated, inverted, multiplied_and_added, unsigned_high, signed_high, product_low, quotient, remainder, signed_min, signed_max, signed_lt, left, right, signed_right, five, field, inserted, truth}
use Rattle.spirv_emit.specs.declared.formula.Formula.{Formula}
use Rattle.spirv_emit.specs.declared.formula.Formula.TheVariants as formula
use Rattle.spirv_emit.specs.Opcodes.{first_formula, second_formula}

-- the word of a formula of an instruction
abbrev pub formula_word : Formula → (a b c d : ℕ) → ℕ
formula_word formula.Same a b c d = a
formula_word formula.Pick a b c d = if a == 0 then c else b
formula_word formula.Sum a b c d = added a b
formula_word formula.Negative a b c d = negated a
formula_word formula.ProductAndSum a b c d = multiplied_and_added a b c
formula_word formula.SignedHigh a b c d = signed_high a b
formula_word formula.UnsignedHigh a b c d = unsigned_high a b
formula_word formula.Quotient a b c d = quotient a b
formula_word formula.SignedMin a b c d = signed_min a b
formula_word formula.SignedMax a b c d = signed_max a b
formula_word formula.UnsignedMin a b c d = min a b
formula_word formula.UnsignedMax a b c d = max a b
formula_word formula.BitAnd a b c d = bit_and a b
formula_word formula.BitOr a b c d = bit_or a b
formula_word formula.BitXor a b c d = bit_xor a b
formula_word formula.Complement a b c d = inverted a
formula_word formula.ShiftLeft a b c d = left a (five b)
formula_word formula.SignedShiftRight a b c d = signed_right a (five b)
formula_word formula.ShiftRight a b c d = right a (five b)
formula_word formula.Equal a b c d = truth (a == b)
formula_word formula.NotEqual a b c d = truth (not (a == b))
formula_word formula.SignedGreaterEqual a b c d = truth (not (signed_lt a b))
formula_word formula.SignedLess a b c d = truth (signed_lt a b)
formula_word formula.GreaterEqual a b c d = truth (not (nat_lt a b))
formula_word formula.Less a b c d = truth (nat_lt a b)
formula_word formula.Field a b c d = field right (five a) (five b) c
formula_word formula.SignedField a b c d = field signed_right (five a) (five b) c
formula_word formula.Inserted a b c d = inserted (five a) (five b) c d
formula_word formula.BitReverse a b c d = reverse_bits w32 a
formula_word formula.BitCount a b c d = count_ones a
formula_word formula.ProductLow a b c d = product_low a b
formula_word formula.Remainder a b c d = remainder a b
formula_word f a b c d = 0

-- in a component
abbrev pub words : Formula → Ids → State → Instr → (component : ℕ) → ℕ
words f ids s i c = formula_word f (source ids s i 0 c) (source ids s i 1 c) (source ids s i 2 c) (source ids s i 3 c)

-- ## Rows

-- a fact on each row and its number
abbrev pub EachRow : (Row → ℕ → Type 0) → List Row → Type 0
EachRow P [] = Unit {0}
EachRow P (r ∷ rs) = P r r.number × EachRow P rs

some_same : (r r' : Row) → Some r ≡ Some r' → r ≡ r'
some_same r r' e = cc

pub row_is : (P : Row → ℕ → Type 0) (n : ℕ) (rs : List Row) (r : Row) → row_among n rs ≡ Some r → EachRow P rs → P r n
row_is P n [] r e h = cc
row_is P n (x ∷ rs) r e h =
    ⊎_elim
    (λ (t : (eqb x.number n ≡ true) × (x.number ≡ n)).
    let same : x ≡ r = some_same x r (sym (ap (λ (b : Bool). if b then Some x else row_among n rs) t.0) ∙ e) in
    subst (λ z. P z n) same (subst (λ k. P x k) t.1 h.0))
    (λ (t : (eqb x.number n ≡ false) × (x.number ≢ n)). row_is P n rs r (sym (ap (λ (b : Bool). if b then Some x else row_among n rs) t.0) ∙ e) h.1)
    (eqb_tells x.number n)

pub none_of : (q : Option Target) → is_some q ≡ false → q ≡ None
none_of None e = refl
none_of (Some t) e = cc

module _ (ds : List Declared) (ids : Ids) (s : State) where
  -- what both destinations take; most instructions have but one
  abbrev pub both : Instr → State
  both i = with_both i (words (first_formula i.opcode) ids s i) (words (second_formula i.opcode) ids s i) s

  one_of : (f : Formula) (i : Instr) → first_formula i.opcode ≡ f → i.second ≡ None → with_first i (words f ids s i) s ≡ both i
  one_of f i e n =
      ap (λ g. with_first i (words g ids s i) s) (sym e)
      ∙ ap (λ t. record s { temps = with_target t (words (second_formula i.opcode) ids s i) (with_target i.first (words (first_formula i.opcode) ids s i) s.temps) }) (sym n)

  two_of : (f g : Formula) (i : Instr) → first_formula i.opcode ≡ f → second_formula i.opcode ≡ g → with_both i (words f ids s i) (words g ids s i) s ≡ both i
  two_of f g i e h = ap (λ z. with_both i (words z ids s i) (words g ids s i) s) (sym e) ∙ ap (λ z. with_both i (words (first_formula i.opcode) ids s i) (words z ids s i) s) (sym h)

  -- a row of an instruction that computes does so
  abbrev pub RowComputes : Row → ℕ → Type 0
  RowComputes r n = (i : Instr) → i.opcode ≡ n → HasOperands (kinds r.layout) i → nat_le r.number 45 ≡ true → done_by r.name ds ids i s ≡ both i

  rows_compute : EachRow RowComputes rows
  rows_compute = (
    λ i e h c. one_of formula.Same i (ap first_formula e) (none_of i.second h.second),
    (
      λ i e h c. one_of formula.Pick i (ap first_formula e) (none_of i.second h.second),
      (
        λ i e h c. one_of formula.Sum i (ap first_formula e) (none_of i.second h.second),
        (
          λ i e h c. one_of formula.Negative i (ap first_formula e) (none_of i.second h.second),
          (
            λ i e h c. one_of formula.ProductAndSum i (ap first_formula e) (none_of i.second h.second),
            (
              λ i e h c. two_of formula.SignedHigh formula.ProductLow i (ap first_formula e) (ap second_formula e),
              (
                λ i e h c. two_of formula.UnsignedHigh formula.ProductLow i (ap first_formula e) (ap second_formula e),
                (
                  λ i e h c. two_of formula.Quotient formula.Remainder i (ap first_formula e) (ap second_formula e),
                  (
                    λ i e h c. one_of formula.SignedMin i (ap first_formula e) (none_of i.second h.second),
                    (
                      λ i e h c. one_of formula.SignedMax i (ap first_formula e) (none_of i.second h.second),
                      (
                        λ i e h c. one_of formula.UnsignedMin i (ap first_formula e) (none_of i.second h.second),
                        (
                          λ i e h c. one_of formula.UnsignedMax i (ap first_formula e) (none_of i.second h.second),
                          (
                            λ i e h c. one_of formula.BitAnd i (ap first_formula e) (none_of i.second h.second),
                            (
                              λ i e h c. one_of formula.BitOr i (ap first_formula e) (none_of i.second h.second),
                              (
                                λ i e h c. one_of formula.BitXor i (ap first_formula e) (none_of i.second h.second),
                                (
                                  λ i e h c. one_of formula.Complement i (ap first_formula e) (none_of i.second h.second),
                                  (
                                    λ i e h c. one_of formula.ShiftLeft i (ap first_formula e) (none_of i.second h.second),
                                    (
                                      λ i e h c. one_of formula.SignedShiftRight i (ap first_formula e) (none_of i.second h.second),
                                      (
                                        λ i e h c. one_of formula.ShiftRight i (ap first_formula e) (none_of i.second h.second),
                                        (
                                          λ i e h c. one_of formula.Equal i (ap first_formula e) (none_of i.second h.second),
                                          (
                                            λ i e h c. one_of formula.NotEqual i (ap first_formula e) (none_of i.second h.second),
                                            (
                                              λ i e h c. one_of formula.SignedGreaterEqual i (ap first_formula e) (none_of i.second h.second),
                                              (
                                                λ i e h c. one_of formula.SignedLess i (ap first_formula e) (none_of i.second h.second),
                                                (
                                                  λ i e h c. one_of formula.GreaterEqual i (ap first_formula e) (none_of i.second h.second),
                                                  (
                                                    λ i e h c. one_of formula.Less i (ap first_formula e) (none_of i.second h.second),
                                                    (
                                                      λ i e h c. one_of formula.Field i (ap first_formula e) (none_of i.second h.second),
                                                      (
                                                        λ i e h c. one_of formula.SignedField i (ap first_formula e) (none_of i.second h.second),
                                                        (
                                                          λ i e h c. one_of formula.Inserted i (ap first_formula e) (none_of i.second h.second),
                                                          (
                                                            λ i e h c. one_of formula.BitReverse i (ap first_formula e) (none_of i.second h.second),
                                                            (
                                                              λ i e h c. one_of formula.BitCount i (ap first_formula e) (none_of i.second h.second),
                                                              (λ i e h c. cc, (λ i e h c. cc, (λ i e h c. cc, (λ i e h c. cc, (λ i e h c. cc, (λ i e h c. cc, (λ i e h c. cc, (λ i e h c. cc, (λ i e h c. cc, (λ i e h c. cc, (λ i e h c. cc, (λ i e h c. cc, (λ i e h c. cc, (λ i e h c. cc, (λ i e h c. cc, (λ i e h c. cc, (λ i e h c. cc, (λ i e h c. cc, (λ i e h c. cc, (λ i e h c. cc, (λ i e h c. cc, (λ i e h c. cc, (λ i e h c. cc, (λ i e h c. cc, (λ i e h c. cc, (λ i e h c. cc, (λ i e h c. cc, (λ i e h c. cc, (λ i e h c. cc, (λ i e h c. cc, (λ i e h c. cc, tt))))))))))))))))))))))))))))))),
                                                            ),
                                                          ),
                                                        ),
                                                      ),
                                                    ),
                                                  ),
                                                ),
                                              ),
                                            ),
                                          ),
                                        ),
                                      ),
                                    ),
                                  ),
                                ),
                              ),
                            ),
                          ),
                        ),
                      ),
                    ),
                  ),
                ),
              ),
            ),
          ),
        ),
      ),
    ),
  )

  pub computes : (i : Instr) (r : Row) → row_of i.opcode ≡ Some r → HasOperands (kinds r.layout) i → nat_le r.number 45 ≡ true → done_by r.name ds ids i s ≡ both i
  unfolding row_of
  computes i r e h c = row_is RowComputes i.opcode rows r e rows_compute i refl h c
