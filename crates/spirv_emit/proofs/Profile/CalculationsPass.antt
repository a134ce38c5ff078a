-- The code of a calculation is taken, and its id has a value of the formula's type.
use Rattle.std.proofs.Common.{◌≡◌, ℕ, zero, suc, ◌+◌, ◌<◌, ◌≤◌, true, ◌⊎◌, inl, inr, ⊎_elim, List, [], ◌∷◌, ◌++◌, length, Some, refl, sym, ap, ◌∙◌, subst, arith, length-append}
use Rattle.std.specs.Prelude.{◌==◌, slice_index}
use Rattle.std.proofs.lemmas.Bool.{eqb-true}
use Rattle.shader_model.specs.declared.ids.Ids.{Ids}
use Rattle.spirv_model.specs.declared.code.UnaryCode.{UnaryCode}
use Rattle.spirv_model.specs.declared.code.UnaryCode.TheVariants as unary
use Rattle.spirv_model.specs.declared.code.BinaryCode.{BinaryCode}
use Rattle.spirv_model.specs.declared.code.BinaryCode.TheVariants as binary
use Rattle.spirv_model.specs.Op.{Op}
use Rattle.spirv_model.specs.Op as op
use Rattle.spirv_model.specs.History.{result_of, value_type, maker, after}
use Rattle.spirv_model.specs.Operands.{operands}
use Rattle.spirv_emit.specs.declared.formula.Taken.{Taken}
use Rattle.spirv_emit.specs.declared.formula.Taken.TheVariants as taken
use Rattle.spirv_emit.specs.declared.formula.Step.{Step}
use Rattle.spirv_emit.specs.declared.formula.Step.TheVariants.{One, Two, High, Choose}
use Rattle.spirv_emit.specs.declared.piece.Calculation.{Calculation}
use Rattle.spirv_emit.specs.Steps.{steps_of}
use Rattle.spirv_emit.specs.Layout as id
use Rattle.spirv_emit.specs.Layout.{Layout, first_code}
use Rattle.spirv_emit.specs.Code.{leaves_size, leaves_ops, leaf_ids, calculation_size, taken_id, step_op, steps_ops, last_id, calculation_ops, calculation_id}
use Rattle.spirv_emit.proofs.Meaning.FormulaSteps.{TakenFits, StepFits, StepsFit}
use Rattle.spirv_emit.proofs.Meaning.HeldFrames.{Pool}
use Rattle.spirv_emit.proofs.Meaning.Calculations.{CalculationFits}
use Rattle.spirv_emit.proofs.Profile.InstructionsPass.{and_parts, Fine, after_append}
use Rattle.spirv_emit.proofs.Profile.StraightCode.{straight}
use Rattle.spirv_emit.proofs.Profile.TypedOperands.{Typed}
use Rattle.spirv_emit.proofs.Profile.CodePlaces.{runs_none, runs_then, runs_more, runs_making}
use Rattle.spirv_emit.proofs.Profile.Scope.{Scope, typed_kept}
use Rattle.spirv_emit.proofs.Profile.OperandRules.{unary_fine, binary_fine, half_fine, select_fine}
use Rattle.spirv_emit.proofs.Profile.StepTypes.{one_takes, two_takes, taken_type, step_takes, step_type, steps_give, gives, made_below}
use Rattle.spirv_emit.proofs.Profile.Leaves.{Stand, Run, here, wide_enough, typed_last, leaves_give}

at_before : (xs : List ℕ) (v i : ℕ) → i < length xs → slice_index (xs ++ v ∷ []) i ≡ slice_index xs i
at_before [] v i lt = absurd (omega arith)
at_before (x ∷ xs) v zero lt = refl
at_before (x ∷ xs) v (suc i) lt = at_before xs v i (omega (arith, lt))

at_end : (xs : List ℕ) (v : ℕ) → slice_index (xs ++ v ∷ []) (length xs) ≡ v
at_end [] v = refl
at_end (x ∷ xs) v = at_end xs v

pub before_or_end : (i n : ℕ) → i < n + 1 → (i < n) ⊎ (i ≡ n)
before_or_end zero zero lt = inr refl
before_or_end zero (suc n) lt = inl (omega arith)
before_or_end (suc i) zero lt = absurd (omega arith)
before_or_end (suc i) (suc n) lt = ⊎_elim (λ (k : i < n). inl (let z : suc i < suc n = omega arith in z)) (λ (k : i ≡ n). inr (ap suc k)) (before_or_end i n (omega arith))

one_pos : (o : UnaryCode) → 0 < one_takes o
one_pos unary.LogicalNot = omega arith
one_pos o = omega arith

two_pos : (o : BinaryCode) → 0 < two_takes o
two_pos binary.LogicalAnd = omega arith
two_pos o = omega arith

module _ (at : Layout) (Has : ℕ → Type 0) (pool : Pool at Has) (ids : Ids) (bound : ℕ) (start : List Op) (begin : Scope at Has start) (roomy : first_code at ≤ bound) where
  module _ (leaf_at : List ℕ) (base : ℕ) (behind : first_code at ≤ base) where
    -- the leaves and the values made so far have their types
    record Ready (made : List ℕ) (h : List Op) : Type 0 where
      leaf_below : (i : ℕ) → i < 5 → slice_index leaf_at i < base
      leaf : (i : ℕ) → i < 5 → Typed h (slice_index leaf_at i) id.word_type
      values : (i : ℕ) → i < length made → Typed h (base + i) (slice_index made i)

    -- an id below r has a value of this type
    record Serves (h : List Op) (r x t : ℕ) : Type 0 where
      below : x < r
      typed : Typed h x t

    of_type : (h : List Op) (r x t t' : ℕ) → t ≡ t' → Serves h r x t → Serves h r x t'
    of_type h r x t t' e s = subst (λ u. Serves h r x u) e s

    takes : (made : List ℕ) (h : List Op) (r : ℕ) → r ≡ base + length made → Ready made h → Stand at Has pool ids bound start begin roomy true r h → (t : Taken) (u : ℕ) → TakenFits at Has ids [] [] [] 0 t → 0 < u → (taken_type made t == u) ≡ true → Serves h r (taken_id at leaf_at base t) u
    takes made h r er ready s (taken.Leaf i) u fits pos e =
        let lt = ready.leaf_below i fits in
        of_type h r (slice_index leaf_at i) id.word_type u (eqb-true id.word_type u e) (record { below = omega (arith, er, lt); typed = ready.leaf i fits })
    takes made h r er ready s (taken.Made i) u fits pos e =
        let is = eqb-true (slice_index made i) u e in
        let lt = made_below made i u is pos in
        of_type h r (base + i) (slice_index made i) u is (record { below = omega (arith, er, lt); typed = ready.values i lt })
    takes made h r er ready s (taken.Number v) u fits pos e =
        let lt = pool.below v fits in
        let sc = here at Has pool ids bound start begin roomy r h true s in
        of_type h r (at.number v) id.word_type u (eqb-true id.word_type u e) (record { below = omega (arith, er, lt); typed = record { by = op.Constant id.word_type (at.number v) v; is = sc.numbers v fits; type_is = refl } })

    step_straight : (r : ℕ) (s : Step) → straight (step_op at leaf_at base r s) ≡ true
    step_straight r (One o a) = refl
    step_straight r (Two o a b) = refl
    step_straight r (High a) = refl
    step_straight r (Choose c a b) = refl

    step_makes : (r : ℕ) (s : Step) → result_of (step_op at leaf_at base r s) ≡ Some r
    step_makes r (One o a) = refl
    step_makes r (Two o a b) = refl
    step_makes r (High a) = refl
    step_makes r (Choose c a b) = refl

    step_has : (r : ℕ) (s : Step) → value_type (step_op at leaf_at base r s) ≡ Some (step_type s)
    step_has r (One o a) = refl
    step_has r (Two o a b) = refl
    step_has r (High a) = refl
    step_has r (Choose c a b) = refl

    step_fine : (made : List ℕ) (h : List Op) (r : ℕ) → r ≡ base + length made → r + 1 ≤ bound → Ready made h → Stand at Has pool ids bound start begin roomy true r h → (s : Step) → StepFits at Has ids [] [] [] 0 s → step_takes made s ≡ true → Fine (operands bound h (step_op at leaf_at base r s))
    step_fine made h r er lb ready st (One o a) fits e =
        let sc = here at Has pool ids bound start begin roomy r h true st in
        let wide = wide_enough at Has pool ids bound start begin roomy in
        let va = takes made h r er ready st a (one_takes o) fits (one_pos o) e in
        let la = va.below in
        unary_fine bound h sc.setting wide o r (taken_id at leaf_at base a) (omega arith) (omega arith) (st.fresh r (omega arith)) va.typed
    step_fine made h r er lb ready st (Two o a b) fits e =
        let sc = here at Has pool ids bound start begin roomy r h true st in
        let wide = wide_enough at Has pool ids bound start begin roomy in
        let p = and_parts (taken_type made a == two_takes o) (taken_type made b == two_takes o) e in
        let va = takes made h r er ready st a (two_takes o) fits.0 (two_pos o) p.0 in
        let vb = takes made h r er ready st b (two_takes o) fits.1 (two_pos o) p.1 in
        let la = va.below in
        let ly = vb.below in
        binary_fine bound h sc.setting wide o r (taken_id at leaf_at base a) (taken_id at leaf_at base b) (omega arith) (omega arith) (omega arith) (st.fresh r (omega arith)) va.typed vb.typed
    step_fine made h r er lb ready st (High a) fits e =
        let sc = here at Has pool ids bound start begin roomy r h true st in
        let wide = wide_enough at Has pool ids bound start begin roomy in
        let va = takes made h r er ready st a id.pair_type fits (omega arith) e in
        let la = va.below in
        half_fine bound h sc.setting wide r (taken_id at leaf_at base a) (omega arith) (omega arith) (st.fresh r (omega arith)) va.typed
    step_fine made h r er lb ready st (Choose c a b) fits e =
        let sc = here at Has pool ids bound start begin roomy r h true st in
        let wide = wide_enough at Has pool ids bound start begin roomy in
        let p = and_parts (taken_type made c == id.truth_type) _ e in
        let q = and_parts (taken_type made a == id.word_type) (taken_type made b == id.word_type) p.1 in
        let vc = takes made h r er ready st c id.truth_type fits.0 (omega arith) p.0 in
        let va = takes made h r er ready st a id.word_type fits.1 (omega arith) q.0 in
        let vb = takes made h r er ready st b id.word_type fits.2 (omega arith) q.1 in
        let lc = vc.below in
        let la = va.below in
        let ly = vb.below in
        select_fine bound h sc.setting wide r (taken_id at leaf_at base c) (taken_id at leaf_at base a) (taken_id at leaf_at base b) (omega arith) (omega arith) (omega arith) (omega arith) (st.fresh r (omega arith)) vc.typed va.typed vb.typed

    ready_more : (made : List ℕ) (h : List Op) (r : ℕ) (s : Step) → r ≡ base + length made → Run at Has pool ids bound start begin roomy r h true (r + 1) (step_op at leaf_at base r s ∷ []) → Ready made h → Ready (made ++ step_type s ∷ []) (step_op at leaf_at base r s ∷ h)
    ready_more made h r s er runs ready =
        let o = step_op at leaf_at base r s in
        let t = step_type s in
        let len : length (made ++ t ∷ []) ≡ length made + 1 = length-append made (t ∷ []) in
        record {
          leaf_below = ready.leaf_below;
          leaf = λ i lt. let b = ready.leaf_below i lt in typed_kept h (o ∷ h) (slice_index leaf_at i) id.word_type (runs.kept (slice_index leaf_at i) (omega (arith, er, b))) (ready.leaf i lt);
          values = λ i lt.
              ⊎_elim
              (λ (k : i < length made). subst (λ u. Typed (o ∷ h) (base + i) u) (sym (at_before made t i k)) (typed_kept h (o ∷ h) (base + i) (slice_index made i) (runs.kept (base + i) (omega (arith, er, k))) (ready.values i k)))
              (λ (k : i ≡ length made).
              let same : r ≡ base + i = omega (arith, er, k) in
              subst (λ u. Typed (o ∷ h) (base + i) u) (sym (ap (λ j. slice_index (made ++ t ∷ []) j) k ∙ at_end made t)) (subst (λ x. Typed (o ∷ h) x t) same (typed_last h o r t (step_makes r s) (step_has r s))))
              (before_or_end i (length made) (omega (arith, lt, len)));
        }

    -- some steps
    pub record StepsGive (made : List ℕ) (h : List Op) (r : ℕ) (ss : List Step) (t : ℕ) : Type 0 where
      pub runs : Run at Has pool ids bound start begin roomy r h true (r + length ss) (steps_ops at leaf_at base r ss)
      pub last : (k : ℕ) → suc k ≡ length made + length ss → Typed (after (steps_ops at leaf_at base r ss) h) (base + k) t

    steps_run : (t : ℕ) (ss : List Step) (made : List ℕ) (last r : ℕ) (h : List Op) → r ≡ base + length made → r + length ss ≤ bound → ((k : ℕ) → suc k ≡ length made → Typed h (base + k) last) → Ready made h → StepsFit at Has ids [] [] [] 0 ss → steps_give t made last ss ≡ true → Stand at Has pool ids bound start begin roomy true r h → StepsGive made h r ss t
    steps_run t [] made last r h er lb latest ready fits e st = record {
      runs = runs_more bound (first_code at) start r r r (r + 0) h true [] (omega arith) (omega arith) (runs_none bound (first_code at) start r h true r st);
      last = λ k z. subst (λ u. Typed h (base + k) u) (eqb-true last t e) (latest k (omega (arith, z)));
    }
    steps_run t (s ∷ ss) made last r h er lb latest ready fits e st =
        let p = and_parts (step_takes made s) (steps_give t (made ++ step_type s ∷ []) (step_type s) ss) e in
        let o = step_op at leaf_at base r s in
        let len : length (made ++ step_type s ∷ []) ≡ length made + 1 = length-append made (step_type s ∷ []) in
        let one = runs_making bound (first_code at) start o r h (step_straight r s) (step_makes r s) (omega (arith, er, behind)) (step_fine made h r er (omega (arith, lb)) ready st s fits.0 p.0) st in
        let more = steps_run t ss (made ++ step_type s ∷ []) (step_type s) (r + 1) (o ∷ h) (omega (arith, er, len)) (omega (arith, lb))
        (λ k z. let same : r ≡ base + k = omega (arith, z, len, er) in subst (λ x. Typed (o ∷ h) x (step_type s)) same (typed_last h o r (step_type s) (step_makes r s) (step_has r s)))
        (ready_more made h r s er one ready) fits.1 p.1 one.stands in
        record {
          runs = runs_more bound (first_code at) start r r (r + 1 + length ss) (r + length (s ∷ ss)) h true (o ∷ steps_ops at leaf_at base (r + 1) ss) (omega arith) (omega arith) (runs_then bound (first_code at) start r (r + 1) h true true (r + 1) (r + 1 + length ss) (o ∷ []) (steps_ops at leaf_at base (r + 1) ss) (omega arith) one more.runs);
          last = λ k z. more.last k (omega (arith, z, len));
        }

  -- its code is taken, and its id has a value of this type
  pub record CalculationGives (h : List Op) (n : ℕ) (c : Calculation) (t : ℕ) : Type 0 where
    pub runs : Run at Has pool ids bound start begin roomy n h true (n + calculation_size c) (calculation_ops at n c)
    pub below : calculation_id at n c < n + calculation_size c
    pub typed : Typed (after (calculation_ops at n c) h) (calculation_id at n c) t

  last_below : (leaf_at : List ℕ) (base : ℕ) (ss : List Step) → slice_index leaf_at 0 < base → last_id at leaf_at base ss < base + length ss
  last_below leaf_at base [] lt = omega arith
  last_below leaf_at base (s ∷ ss) lt = omega arith

  last_typed : (h : List Op) (leaf_at : List ℕ) (base t : ℕ) (ss : List Step) → Typed h (slice_index leaf_at 0) id.word_type → steps_give t [] id.word_type ss ≡ true → ((k : ℕ) → suc k ≡ 0 + length ss → Typed h (base + k) t) → Typed h (last_id at leaf_at base ss) t
  last_typed h leaf_at base t [] y e last = subst (λ u. Typed h (slice_index leaf_at 0) u) (eqb-true id.word_type t e) y
  last_typed h leaf_at base t (s ∷ ss) y e last = last (length ss) (omega arith)

  pub calculation_gives : (c : Calculation) (t n : ℕ) (h : List Op) → CalculationFits at Has pool ids c → gives c.formula t ≡ true → first_code at ≤ n → n + calculation_size c ≤ bound → Stand at Has pool ids bound start begin roomy true n h → CalculationGives h n c t
  calculation_gives c t n h ok e le lb st =
      let ss = steps_of c.formula in
      let base = n + leaves_size c.leaves in
      let leaf_at = leaf_ids at n c.leaves in
      let a = leaves_ops at n c.leaves in
      let b = steps_ops at leaf_at base base ss in
      let behind : first_code at ≤ base = omega arith in
      let one = leaves_give at Has pool ids bound start begin roomy c.leaves n h ok.leaves_fit le (omega arith) st in
      let h1 = after a h in
      let five = ok.five in
      let ready : Ready leaf_at base behind [] h1 = record {
        leaf_below = λ i lt. one.below i (omega (arith, five));
        leaf = λ i lt. one.typed i (omega (arith, five));
        values = λ i lt. absurd (omega arith);
      } in
      let more = steps_run leaf_at base behind t ss [] id.word_type base h1 (omega arith) (omega arith) (λ k z. absurd (omega (arith, z))) ready ok.steps_fit e one.runs.stands in
      let x0 = slice_index leaf_at 0 in
      let l0 = one.below 0 (omega (arith, five)) in
      let h2 = after b h1 in
      let same = after_append a b h in
      let y0 = typed_kept h1 h2 x0 id.word_type (more.runs.kept x0 l0) (one.typed 0 (omega (arith, five))) in
      let r = calculation_id at n c in
      let lr = last_below leaf_at base ss l0 in
      record {
        runs = runs_more bound (first_code at) start n n (base + length ss) (n + calculation_size c) h true (a ++ b) (omega arith) (omega arith) (runs_then bound (first_code at) start n base h true true base (base + length ss) a b (omega arith) one.runs more.runs);
        below = omega (arith, lr);
        typed = typed_kept h2 (after (a ++ b) h) r t (ap (maker r) same) (last_typed h2 leaf_at base t ss y0 e more.last);
      }
