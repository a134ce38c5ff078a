-- The code of a calculation computes its value, and that of an assignment stores it.
use Rattle.std.proofs.Common.{◌≡◌, ℕ, suc, ◌+◌, ◌<◌, ◌≤◌, if◌then◌else◌, List, [], ◌∷◌, ◌++◌, map, length, Some, refl, sym, ap, ◌∙◌, arith, append_assoc, length-append, ◌⊎◌, inl, inr, ⊎_elim, ◌≢◌, true, false}
use Rattle.std.specs.Prelude.{slice_index}
use Rattle.std.proofs.lemmas.Bool.{eq-eqb, ne_eqb}
use Rattle.std.proofs.lemmas.Bool.Decides.{eqb_tells}
use Rattle.std.proofs.Math.Dec.{eqb}
use Rattle.shader_model.specs.declared.ids.Ids.{Ids}
use Rattle.spirv_model.specs.Op.{Op}
use Rattle.spirv_model.specs.Op as op
use Rattle.spirv_model.specs.Meaning.Values.{Value, Word, At, ToVariable}
use Rattle.spirv_model.specs.Meaning.Memory.{Memory, with_variable, stored, with_existing}
use Rattle.spirv_model.specs.Meaning.ModuleMeaning.{leaves, runs}
use Rattle.spirv_emit.specs.declared.formula.Step.{Step}
use Rattle.spirv_emit.specs.declared.piece.Calculation.{Calculation}
use Rattle.spirv_emit.specs.Steps.{steps_of}
use Rattle.spirv_emit.specs.Layout.{Layout, variable, first_code}
use Rattle.spirv_emit.specs.Code.{leaves_size, leaves_ops, leaf_ids, steps_ops, last_id, calculation_ops, calculation_id, assign_ops}
use Rattle.spirv_emit.specs.Frames as frames
use Rattle.spirv_emit.specs.Frames.{Frame, leaf_word, steps_value, calculated}
use Rattle.spirv_emit.proofs.Meaning.ValueTables.{with_same, with_other, Same, same_then}
use Rattle.spirv_emit.proofs.Meaning.FormulaSteps.{StepsFit, Ready, steps_run}
use Rattle.spirv_emit.proofs.Meaning.HeldFrames.{Pool, Holds, holds_same, LeavesFit, leaves_run}

same_or_not : (i j : ℕ) → (i ≡ j) ⊎ (i ≢ j)
same_or_not i j = ⊎_elim (λ (x : (eqb i j ≡ true) × (i ≡ j)). inl x.1) (λ (x : (eqb i j ≡ false) × (i ≢ j)). inr x.1) (eqb_tells i j)

module _ (at : Layout) (Has : ℕ → Type 0) (pool : Pool at Has) (ids : Ids) where
  -- five leaves that are there, and steps whose numbers have ids
  pub record CalculationFits (c : Calculation) : Type 0 where
    pub five : length c.leaves ≡ 5
    pub leaves_fit : LeavesFit at Has pool ids c.leaves
    pub steps_fit : StepsFit at Has ids [] [] [] 0 (steps_of c.formula)

  module _ (all : List Op) where
    pub record CalculationRuns (n : ℕ) (c : Calculation) (m : Memory) (v : Value) (rest : List Op) : Type 0 where
      pub memory : Memory
      pub same : Same n m memory
      pub value : memory.results (calculation_id at n c) ≡ Some v
      pub by : (k : ℕ) → runs ids all (length (calculation_ops at n c) + k) (calculation_ops at n c ++ rest) m ≡ runs ids all k rest memory

    -- the id of the result, by the last step or the first leaf
    result_at : (leaf_at : List ℕ) (first : ℕ) (ss : List Step) (m : Memory) (w v : Value) (xs : List ℕ) → m.results (slice_index leaf_at 0) ≡ Some (Word (slice_index xs 0)) → steps_value xs ss ≡ Some v → ((k : ℕ) → suc k ≡ 0 + length ss → m.results (first + k) ≡ Some v) → m.results (last_id at leaf_at first ss) ≡ Some v
    result_at leaf_at first [] m w v xs here e h = here ∙ e
    result_at leaf_at first (s ∷ ss) m w v xs here e h = h (length ss) (omega arith)

    pub calculation_runs : (c : Calculation) (n : ℕ) (f : Frame) (m : Memory) (v : Value) (rest : List Op) → first_code at ≤ n → CalculationFits c → Holds at Has pool ids f m → calculated ids f c ≡ Some v → CalculationRuns n c m v rest
    calculation_runs c n f m v rest le ok h e =
        let ss = steps_of c.formula in
        let first = n + leaves_size c.leaves in
        let leaf_at = leaf_ids at n c.leaves in
        let xs = map (leaf_word ids f) c.leaves in
        let code = steps_ops at leaf_at first first ss in
        let a = leaves_run at Has pool ids all c.leaves n f m (code ++ rest) le ok.leaves_fit h in
        let m1 = a.memory in
        let h1 = holds_same at Has pool ids f n m m1 le a.same h in
        let ready : Ready at Has ids all leaf_at xs first [] m1 = record {
          leaf_below = λ i lt. a.below i (omega (arith, ok.five));
          leaf = λ i lt. a.values i (omega (arith, ok.five));
          number_below = λ w has. let b = pool.below w has in omega arith;
          number = λ w has. h1.number_at w has;
          values = λ i w z. cc;
        } in
        let b = steps_run at Has ids all leaf_at xs first ss [] (Word (slice_index xs 0)) first m1 rest v (omega arith) (λ k z. absurd (omega (arith, z))) ready ok.steps_fit e in
        record {
          memory = b.memory;
          same = same_then n first m m1 b.memory (omega arith) a.same b.same;
          value = result_at leaf_at first ss b.memory v v xs (b.same.results (slice_index leaf_at 0) (a.below 0 (omega (arith, ok.five))) ∙ a.values 0 (omega (arith, ok.five))) e b.last;
          by = λ k.
              ap (λ j. runs ids all j ((leaves_ops at n c.leaves ++ code) ++ rest) m) (let z : length (leaves_ops at n c.leaves ++ code) + k ≡ length (leaves_ops at n c.leaves) + (length code + k) = omega (arith, length-append (leaves_ops at n c.leaves) code) in z)
              ∙ ap (λ o. runs ids all (length (leaves_ops at n c.leaves) + (length code + k)) o m) (append_assoc (leaves_ops at n c.leaves) code rest)
              ∙ a.by (length code + k)
              ∙ ap (λ j. runs ids all j (code ++ rest) m1) (ap (λ j. j + k) (steps_length leaf_at first first ss))
              ∙ b.by k;
        }
      where
        steps_length : (leaf_at : List ℕ) (first r : ℕ) (ss : List Step) → length (steps_ops at leaf_at first r ss) ≡ length ss
        steps_length leaf_at first r [] = refl
        steps_length leaf_at first r (s ∷ ss) = ap suc (steps_length leaf_at first (r + 1) ss)

    -- ## Assignments

    -- a variable takes a word
    pub holds_variable : (f : Frame) (m : Memory) (x v : ℕ) → x < at.variables → Holds at Has pool ids f m → Holds at Has pool ids (frames.with_variable x v f) (with_variable (variable at x) (Word v) m)
    holds_variable f m x v lt h = record {
      slots = h.slots;
      words = λ y k. ⊎_elim
          (λ (e : y ≡ x).
          ap (λ z. (with_variable (variable at x) (Word v) m).variables (variable at z)) e
          ∙ with_same m.variables (variable at x) (Word v)
          ∙ ap (λ t. Some (Word (if t then v else f.variables y))) (sym (eq-eqb y x e)))
          (λ (ne : y ≢ x).
          with_other m.variables (variable at x) (variable at y) (Word v) (λ e. absurd (omega arith))
          ∙ h.words y k
          ∙ ap (λ t. Some (Word (if t then v else f.variables y))) (sym (ne_eqb y x ne)))
          (same_or_not y x);
      variable_at = h.variable_at;
      number_at = h.number_at;
      buffers_at = h.buffers_at;
      lengths_at = h.lengths_at;
      vector_at = h.vector_at;
      index_at = h.index_at;
    }

    -- a store to a variable
    pub store_step : (f : Frame) (m : Memory) (x v a : ℕ) (rest : List Op) (k : ℕ) → x < at.variables → Holds at Has pool ids f m → m.results a ≡ Some (Word v) → runs ids all (suc k) (op.Store (variable at x) a ∷ rest) m ≡ runs ids all k rest (with_variable (variable at x) (Word v) m)
    store_step f m x v a rest k lt h e =
        ap (λ p. leaves (stored p (m.results a) m) rest (runs ids all k)) (h.variable_at x lt)
        ∙ ap (λ p. leaves (stored (Some (At (ToVariable (variable at x)))) p m) rest (runs ids all k)) e
        ∙ ap (λ p. leaves (with_existing p (variable at x) (Word v) m) rest (runs ids all k)) (h.words x lt)

    pub record AssignRuns (n x : ℕ) (c : Calculation) (f : Frame) (m : Memory) (v : ℕ) (rest : List Op) : Type 0 where
      pub memory : Memory
      pub holds : Holds at Has pool ids (frames.with_variable x v f) memory
      pub by : (k : ℕ) → runs ids all (length (assign_ops at n x c) + k) (assign_ops at n x c ++ rest) m ≡ runs ids all k rest memory

    pub assign_runs : (n x : ℕ) (c : Calculation) (f : Frame) (m : Memory) (v : ℕ) (rest : List Op) → first_code at ≤ n → x < at.variables → CalculationFits c → Holds at Has pool ids f m → calculated ids f c ≡ Some (Word v) → AssignRuns n x c f m v rest
    assign_runs n x c f m v rest le lt ok h e =
        let code = calculation_ops at n c in
        let last = op.Store (variable at x) (calculation_id at n c) in
        let r = calculation_runs c n f m (Word v) (last ∷ rest) le ok h e in
        let h1 = holds_same at Has pool ids f n m r.memory le r.same h in
        record {
          memory = with_variable (variable at x) (Word v) r.memory;
          holds = holds_variable f r.memory x v lt h1;
          by = λ k.
              ap (λ j. runs ids all j ((code ++ last ∷ []) ++ rest) m) (let z : length (code ++ last ∷ []) + k ≡ length code + suc k = omega (arith, length-append code (last ∷ [])) in z)
              ∙ ap (λ d. runs ids all (length code + suc k) d m) (append_assoc code (last ∷ []) rest)
              ∙ r.by (suc k)
              ∙ store_step f r.memory x v (calculation_id at n c) rest k lt h1 r.value;
        }
