-- A choice goes on at the side that its condition chooses.
use Rattle.std.proofs.Common.{◌≡◌, ℕ, suc, ◌+◌, ◌<◌, ◌≤◌, Bool, true, false, if◌then◌else◌, ◌⊎◌, inl, inr, List, [], ◌∷◌, ◌++◌, length, Some, None, ap, ◌∙◌, arith, append_assoc, length-append}
use Rattle.shader_model.specs.declared.ids.Ids.{Ids}
use Rattle.spirv_model.specs.declared.settings.TheConstants as setting
use Rattle.spirv_model.specs.Op.{Op}
use Rattle.spirv_model.specs.Op as op
use Rattle.spirv_model.specs.Meaning.Values.{Truth}
use Rattle.spirv_model.specs.Meaning.Memory.{Memory}
use Rattle.spirv_model.specs.Meaning.ModuleMeaning.{after_label, goes_to, chooses, runs}
use Rattle.spirv_emit.specs.declared.piece.Calculation.{Calculation}
use Rattle.spirv_emit.specs.Layout.{Layout, first_code}
use Rattle.spirv_emit.specs.Code.{calculation_size, calculation_ops, calculation_id, choice_ops, choice_end}
use Rattle.spirv_emit.specs.Frames.{Frame, calculated}
use Rattle.spirv_emit.proofs.Meaning.LabelPlaces.{after_append, after_other, Within, At, at_behind, at_same, found}
use Rattle.spirv_emit.proofs.Words.LabelRanges.{calculation_free}
use Rattle.spirv_emit.proofs.Meaning.ValueTables.{Same}
use Rattle.spirv_emit.proofs.Meaning.HeldFrames.{Pool, Holds}
use Rattle.spirv_emit.proofs.Meaning.Calculations.{CalculationFits, calculation_runs}

module _ (at : Layout) (all : List Op) where
  -- what stands from the first side of a choice on, and from the second
  abbrev pub from_first : ℕ → List Op → List Op → List Op → List Op
  from_first l a b rest = a ++ (op.Label (l + 1) ∷ (b ++ (op.Label (l + 2) ∷ rest)))

  abbrev pub from_second : ℕ → List Op → List Op → List Op
  from_second l b rest = b ++ (op.Label (l + 2) ∷ rest)

  -- where the parts of a choice stand
  pub record ChoicePlaced (l na nb : ℕ) (a b rest : List Op) : Type 0 where
    pub first : after_label l all ≡ Some (from_first l a b rest)
    pub second : after_label (l + 1) all ≡ Some (from_second l b rest)
    pub behind : after_label (l + 2) all ≡ Some rest
    pub at_first : At all (l + 3) (from_first l a b rest)
    pub at_second : At all na (from_second l b rest)
    pub at_rest : At all nb rest

  pub choice_placed : (n : ℕ) (c : Calculation) (a b rest : List Op) (na nb : ℕ) → choice_end n c ≤ na → na ≤ nb → Within (choice_end n c) na a → Within na nb b → At all n (choice_ops at n c a b ++ rest) → ChoicePlaced (n + calculation_size c) na nb a b rest
  choice_placed n c a b rest na nb p q wa wb h =
      let l = n + calculation_size c in
      let head = calculation_ops at n c ++ (op.SelectionMerge (l + 2) setting.NO_CONTROL ∷ op.BranchConditional (calculation_id at n c) l (l + 1) ∷ []) in
      let head_free : (k : ℕ) → after_label k head ≡ None = λ k. after_append k (calculation_ops at n c) _ (calculation_free at c n k) in
      let to_first = head ++ (op.Label l ∷ a) in
      let to_second = to_first ++ (op.Label (l + 1) ∷ b) in
      let e1 : choice_ops at n c a b ++ rest ≡ head ++ (op.Label l ∷ from_first l a b rest) = simp append_assoc in
      let e2 : head ++ (op.Label l ∷ from_first l a b rest) ≡ to_first ++ (op.Label (l + 1) ∷ from_second l b rest) = simp append_assoc in
      let e3 : to_first ++ (op.Label (l + 1) ∷ from_second l b rest) ≡ to_second ++ (op.Label (l + 2) ∷ rest) = simp append_assoc in
      let h1 = at_same all n _ _ e1 h in
      let h2 = at_same all n _ _ e2 h1 in
      let h3 = at_same all n _ _ e3 h2 in
      let first_free : (k : ℕ) → l < k → (k < l + 3) ⊎ (na ≤ k) → after_label k to_first ≡ None =
      λ k lt w. after_append k head _ (head_free k) ∙ after_other k l a (λ e. absurd (omega arith)) ∙ wa.out k w in
      let second_free : (k : ℕ) → l + 1 < k → (k < l + 3) ⊎ (nb ≤ k) → after_label k to_second ≡ None =
      λ k lt w. after_append k to_first _ (first_free k (omega arith) (low_or_high k l na nb q w)) ∙ after_other k (l + 1) b (λ e. absurd (omega arith)) ∙ wb.out k (low_or_high' k l na nb p w) in
      record {
        first = found all n l head _ (omega arith) (head_free l) h1;
        second = found all n (l + 1) to_first _ (omega arith) (first_free (l + 1) (omega arith) (inl (omega arith))) h2;
        behind = found all n (l + 2) to_second _ (omega arith) (second_free (l + 2) (omega arith) (inl (omega arith))) h3;
        at_first = at_behind all n l (l + 3) head (from_first l a b rest) (omega arith) (omega arith) (λ k w. head_free k) h1;
        at_second = at_behind all n (l + 1) na to_first (from_second l b rest) (omega arith) (omega arith) (λ k w. first_free k (omega arith) (inr w)) h2;
        at_rest = at_behind all n (l + 2) nb to_second rest (omega arith) (omega arith) (λ k w. second_free k (omega arith) (inr w)) h3;
      }
    where
      low_or_high : (k l na nb : ℕ) → na ≤ nb → (k < l + 3) ⊎ (nb ≤ k) → (k < l + 3) ⊎ (na ≤ k)
      low_or_high k l na nb le (inl x) = inl x
      low_or_high k l na nb le (inr x) = inr (omega arith)

      low_or_high' : (k l na nb : ℕ) → l + 3 ≤ na → (k < l + 3) ⊎ (nb ≤ k) → (k < na) ⊎ (nb ≤ k)
      low_or_high' k l na nb le (inl x) = inl (omega arith)
      low_or_high' k l na nb le (inr x) = inr x

  pub choice_length : (n : ℕ) (c : Calculation) (a b : List Op) → length (choice_ops at n c a b) ≡ length (calculation_ops at n c) + 5 + length a + length b
  choice_length n c a b =
      let l = n + calculation_size c in
      omega (arith, length-append (calculation_ops at n c) (op.SelectionMerge (l + 2) setting.NO_CONTROL ∷ op.BranchConditional (calculation_id at n c) l (l + 1) ∷ op.Label l ∷ (a ++ (op.Label (l + 1) ∷ (b ++ op.Label (l + 2) ∷ [])))), length-append a (op.Label (l + 1) ∷ (b ++ op.Label (l + 2) ∷ [])), length-append b (op.Label (l + 2) ∷ []))

  module _ (Has : ℕ → Type 0) (pool : Pool at Has) (ids : Ids) where
    -- a choice has been made
    pub record Chosen (n : ℕ) (c : Calculation) (m : Memory) (x : Bool) (a b rest : List Op) : Type 0 where
      pub memory : Memory
      pub same : Same n m memory
      pub by : (k : ℕ) → runs ids all (length (calculation_ops at n c) + 2 + k) (choice_ops at n c a b ++ rest) m ≡ runs ids all k (if x then from_first (n + calculation_size c) a b rest else from_second (n + calculation_size c) b rest) memory

    chosen_way : (x : Bool) (l na nb : ℕ) (a b rest : List Op) (k : ℕ) (m : Memory) → ChoicePlaced l na nb a b rest → chooses all (Some (Truth x)) l (l + 1) (runs ids all k) m ≡ runs ids all k (if x then from_first l a b rest else from_second l b rest) m
    chosen_way true l na nb a b rest k m p = ap (λ o. goes_to o (runs ids all k) m) p.first
    chosen_way false l na nb a b rest k m p = ap (λ o. goes_to o (runs ids all k) m) p.second

    pub choice_runs : (n : ℕ) (c : Calculation) (f : Frame) (m : Memory) (x : Bool) (a b rest : List Op) (na nb : ℕ) → first_code at ≤ n → ChoicePlaced (n + calculation_size c) na nb a b rest → CalculationFits at Has pool ids c → Holds at Has pool ids f m → calculated ids f c ≡ Some (Truth x) → Chosen n c m x a b rest
    choice_runs n c f m x a b rest na nb le p ok h e =
        let l = n + calculation_size c in
        let more = op.SelectionMerge (l + 2) setting.NO_CONTROL ∷ op.BranchConditional (calculation_id at n c) l (l + 1) ∷ op.Label l ∷ from_first l a b rest in
        let ops : choice_ops at n c a b ++ rest ≡ calculation_ops at n c ++ more = simp append_assoc in
        let r = calculation_runs at Has pool ids all c n f m (Truth x) more le ok h e in
        record {
          memory = r.memory;
          same = r.same;
          by = λ k.
              ap (λ j. runs ids all j (choice_ops at n c a b ++ rest) m) (let z : length (calculation_ops at n c) + 2 + k ≡ length (calculation_ops at n c) + suc (suc k) = omega arith in z)
              ∙ ap (λ o. runs ids all (length (calculation_ops at n c) + suc (suc k)) o m) ops
              ∙ r.by (suc (suc k))
              ∙ ap (λ v. chooses all v l (l + 1) (runs ids all k) r.memory) r.value
              ∙ chosen_way x l na nb a b rest k r.memory p;
        }
