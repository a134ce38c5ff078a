-- An instruction that computes: its pieces leave in a frame what the instruction leaves in a state.
use Rattle.std.proofs.Common.{◌≡◌, ◌≢◌, ℕ, zero, suc, ◌<◌, ◌≤◌, Bool, true, false, if◌then◌else◌, ⊎_elim, List, [], ◌∷◌, Option, Some, None, refl, ap, ◌∙◌, subst, arith}
use Rattle.std.specs.Prelude.{◌==◌, slice_index_or, slice_set}
use Rattle.std.proofs.lemmas.Bool.{eq-eqb, ne_eqb}
use Rattle.shader_model.specs.declared.ids.Ids.{Ids}
use Rattle.shader_model.specs.declared.tree.Declared.{Declared}
use Rattle.shader_model.specs.declared.tree.Target.{Target}
use Rattle.shader_model.specs.declared.tree.Instr.{Instr}
use Rattle.shader_model.specs.Words.{bit}
use Rattle.shader_model.specs.Good.{MaybeFits, OperandFits}
use Rattle.shader_model.specs.Invocation as model
use Rattle.shader_model.specs.Invocation.{State, with_target, with_both}
use Rattle.spirv_model.specs.Meaning.Values.{Word}
use Rattle.spirv_emit.specs.declared.formula.Formula.{Formula}
use Rattle.spirv_emit.specs.declared.formula.Formula.TheVariants as formula
use Rattle.spirv_emit.specs.declared.piece.Leaf.TheVariants.{Variable}
use Rattle.spirv_emit.specs.Opcodes.{first_formula, second_formula}
use Rattle.spirv_emit.specs.Steps.{steps_of}
use Rattle.spirv_emit.specs.Lower.{result, temporary, source, same, computes, computed, taken, plain_pieces}
use Rattle.spirv_emit.specs.Frames.{Frame, with_variable, leaf_word, steps_value, calculated, pieces_done}
use Rattle.spirv_emit.proofs.Lowering.FormulaValues as f
use Rattle.spirv_emit.proofs.Lowering.BitFields.{field_gives, signed_field_gives}
use Rattle.spirv_emit.proofs.Lowering.FieldInserts.{inserted_gives}
use Rattle.spirv_emit.proofs.Lowering.DestinationFormulas.{formula_word, words, both}
use Rattle.spirv_emit.proofs.Meaning.CodeStretches.{Shows}
use Rattle.spirv_emit.proofs.Lowering.SourceLeaves.{ThreeIds, AllFetched, source_is, Near, source_near}
use Rattle.spirv_emit.proofs.Lowering.Assignments.{then_pieces, put_if, put_masked, masked_keeps, masked_done, shows_scratch, shows_target}

-- ## The formulas that give words of four words

abbrev is_word : Formula → Bool
is_word formula.Same = true
is_word formula.Pick = true
is_word formula.Sum = true
is_word formula.Negative = true
is_word formula.ProductAndSum = true
is_word formula.SignedHigh = true
is_word formula.UnsignedHigh = true
is_word formula.ProductLow = true
is_word formula.Quotient = true
is_word formula.Remainder = true
is_word formula.SignedMin = true
is_word formula.SignedMax = true
is_word formula.UnsignedMin = true
is_word formula.UnsignedMax = true
is_word formula.BitAnd = true
is_word formula.BitOr = true
is_word formula.BitXor = true
is_word formula.Complement = true
is_word formula.ShiftLeft = true
is_word formula.SignedShiftRight = true
is_word formula.ShiftRight = true
is_word formula.Field = true
is_word formula.SignedField = true
is_word formula.Inserted = true
is_word formula.BitReverse = true
is_word formula.BitCount = true
is_word formula.Equal = true
is_word formula.NotEqual = true
is_word formula.SignedGreaterEqual = true
is_word formula.SignedLess = true
is_word formula.GreaterEqual = true
is_word formula.Less = true
is_word f = false

gives : (g : Formula) (a b c d e : ℕ) → is_word g ≡ true → steps_value (a ∷ b ∷ c ∷ d ∷ e ∷ []) (steps_of g) ≡ Some (Word (formula_word g a b c d))
gives formula.Same a b c d e h = f.same_gives a b c d e
gives formula.Pick a b c d e h = f.pick_gives a b c d e
gives formula.Sum a b c d e h = f.sum_gives a b c d e
gives formula.Negative a b c d e h = f.negative_gives a b c d e
gives formula.ProductAndSum a b c d e h = f.product_and_sum_gives a b c d e
gives formula.SignedHigh a b c d e h = f.signed_high_gives a b c d e
gives formula.UnsignedHigh a b c d e h = f.unsigned_high_gives a b c d e
gives formula.ProductLow a b c d e h = f.product_low_gives a b c d e
gives formula.Quotient a b c d e h = f.quotient_gives a b c d e
gives formula.Remainder a b c d e h = f.remainder_gives a b c d e
gives formula.SignedMin a b c d e h = f.signed_min_gives a b c d e
gives formula.SignedMax a b c d e h = f.signed_max_gives a b c d e
gives formula.UnsignedMin a b c d e h = f.unsigned_min_gives a b c d e
gives formula.UnsignedMax a b c d e h = f.unsigned_max_gives a b c d e
gives formula.BitAnd a b c d e h = f.and_gives a b c d e
gives formula.BitOr a b c d e h = f.or_gives a b c d e
gives formula.BitXor a b c d e h = refl
gives formula.Complement a b c d e h = f.complement_gives a b c d e
gives formula.ShiftLeft a b c d e h = f.left_gives a b c d e
gives formula.SignedShiftRight a b c d e h = f.signed_right_gives a b c d e
gives formula.ShiftRight a b c d e h = f.right_gives a b c d e
gives formula.Field a b c d e h = field_gives a b c d e
gives formula.SignedField a b c d e h = signed_field_gives a b c d e
gives formula.Inserted a b c d e h = inserted_gives a b c d e
gives formula.BitReverse a b c d e h = f.reverse_gives a b c d e
gives formula.BitCount a b c d e h = f.count_gives a b c d e
gives formula.Equal a b c d e h = f.equal_gives a b c d e
gives formula.NotEqual a b c d e h = f.not_equal_gives a b c d e
gives formula.SignedGreaterEqual a b c d e h = f.signed_greater_equal_gives a b c d e
gives formula.SignedLess a b c d e h = f.signed_less_gives a b c d e
gives formula.GreaterEqual a b c d e h = f.greater_equal_gives a b c d e
gives formula.Less a b c d e h = f.less_gives a b c d e
gives formula.IsZero a b c d e h = cc
gives formula.IsNonzero a b c d e h = cc
gives formula.VectorInside a b c d e h = cc
gives formula.VectorPlace a b c d e h = cc
gives formula.RelativeInside a b c d e h = cc
gives formula.RelativePlace a b c d e h = cc
gives formula.RawInside a b c d e h = cc
gives formula.RawPlace a b c d e h = cc
gives formula.StructuredInside a b c d e h = cc
gives formula.StructuredPlace a b c d e h = cc
gives formula.TypedInside a b c d e h = cc
gives formula.TypedPlace a b c d e h = cc
gives formula.TypedOne a b c d e h = cc
gives formula.OneLess a b c d e h = cc

if_is : (b : Bool) (x y : Formula) → is_word x ≡ true → is_word y ≡ true → is_word (if b then x else y) ≡ true
if_is true x y hx hy = hx
if_is false x y hx hy = hy

first_is : (k : ℕ) → is_word (first_formula k) ≡ true
first_is k =
    if_is (k == 16) _ _ refl (
    if_is (k == 17) _ _ refl (
    if_is (k == 18) _ _ refl (
    if_is (k == 19) _ _ refl (
    if_is (k == 20) _ _ refl (
    if_is (k == 21) _ _ refl (
    if_is (k == 22) _ _ refl (
    if_is (k == 23) _ _ refl (
    if_is (k == 24) _ _ refl (
    if_is (k == 25) _ _ refl (
    if_is (k == 26) _ _ refl (
    if_is (k == 27) _ _ refl (
    if_is (k == 28) _ _ refl (
    if_is (k == 29) _ _ refl (
    if_is (k == 30) _ _ refl (
    if_is (k == 31) _ _ refl (
    if_is (k == 32) _ _ refl (
    if_is (k == 33) _ _ refl (
    if_is (k == 34) _ _ refl (
    if_is (k == 35) _ _ refl (
    if_is (k == 36) _ _ refl (
    if_is (k == 37) _ _ refl (
    if_is (k == 38) _ _ refl (
    if_is (k == 39) _ _ refl (
    if_is (k == 40) _ _ refl (
    if_is (k == 41) _ _ refl (
    if_is (k == 42) _ _ refl (
    if_is (k == 43) _ _ refl (
    if_is (k == 44) _ _ refl (
    if_is (k == 45) _ _ refl refl)))))))))))))))))))))))))))))

second_is : (k : ℕ) → is_word (second_formula k) ≡ true
second_is k = if_is (k == 23) _ _ refl refl

-- ## Results

-- what is assigned by a mask is there
module _ (x w : ℕ → ℕ) (apart : (i j : ℕ) → i < 4 → j < 4 → i ≢ j → x i ≢ x j) where
  set_if : (b : Bool) (i : ℕ) (f : Frame) → b ≡ true → (put_if b (x i) (w i) f).variables (x i) ≡ w i
  set_if true i f e = ap (λ t. if t then w i else f.variables (x i)) (eq-eqb (x i) (x i) refl)
  set_if false i f e = cc

  kept_if : (b : Bool) (i j : ℕ) (f : Frame) → i < 4 → j < 4 → i ≢ j → f.variables (x i) ≡ w i → (put_if b (x j) (w j) f).variables (x i) ≡ w i
  kept_if true i j f li lj ne h = ap (λ t. if t then w j else f.variables (x i)) (ne_eqb (x i) (x j) (apart i j li lj ne)) ∙ h
  kept_if false i j f li lj ne h = h

  pub masked_has : (m : ℕ) (f : Frame) (c : ℕ) → c < 4 → bit c m ≡ true → (put_masked m x w f).variables (x c) ≡ w c
  masked_has m f zero lt e =
      kept_if (bit 3 m) 0 3 _ (omega arith) (omega arith) (λ z. absurd (omega arith)) (kept_if (bit 2 m) 0 2 _ (omega arith) (omega arith) (λ z. absurd (omega arith)) (kept_if (bit 1 m) 0 1 _ (omega arith) (omega arith) (λ z. absurd (omega arith)) (set_if (bit 0 m) 0 f e)))
  masked_has m f (suc zero) lt e =
      kept_if (bit 3 m) 1 3 _ (omega arith) (omega arith) (λ z. absurd (omega arith)) (kept_if (bit 2 m) 1 2 _ (omega arith) (omega arith) (λ z. absurd (omega arith)) (set_if (bit 1 m) 1 _ e))
  masked_has m f (suc (suc zero)) lt e = kept_if (bit 3 m) 2 3 _ (omega arith) (omega arith) (λ z. absurd (omega arith)) (set_if (bit 2 m) 2 _ e)
  masked_has m f (suc (suc (suc zero))) lt e = set_if (bit 3 m) 3 _ e
  masked_has m f (suc (suc (suc (suc c)))) lt e = absurd (omega arith)

-- a destination's state depends on the words of its mask alone
component_same : (b : Bool) (xs ys : List ℕ) (at v w : ℕ) → (b ≡ true → v ≡ w) → xs ≡ ys → (if b then slice_set xs at v else xs) ≡ (if b then slice_set ys at w else ys)
component_same true xs ys at v w e h = ap (λ k. slice_set xs at k) (e refl) ∙ ap (λ zs. slice_set zs at w) h
component_same false xs ys at v w e h = h

target_same : (t : Target) (v w : ℕ → ℕ) (xs : List ℕ) → ((c : ℕ) → c < 4 → bit c t.mask ≡ true → v c ≡ w c) → with_target (Some t) v xs ≡ with_target (Some t) w xs
target_same t v w xs h =
    component_same (bit 3 t.mask) _ _ _ _ _ (h 3 (omega arith))
    (component_same (bit 2 t.mask) _ _ _ _ _ (h 2 (omega arith))
    (component_same (bit 1 t.mask) _ _ _ _ _ (h 1 (omega arith))
    (component_same (bit 0 t.mask) _ _ _ _ _ (h 0 (omega arith)) refl)))

-- ## The instruction

module _ (ds : List Declared) (temps : ℕ) (ids : Ids) (three_ids : ThreeIds ids) where
  -- a destination that is declared
  abbrev pub TargetHas : Option Target → Type 0
  TargetHas None = Unit {0}
  TargetHas (Some t) = (k : ℕ) → bit k t.mask ≡ true → t.index < temps

  put_results : Option Target → (destination : ℕ) → (ℕ → ℕ) → Frame → Frame
  put_results None k w f = f
  put_results (Some t) k w f = put_masked t.mask (result k) w f

  -- results keep what is near
  pub near_kept : (f g : Frame) (k c v : ℕ) → k < 2 → c < 4 → Near ds temps ids three_ids f g → Near ds temps ids three_ids f (with_variable (result k c) v g)
  near_kept f g k c v lk lc h = record {
    slots = h.slots;
    variables = λ x clear. ap (λ b. if b then v else g.variables x) (ne_eqb x (result k c) (⊎_elim (λ (z : x < 17). λ (e : x ≡ result k c). absurd (omega arith)) (λ (z : 25 ≤ x). λ (e : x ≡ result k c). absurd (omega arith)) clear)) ∙ h.variables x clear;
  }

  near_results : (f g : Frame) (t : Option Target) (k : ℕ) (w : ℕ → ℕ) → k < 2 → Near ds temps ids three_ids f g → Near ds temps ids three_ids f (put_results t k w g)
  unfolding put_results
  near_results f g None k w lk h = h
  near_results f g (Some t) k w lk h = masked_keeps (Near ds temps ids three_ids f) (result k) (λ c v g lc z. near_kept f g k c v lk lc z) t.mask w g h

  shows_results : (f : Frame) (s : State) (t : Option Target) (k : ℕ) (w : ℕ → ℕ) → k < 2 → Shows temps f s → Shows temps (put_results t k w f) s
  unfolding put_results
  shows_results f s None k w lk h = h
  shows_results f s (Some t) k w lk h = masked_keeps (λ g. Shows temps g s) (result k) (λ c v g lc z. shows_scratch temps g s (result k c) v (omega arith) (omega arith) z) t.mask w f h

  -- the value of a formula of the sources, in each frame that is near
  computes_value : (i : Instr) (f g : Frame) (s : State) (k : Formula) (c : ℕ) → is_word k ≡ true → c < 4 → Shows temps f s → ((j : ℕ) → MaybeFits (OperandFits ds temps) (slice_index_or i.sources j None)) → AllFetched ds temps ids three_ids f s i → Near ds temps ids three_ids f g → calculated ids g (computes k i c) ≡ Some (Word (words k ids s i c))
  computes_value i f g s k c h lc sh fits got near =
      let one : (j : ℕ) → j < 4 → leaf_word ids g (source i j c) ≡ model.source ids s i j c = λ j lj. source_near ds temps ids three_ids i j c f g lj lc near ∙ source_is ds temps ids three_ids i j c f s lj lc sh (fits j) got in
      ap (λ x. steps_value (x ∷ leaf_word ids g (source i 1 c) ∷ leaf_word ids g (source i 2 c) ∷ leaf_word ids g (source i 3 c) ∷ 0 ∷ []) (steps_of k)) (one 0 (omega arith))
      ∙ ap (λ x. steps_value (model.source ids s i 0 c ∷ x ∷ leaf_word ids g (source i 2 c) ∷ leaf_word ids g (source i 3 c) ∷ 0 ∷ []) (steps_of k)) (one 1 (omega arith))
      ∙ ap (λ x. steps_value (model.source ids s i 0 c ∷ model.source ids s i 1 c ∷ x ∷ leaf_word ids g (source i 3 c) ∷ 0 ∷ []) (steps_of k)) (one 2 (omega arith))
      ∙ ap (λ x. steps_value (model.source ids s i 0 c ∷ model.source ids s i 1 c ∷ model.source ids s i 2 c ∷ x ∷ 0 ∷ []) (steps_of k)) (one 3 (omega arith))
      ∙ gives k _ _ _ _ 0 h

  computed_done : (i : Instr) (t : Option Target) (d : ℕ) (f g : Frame) (s : State) (k : Formula) → d < 2 → is_word k ≡ true → Shows temps f s → ((j : ℕ) → MaybeFits (OperandFits ds temps) (slice_index_or i.sources j None)) → AllFetched ds temps ids three_ids f s i → Near ds temps ids three_ids f g → pieces_done ids (computed t d (computes k i)) g ≡ Some (put_results t d (words k ids s i) g)
  unfolding put_results
  computed_done i None d f g s k ld h sh fits got near = refl
  computed_done i (Some t) d f g s k ld h sh fits got near =
      masked_done (Near ds temps ids three_ids f) (result d) (λ c v e lc z. near_kept f e d c v ld lc z) ids t.mask (computes k i) (words k ids s i) g near
      (λ c e lc z. computes_value i f e s k c h lc sh fits got z)

  -- what was computed is read where the mask has the component
  abbrev pub Reads : Option Target → (destination : ℕ) → (ℕ → ℕ) → Frame → Type 0
  Reads None d w f = Unit {0}
  Reads (Some t) d w f = (c : ℕ) → c < 4 → bit c t.mask ≡ true → f.variables (result d c) ≡ w c

  results_read : (t : Option Target) (d : ℕ) (w : ℕ → ℕ) (f : Frame) → Reads t d w (put_results t d w f)
  unfolding put_results
  results_read None d w f = tt
  results_read (Some t) d w f = λ c lc e. masked_has (result d) w (λ i j li lj ne. λ (z : result d i ≡ result d j). ne (omega arith)) t.mask f c lc e

  other_kept : (t : Option Target) (w : ℕ → ℕ) (f : Frame) (c v : ℕ) → c < 4 → f.variables (result 0 c) ≡ v → (put_results t 1 w f).variables (result 0 c) ≡ v
  unfolding put_results
  other_kept None w f c v lc h = h
  other_kept (Some t) w f c v lc h =
      masked_keeps (λ g. g.variables (result 0 c) ≡ v) (result 1)
      (λ k u g lk z. ap (λ b. if b then u else g.variables (result 0 c)) (ne_eqb (result 0 c) (result 1 k) (λ (e : result 0 c ≡ result 1 k). absurd (omega arith))) ∙ z)
      t.mask w f h

  first_read : (t u : Option Target) (v w : ℕ → ℕ) (f : Frame) → Reads t 0 v f → Reads t 0 v (put_results u 1 w f)
  first_read None u v w f h = tt
  first_read (Some t) u v w f h = λ c lc e. other_kept u w f c (v c) lc (h c lc e)

  pub put_taken : Option Target → (destination : ℕ) → (read : Frame) → Frame → Frame
  put_taken None d r g = g
  put_taken (Some t) d r g = put_masked t.mask (temporary t.index) (λ c. r.variables (result d c)) g

  -- the variables of results are as they were
  abbrev pub Results : (read g : Frame) → Type 0
  Results r g = (x : ℕ) → 17 ≤ x → x < 25 → g.variables x ≡ r.variables x

  temporary_keeps : (r g : Frame) (i c v : ℕ) → Results r g → Results r (with_variable (temporary i c) v g)
  temporary_keeps r g i c v h = λ x lo hi. ap (λ b. if b then v else g.variables x) (ne_eqb x (temporary i c) (λ (e : x ≡ temporary i c). absurd (omega arith))) ∙ h x lo hi

  pub taken_done : (t : Option Target) (d : ℕ) (r g : Frame) → d < 2 → Results r g → pieces_done ids (taken t (λ c. Variable (result d c))) g ≡ Some (put_taken t d r g)
  unfolding put_taken
  taken_done None d r g ld h = refl
  taken_done (Some t) d r g ld h =
      masked_done (Results r) (temporary t.index) (λ c v e lc z. temporary_keeps r e t.index c v z) ids t.mask (λ c. same (Variable (result d c))) (λ c. r.variables (result d c)) g h
      (λ c e lc z. ap (λ k. Some (Word k)) (z (result d c) (omega arith) (omega arith)))

  taken_keeps : (t : Option Target) (d : ℕ) (r g : Frame) → Results r g → Results r (put_taken t d r g)
  unfolding put_taken
  taken_keeps None d r g h = h
  taken_keeps (Some t) d r g h = masked_keeps (Results r) (temporary t.index) (λ c v e lc z. temporary_keeps r e t.index c v z) t.mask (λ c. r.variables (result d c)) g h

  pub taken_shows : (t : Option Target) (d : ℕ) (r g : Frame) (s : State) (w : ℕ → ℕ) → TargetHas t → Reads t d w r → Shows temps g s → Shows temps (put_taken t d r g) (record s { temps = with_target t w s.temps })
  unfolding put_taken
  taken_shows None d r g s w has reads h = h
  taken_shows (Some t) d r g s w has reads h =
      subst (λ (ts : List ℕ). Shows temps (put_masked t.mask (temporary t.index) (λ c. r.variables (result d c)) g) (record s { temps = ts }))
      (target_same t (λ c. r.variables (result d c)) w s.temps reads)
      (shows_target temps g s t (λ c. r.variables (result d c)) has h)

  -- all pieces of an instruction that computes, once its constants were fetched
  pub record PlainDoes (i : Instr) (f : Frame) (s : State) : Type 0 where
    pub frame : Frame
    pub does : pieces_done ids (plain_pieces i) f ≡ Some frame
    pub shows : Shows temps frame (both ds ids s i)

  pub plain_does : (i : Instr) (f : Frame) (s : State) → TargetHas i.first → TargetHas i.second → Shows temps f s → ((j : ℕ) → MaybeFits (OperandFits ds temps) (slice_index_or i.sources j None)) → AllFetched ds temps ids three_ids f s i → PlainDoes i f s
  plain_does i f s has1 has2 sh fits got =
      let k1 = first_formula i.opcode in
      let k2 = second_formula i.opcode in
      let w1 = words k1 ids s i in
      let w2 = words k2 ids s i in
      let near0 : Near ds temps ids three_ids f f = record { slots = refl; variables = λ x c. refl } in
      let f1 = put_results i.first 0 w1 f in
      let e1 = computed_done i i.first 0 f f s k1 (omega arith) (first_is i.opcode) sh fits got near0 in
      let near1 = near_results f f i.first 0 w1 (omega arith) near0 in
      let f2 = put_results i.second 1 w2 f1 in
      let e2 = computed_done i i.second 1 f f1 s k2 (omega arith) (second_is i.opcode) sh fits got near1 in
      let sh2 = shows_results f1 s i.second 1 w2 (omega arith) (shows_results f s i.first 0 w1 (omega arith) sh) in
      let read1 = first_read i.first i.second w1 w2 f1 (results_read i.first 0 w1 f) in
      let read2 = results_read i.second 1 w2 f1 in
      let same2 : Results f2 f2 = λ x lo hi. refl in
      let f3 = put_taken i.first 0 f2 f2 in
      let e3 = taken_done i.first 0 f2 f2 (omega arith) same2 in
      let s3 = record s { temps = with_target i.first w1 s.temps } in
      let sh3 = taken_shows i.first 0 f2 f2 s w1 has1 read1 sh2 in
      let f4 = put_taken i.second 1 f2 f3 in
      let e4 = taken_done i.second 1 f2 f3 (omega arith) (taken_keeps i.first 0 f2 f2 same2) in
      record {
        frame = f4;
        does = then_pieces ids (computed i.first 0 (computes k1 i)) _ f f1 f4 e1 (then_pieces ids (computed i.second 1 (computes k2 i)) _ f1 f2 f4 e2 (then_pieces ids (taken i.first (λ c. Variable (result 0 c))) (taken i.second (λ c. Variable (result 1 c))) f2 f3 f4 e3 e4));
        shows = taken_shows i.second 1 f2 f3 s3 w2 has2 read2 sh3;
      }
