-- All that an instruction or a test takes from constant buffers, and what a test tells.
use Rattle.std.proofs.Common.{◌≡◌, ◌≢◌, ℕ, zero, suc, ◌<◌, Bool, true, false, not, if◌then◌else◌, List, [], ◌∷◌, ◌++◌, Option, Some, None, refl, ap, ◌∙◌, arith}
use Rattle.std.specs.Prelude.{◌==◌, slice_index_or}
use Rattle.std.proofs.lemmas.Bool.{eqb-true, eqb-false, ne_eqb}
use Rattle.shader_model.specs.declared.ids.Ids.{Ids}
use Rattle.shader_model.specs.declared.tree.Declared.{Declared}
use Rattle.shader_model.specs.declared.tree.Operand.{Operand}
use Rattle.shader_model.specs.declared.tree.Instr.{Instr}
use Rattle.shader_model.specs.declared.tree.Test.{Test}
use Rattle.shader_model.specs.Words.{bit, picked}
use Rattle.shader_model.specs.Good.{MaybeFits, OperandFits}
use Rattle.shader_model.specs.Invocation.{State, words_in, vector_word, vector_of, holds}
use Rattle.spirv_model.specs.Meaning.Values.{Truth}
use Rattle.spirv_emit.specs.declared.formula.Formula.TheVariants as formula
use Rattle.spirv_emit.specs.Steps.{steps_of}
use Rattle.spirv_emit.specs.Lower.{fetched, fetch, fetches, all_fetches, leaf_of, test_pieces, test_calculation}
use Rattle.spirv_emit.specs.Frames.{Frame, with_variable, leaf_word, steps_value, calculated, then_frame, pieces_done}
use Rattle.spirv_emit.proofs.Meaning.CodeStretches.{Shows}
use Rattle.spirv_emit.proofs.Lowering.SourceLeaves.{ThreeIds, MaybeFetched, AllFetched, leaf_is}
use Rattle.spirv_emit.proofs.Lowering.Assignments.{then_pieces, put_masked, masked_keeps, shows_scratch}
use Rattle.spirv_emit.proofs.Lowering.ComputingInstructions.{masked_has}
use Rattle.spirv_emit.proofs.Lowering.ConstantFetches.{fetch_done}

module _ (ds : List Declared) (temps : ℕ) (ids : Ids) (three_ids : ThreeIds ids) where
  -- the words of a source's vector, in the order of its swizzle
  abbrev vector_words : State → Operand → (component : ℕ) → ℕ
  vector_words s o i = vector_word (words_in s.slots.constants o.index) (vector_of o s) (picked o.swizzle i)

  -- a constant buffer that there is
  abbrev pub InPlace : Operand → Type 0
  InPlace o = o.file ≡ 2 → o.index < 14

  abbrev pub MaybeInPlace : Option Operand → Type 0
  MaybeInPlace None = Unit {0}
  MaybeInPlace (Some o) = InPlace o

  -- the frame once a source was fetched
  pub record FetchesDo (j : ℕ) (q : Option Operand) (f : Frame) (s : State) : Type 0 where
    pub frame : Frame
    pub does : pieces_done ids (fetches j q) f ≡ Some frame
    pub shows : Shows temps frame s
    pub got : MaybeFetched ds temps ids three_ids j frame s q
    pub kept : (k i : ℕ) → k < 4 → i < 4 → k ≢ j → frame.variables (fetched k i) ≡ f.variables (fetched k i)

  four_done : (j : ℕ) (o : Operand) (f : Frame) (s : State) → j < 4 → Shows temps f s → OperandFits ds temps o → o.index < 14 → pieces_done ids (fetch j o 0 ∷ fetch j o 1 ∷ fetch j o 2 ∷ fetch j o 3 ∷ []) f ≡ Some (put_masked 15 (fetched j) (vector_words s o) f)
  four_done j o f s lj h fits lt =
      let w = vector_words s o in
      let f0 = with_variable (fetched j 0) (w 0) f in
      let h0 = shows_scratch temps f s (fetched j 0) (w 0) (omega arith) (omega arith) h in
      let f1 = with_variable (fetched j 1) (w 1) f0 in
      let h1 = shows_scratch temps f0 s (fetched j 1) (w 1) (omega arith) (omega arith) h0 in
      let f2 = with_variable (fetched j 2) (w 2) f1 in
      let h2 = shows_scratch temps f1 s (fetched j 2) (w 2) (omega arith) (omega arith) h1 in
      ap (λ q. then_frame q (pieces_done ids (fetch j o 1 ∷ fetch j o 2 ∷ fetch j o 3 ∷ []))) (fetch_done ds temps ids j 0 o f s h fits lt)
      ∙ ap (λ q. then_frame q (pieces_done ids (fetch j o 2 ∷ fetch j o 3 ∷ []))) (fetch_done ds temps ids j 1 o f0 s h0 fits lt)
      ∙ ap (λ q. then_frame q (pieces_done ids (fetch j o 3 ∷ []))) (fetch_done ds temps ids j 2 o f1 s h1 fits lt)
      ∙ ap (λ q. then_frame q (pieces_done ids [])) (fetch_done ds temps ids j 3 o f2 s h2 fits lt)

  all_bits : (c : ℕ) → c < 4 → bit c 15 ≡ true
  all_bits zero lt = refl
  all_bits (suc zero) lt = refl
  all_bits (suc (suc zero)) lt = refl
  all_bits (suc (suc (suc zero))) lt = refl
  all_bits (suc (suc (suc (suc c)))) lt = absurd (omega arith)

  four_shown : (j : ℕ) (o : Operand) (f : Frame) (s : State) → j < 4 → Shows temps f s → Shows temps (put_masked 15 (fetched j) (vector_words s o) f) s
  four_shown j o f s lj h = masked_keeps (λ g. Shows temps g s) (fetched j) (λ c v g lc z. shows_scratch temps g s (fetched j c) v (omega arith) (omega arith) z) 15 (vector_words s o) f h

  four_kept : (j : ℕ) (o : Operand) (f : Frame) (s : State) (k i : ℕ) → j < 4 → k < 4 → i < 4 → k ≢ j → (put_masked 15 (fetched j) (vector_words s o) f).variables (fetched k i) ≡ f.variables (fetched k i)
  four_kept j o f s k i lj lk li ne =
      masked_keeps (λ g. g.variables (fetched k i) ≡ f.variables (fetched k i)) (fetched j)
      (λ c v g lc z. ap (λ b. if b then v else g.variables (fetched k i)) (ne_eqb (fetched k i) (fetched j c) (λ (e : fetched k i ≡ fetched j c). ne (omega arith))) ∙ z)
      15 (vector_words s o) f refl

  fetches_by : (j : ℕ) (o : Operand) (f : Frame) (s : State) (t : Bool) → o.file == 2 ≡ t → j < 4 → Shows temps f s → OperandFits ds temps o → InPlace o → FetchesDo j (Some o) f s
  fetches_by j o f s true e lj h fits place = record {
    frame = put_masked 15 (fetched j) (vector_words s o) f;
    does = ap (λ b. pieces_done ids (if b then fetch j o 0 ∷ fetch j o 1 ∷ fetch j o 2 ∷ fetch j o 3 ∷ [] else []) f) e ∙ four_done j o f s lj h fits (place (eqb-true o.file 2 e));
    shows = four_shown j o f s lj h;
    got = λ i li z. masked_has (fetched j) (vector_words s o) (λ a b la lb ne. λ (q : fetched j a ≡ fetched j b). ne (omega arith)) 15 f i li (all_bits i li);
    kept = λ k i lk li ne. four_kept j o f s k i lj lk li ne;
  }
  fetches_by j o f s false e lj h fits place = record {
    frame = f;
    does = ap (λ b. pieces_done ids (if b then fetch j o 0 ∷ fetch j o 1 ∷ fetch j o 2 ∷ fetch j o 3 ∷ [] else []) f) e;
    shows = h;
    got = λ i li z. absurd (eqb-false o.file 2 e z);
    kept = λ k i lk li ne. refl;
  }

  pub fetches_do : (j : ℕ) (q : Option Operand) (f : Frame) (s : State) → j < 4 → Shows temps f s → MaybeFits (OperandFits ds temps) q → MaybeInPlace q → FetchesDo j q f s
  fetches_do j None f s lj h fits place = record { frame = f; does = refl; shows = h; got = tt; kept = λ k i lk li ne. refl }
  fetches_do j (Some o) f s lj h fits place = fetches_by j o f s (o.file == 2) refl lj h fits place

  -- ## Tests

  -- the frame once a test's source was fetched, and what the test tells there
  pub record TestTells (t : Test) (f : Frame) (s : State) : Type 0 where
    pub frame : Frame
    pub does : pieces_done ids (test_pieces t) f ≡ Some frame
    pub shows : Shows temps frame s
    pub outcome : calculated ids frame (test_calculation t) ≡ Some (Truth (holds ids t s))

  test_outcome : (t : Test) (f : Frame) (x : ℕ) → leaf_word ids f (leaf_of 0 t.value 0) ≡ x → calculated ids f (test_calculation t) ≡ Some (Truth (if t.nonzero then not (x == 0) else x == 0))
  test_outcome t f x e = ap (λ k. steps_value (k ∷ 0 ∷ 0 ∷ 0 ∷ 0 ∷ []) (steps_of (if t.nonzero then formula.IsNonzero else formula.IsZero))) e ∙ by_kind t.nonzero
    where
      by_kind : (b : Bool) → steps_value (x ∷ 0 ∷ 0 ∷ 0 ∷ 0 ∷ []) (steps_of (if b then formula.IsNonzero else formula.IsZero)) ≡ Some (Truth (if b then not (x == 0) else x == 0))
      by_kind true = refl
      by_kind false = refl

  pub test_tells : (t : Test) (f : Frame) (s : State) → Shows temps f s → OperandFits ds temps t.value → InPlace t.value → TestTells t f s
  test_tells t f s h fits place =
      let d = fetches_do 0 (Some t.value) f s (omega arith) h fits place in
      record {
        frame = d.frame;
        does = d.does;
        shows = d.shows;
        outcome = test_outcome t d.frame _ (leaf_is ds temps ids three_ids 0 0 t.value d.frame s (omega arith) d.shows fits (d.got 0 (omega arith)));
      }

  -- ## All sources of an instruction

  pub record AllFetchesDo (i : Instr) (f : Frame) (s : State) : Type 0 where
    pub frame : Frame
    pub does : pieces_done ids (all_fetches i) f ≡ Some frame
    pub shows : Shows temps frame s
    pub got : AllFetched ds temps ids three_ids frame s i

  -- what was fetched of one source stays while others are
  stays : (k : ℕ) (q : Option Operand) (f g : Frame) (s : State) → ((i : ℕ) → i < 4 → g.variables (fetched k i) ≡ f.variables (fetched k i)) → MaybeFetched ds temps ids three_ids k f s q → MaybeFetched ds temps ids three_ids k g s q
  stays k None f g s same h = tt
  stays k (Some o) f g s same h = λ i li e. same i li ∙ h i li e

  pub all_fetches_do : (i : Instr) (f : Frame) (s : State) → Shows temps f s → ((j : ℕ) → MaybeFits (OperandFits ds temps) (slice_index_or i.sources j None)) → ((j : ℕ) → MaybeInPlace (slice_index_or i.sources j None)) → AllFetchesDo i f s
  all_fetches_do i f s h fits place =
      let q : ℕ → Option Operand = λ j. slice_index_or i.sources j None in
      let d0 = fetches_do 0 (q 0) f s (omega arith) h (fits 0) (place 0) in
      let d1 = fetches_do 1 (q 1) d0.frame s (omega arith) d0.shows (fits 1) (place 1) in
      let d2 = fetches_do 2 (q 2) d1.frame s (omega arith) d1.shows (fits 2) (place 2) in
      let d3 = fetches_do 3 (q 3) d2.frame s (omega arith) d2.shows (fits 3) (place 3) in
      let g1 = stays 0 (q 0) d0.frame d1.frame s (λ c lc. d1.kept 0 c (omega arith) lc (λ e. absurd (omega arith))) d0.got in
      let g2 = stays 0 (q 0) d1.frame d2.frame s (λ c lc. d2.kept 0 c (omega arith) lc (λ e. absurd (omega arith))) g1 in
      let g3 = stays 0 (q 0) d2.frame d3.frame s (λ c lc. d3.kept 0 c (omega arith) lc (λ e. absurd (omega arith))) g2 in
      let k2 = stays 1 (q 1) d1.frame d2.frame s (λ c lc. d2.kept 1 c (omega arith) lc (λ e. absurd (omega arith))) d1.got in
      let k3 = stays 1 (q 1) d2.frame d3.frame s (λ c lc. d3.kept 1 c (omega arith) lc (λ e. absurd (omega arith))) k2 in
      let m3 = stays 2 (q 2) d2.frame d3.frame s (λ c lc. d3.kept 2 c (omega arith) lc (λ e. absurd (omega arith))) d2.got in
      record {
        frame = d3.frame;
        does = then_pieces ids (fetches 0 (q 0)) (fetches 1 (q 1) ++ (fetches 2 (q 2) ++ fetches 3 (q 3))) f d0.frame d3.frame d0.does
            (then_pieces ids (fetches 1 (q 1)) (fetches 2 (q 2) ++ fetches 3 (q 3)) d0.frame d1.frame d3.frame d1.does
            (then_pieces ids (fetches 2 (q 2)) (fetches 3 (q 3)) d1.frame d2.frame d3.frame d2.does d3.does));
        shows = d3.shows;
        got = each d3.frame g3 k3 m3 d3.got;
      }
    where
      each : (g : Frame) → MaybeFetched ds temps ids three_ids 0 g s (slice_index_or i.sources 0 None) → MaybeFetched ds temps ids three_ids 1 g s (slice_index_or i.sources 1 None) → MaybeFetched ds temps ids three_ids 2 g s (slice_index_or i.sources 2 None) → MaybeFetched ds temps ids three_ids 3 g s (slice_index_or i.sources 3 None) → (j : ℕ) → j < 4 → MaybeFetched ds temps ids three_ids j g s (slice_index_or i.sources j None)
      each g a b c d zero lt = a
      each g a b c d (suc zero) lt = b
      each g a b c d (suc (suc zero)) lt = c
      each g a b c d (suc (suc (suc zero))) lt = d
      each g a b c d (suc (suc (suc (suc j)))) lt = absurd (omega arith)
