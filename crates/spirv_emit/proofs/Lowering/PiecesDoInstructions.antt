-- The pieces of an instruction, and those of a test, do what these do.
use Rattle.std.proofs.Common.{◌≡◌, ℕ, ◌+◌, ◌*◌, ◌<◌, Bool, true, false, if◌then◌else◌, List, [], ◌∷◌, ◌++◌, Option, Some, None, refl, arith}
use Rattle.std.specs.Prelude.{◌==◌, slice_index, slice_index_or}
use Rattle.std.proofs.lemmas.Bool.{eqb-true}
use Rattle.shader_model.specs.declared.ids.Ids.{Ids}
use Rattle.shader_model.specs.declared.tree.Declared.{Declared}
use Rattle.shader_model.specs.declared.tree.Operand.{Operand}
use Rattle.shader_model.specs.declared.tree.SlotUse.{SlotUse}
use Rattle.shader_model.specs.declared.tree.Instr.{Instr}
use Rattle.shader_model.specs.declared.tree.Test.{Test}
use Rattle.shader_model.specs.declared.opcode.Row.{Row}
use Rattle.shader_model.specs.Words.{picked, index_in, swizzle_in}
use Rattle.shader_model.specs.Opcodes.{kinds, row_of}
use Rattle.shader_model.specs.Fields.{used_as}
use Rattle.shader_model.specs.Good.{MaybeFits, OperandFits, SlotFits, HasOperands}
use Rattle.shader_model.specs.Invocation.{State}
use Rattle.spirv_emit.specs.declared.formula.Formula.TheVariants as formula
use Rattle.spirv_emit.specs.declared.piece.Leaf.TheVariants.{Number, Length}
use Rattle.spirv_emit.specs.declared.piece.Piece.{Piece}
use Rattle.spirv_emit.specs.Layout.{Layout, bindings}
use Rattle.spirv_emit.specs.Numbers.{has, own_numbers}
use Rattle.spirv_emit.specs.Lower as lower
use Rattle.spirv_emit.specs.Lower.{nought, calculation, fetched, fetch, fetches, all_fetches, leaf_of, temporary, done_pieces, instr_pieces, test_pieces, test_calculation}
use Rattle.spirv_emit.specs.Frames.{Frame}
use Rattle.spirv_emit.proofs.Meaning.HeldFrames.{Pool}
use Rattle.spirv_emit.proofs.Meaning.Pieces.{PieceFits, PiecesFit}
use Rattle.spirv_emit.proofs.Meaning.CodeStretches.{Shows}
use Rattle.spirv_emit.proofs.Meaning.Blocks.{InstrDoes, TestDoes}
use Rattle.spirv_emit.proofs.Lowering.SourceLeaves.{ThreeIds}
use Rattle.spirv_emit.proofs.Lowering.Assignments.{then_pieces}
use Rattle.spirv_emit.proofs.Lowering.ComputingInstructions.{TargetHas}
use Rattle.spirv_emit.proofs.Lowering.NamesInRange.{calculation_fits, WordsHave, MaybeHave, SourcesFit, leaf_fits, append_fits}
use Rattle.spirv_emit.proofs.Lowering.Tests.{InPlace, MaybeInPlace, test_tells, all_fetches_do}
use Rattle.spirv_emit.proofs.Lowering.KeptTurnsAndLengths.{instr_keeps}
use Rattle.spirv_emit.proofs.Lowering.EachInstruction.{ViewFits, instruction_does}

module _ (at : Layout) (Has : ℕ → Type 0) (pool : Pool at Has) (ids : Ids) (own : (v : ℕ) → has own_numbers v ≡ true → Has v) (ds : List Declared) (temps : ℕ) (many : at.variables ≡ 25 + 4 * temps) (three_ids : ThreeIds ids) where
  abbrev Fit : Piece → Type 0
  Fit p = PieceFits at Has pool ids p

  if_piece : (b : Bool) (x y : Piece) → (b ≡ true → Fit x) → (b ≡ false → Fit y) → Fit (if b then x else y)
  if_piece true x y hx hy = hx refl
  if_piece false x y hx hy = hy refl

  picked_below : (swizzle c : ℕ) → picked swizzle c < 4
  picked_below swizzle c = omega arith

  -- ## What is fetched

  fetch_fits : (j i : ℕ) (o : Operand) → j < 4 → i < 4 → OperandFits ds temps o → WordsHave at Has pool ids own ds temps many o → o.index < 14 → Fit (fetch j o i)
  fetch_fits j i o lj li fits have lt =
      let zero_has = pool.bindings_have 0 (omega arith) in
      let base = have 0 (omega arith) in
      let below = picked_below o.swizzle i in
      let place = pool.bindings_have (picked o.swizzle i) (omega (arith, below)) in
      let here : o.index < bindings = omega (arith, lt) in
      let x : fetched j i < at.variables = omega (arith, many) in
      let c = Number (picked o.swizzle i) in
      let w = Number (slice_index o.words 0) in
      if_piece o.flag _ _
      (λ e.
      let r = fits.relative e in
      let q = picked_below (swizzle_in (slice_index o.words 1)) 0 in
      let y : temporary (index_in (slice_index o.words 1)) (picked (swizzle_in (slice_index o.words 1)) 0) < at.variables = omega (arith, r, q, many) in (
        calculation_fits at Has pool ids own formula.RelativeInside w (lower.relative o) (Length o.index) nought nought base y here zero_has zero_has,
        calculation_fits at Has pool ids own formula.RelativePlace w (lower.relative o) c nought nought base y place zero_has zero_has,
        here,
        x,
      ))
      (λ e. (
        calculation_fits at Has pool ids own formula.VectorInside w (Length o.index) nought nought nought base here zero_has zero_has zero_has,
        calculation_fits at Has pool ids own formula.VectorPlace w c nought nought nought base place zero_has zero_has zero_has,
        here,
        x,
      ))

  if_pieces : (b : Bool) (xs : List Piece) → (b ≡ true → PiecesFit at Has pool ids xs) → PiecesFit at Has pool ids (if b then xs else [])
  if_pieces true xs h = h refl
  if_pieces false xs h = tt

  fetches_fit : (j : ℕ) (q : Option Operand) → j < 4 → MaybeFits (OperandFits ds temps) q → MaybeHave at Has pool ids own ds temps many q → MaybeInPlace ds temps ids three_ids q → PiecesFit at Has pool ids (fetches j q)
  fetches_fit j None lj fits have place = tt
  fetches_fit j (Some o) lj fits have place =
      if_pieces (o.file == 2) (fetch j o 0 ∷ fetch j o 1 ∷ fetch j o 2 ∷ fetch j o 3 ∷ [])
      (λ e.
      let lt = place (eqb-true o.file 2 e) in
      (fetch_fits j 0 o lj (omega arith) fits have lt, (fetch_fits j 1 o lj (omega arith) fits have lt, (fetch_fits j 2 o lj (omega arith) fits have lt, (fetch_fits j 3 o lj (omega arith) fits have lt, tt)))))

  -- ## Instructions

  pub instr_does : (i : Instr) (r : Row) (f : Frame) (s : State) → row_of i.opcode ≡ Some r → HasOperands (kinds r.layout) i → ((u : SlotUse) (d : Declared) → used_as u ds ≡ Some d → ViewFits at Has pool ids own ds temps many three_ids u d) → MaybeFits (SlotFits ds temps r.access) i.slot → TargetHas ds temps ids three_ids i.first → TargetHas ds temps ids three_ids i.second → SourcesFit at Has pool ids own ds temps many i → ((j : ℕ) → MaybeInPlace ds temps ids three_ids (slice_index_or i.sources j None)) → Shows temps f s → InstrDoes at Has pool ids temps ds i f s
  instr_does i r f s er operands views slot has1 has2 h place sh =
      let q : ℕ → Option Operand = λ j. slice_index_or i.sources j None in
      let done_by : List Piece = done_pieces ds i i.slot in
      let a = all_fetches_do ds temps ids three_ids i f s sh h.fits place in
      let p = instruction_does at Has pool ids own ds temps many three_ids i a.frame s has1 has2 h a.shows a.got r er operands views slot in
      let f0 = fetches_fit 0 (q 0) (omega arith) (h.fits 0) (h.have 0) (place 0) in
      let f1 = fetches_fit 1 (q 1) (omega arith) (h.fits 1) (h.have 1) (place 1) in
      let f2 = fetches_fit 2 (q 2) (omega arith) (h.fits 2) (h.have 2) (place 2) in
      let f3 = fetches_fit 3 (q 3) (omega arith) (h.fits 3) (h.have 3) (place 3) in
      let both_fit = append_fits at Has pool ids own ds temps many in
      let fetched_fit = both_fit (fetches 0 (q 0)) (fetches 1 (q 1) ++ (fetches 2 (q 2) ++ fetches 3 (q 3))) f0 (both_fit (fetches 1 (q 1)) (fetches 2 (q 2) ++ fetches 3 (q 3)) f1 (both_fit (fetches 2 (q 2)) (fetches 3 (q 3)) f2 f3)) in
      record {
        frame = p.frame;
        fits = both_fit (all_fetches i) done_by fetched_fit p.fits;
        does = then_pieces ids (all_fetches i) done_by f a.frame p.frame a.does p.does;
        shows = p.shows;
        turns = (instr_keeps ds ids i s).turns;
      }

  -- ## Tests

  pub test_does : (t : Test) (f : Frame) (s : State) → OperandFits ds temps t.value → WordsHave at Has pool ids own ds temps many t.value → InPlace ds temps ids three_ids t.value → Shows temps f s → TestDoes at Has pool ids temps ds t f s
  test_does t f s fits have place sh =
      let d = test_tells ds temps ids three_ids t f s sh fits place in
      let zero_has = pool.bindings_have 0 (omega arith) in
      record {
        frame = d.frame;
        fits = fetches_fit 0 (Some t.value) (omega arith) fits have place;
        does = d.does;
        shows = d.shows;
        calculation = calculation_fits at Has pool ids own (if t.nonzero then formula.IsNonzero else formula.IsZero) (leaf_of 0 t.value 0) nought nought nought nought (leaf_fits at Has pool ids own ds temps many 0 0 t.value (omega arith) (omega arith) fits have) zero_has zero_has zero_has zero_has;
        outcome = d.outcome;
      }
