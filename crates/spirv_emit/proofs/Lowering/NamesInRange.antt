-- What an instruction's pieces name is there.
use Rattle.std.proofs.Common.{◌≡◌, ℕ, ◌+◌, ◌*◌, ◌<◌, Bool, true, false, if◌then◌else◌, List, [], ◌∷◌, ◌++◌, Option, Some, None, refl, arith}
use Rattle.std.specs.Prelude.{◌==◌, ◌&&◌, nat_lt, slice_index, slice_index_or}
use Rattle.std.proofs.lemmas.Bool.{eqb-true, ltb-true}
use Rattle.shader_model.specs.declared.ids.Ids.{Ids}
use Rattle.shader_model.specs.declared.tree.Declared.{Declared}
use Rattle.shader_model.specs.declared.tree.Target.{Target}
use Rattle.shader_model.specs.declared.tree.Operand.{Operand}
use Rattle.shader_model.specs.declared.tree.Instr.{Instr}
use Rattle.shader_model.specs.Words.{bit, picked}
use Rattle.shader_model.specs.Good.{MaybeFits, OperandFits}
use Rattle.spirv_emit.specs.declared.formula.Taken.{Taken}
use Rattle.spirv_emit.specs.declared.formula.Taken.TheVariants as taken
use Rattle.spirv_emit.specs.declared.formula.Step.{Step}
use Rattle.spirv_emit.specs.declared.formula.Step.TheVariants.{One, Two, High, Choose}
use Rattle.spirv_emit.specs.declared.formula.Formula.{Formula}
use Rattle.spirv_emit.specs.declared.formula.Formula.TheVariants as formula
use Rattle.spirv_emit.specs.declared.piece.Vector.TheVariants.{Group, Thread, Global}
use Rattle.spirv_emit.specs.declared.piece.Leaf.{Leaf}
use Rattle.spirv_emit.specs.declared.piece.Leaf.TheVariants.{Variable, Component}
use Rattle.spirv_emit.specs.declared.piece.Piece.{Piece}
use Rattle.spirv_emit.specs.declared.piece.Piece.TheVariants.{Assign}
use Rattle.spirv_emit.specs.Steps.{steps_of}
use Rattle.spirv_emit.specs.Layout.{Layout}
use Rattle.spirv_emit.specs.Numbers.{has, own_numbers}
use Rattle.spirv_emit.specs.Opcodes.{first_formula, second_formula}
use Rattle.spirv_emit.specs.Lower as lower
use Rattle.spirv_emit.specs.Lower.{nought, calculation, same, three, leaf_of, leaf_of_some, source, relative, fetched, fetch, fetches, result, temporary, only_if, masked, computes, computed, plain_pieces}
use Rattle.spirv_emit.proofs.Meaning.FormulaSteps.{StepFits, StepsFit, TakenFits}
use Rattle.spirv_emit.proofs.Meaning.HeldFrames.{Pool, LeafFits}
use Rattle.spirv_emit.proofs.Meaning.Calculations.{CalculationFits}
use Rattle.spirv_emit.proofs.Meaning.Pieces.{PieceFits, PiecesFit}

-- ## The numbers in formulas are those of every module

abbrev taken_own : Taken → Bool
taken_own (taken.Leaf i) = nat_lt i 5
taken_own (taken.Made i) = true
taken_own (taken.Number v) = has own_numbers v

abbrev step_own : Step → Bool
step_own (One o a) = taken_own a
step_own (Two o a b) = taken_own a && taken_own b
step_own (High a) = taken_own a
step_own (Choose c a b) = taken_own c && (taken_own a && taken_own b)

abbrev steps_own : List Step → Bool
steps_own [] = true
steps_own (s ∷ ss) = step_own s && steps_own ss

all_own : (f : Formula) → steps_own (steps_of f) ≡ true
all_own formula.Same = refl
all_own formula.Pick = refl
all_own formula.Sum = refl
all_own formula.Negative = refl
all_own formula.ProductAndSum = refl
all_own formula.SignedHigh = refl
all_own formula.UnsignedHigh = refl
all_own formula.ProductLow = refl
all_own formula.Quotient = refl
all_own formula.Remainder = refl
all_own formula.SignedMin = refl
all_own formula.SignedMax = refl
all_own formula.UnsignedMin = refl
all_own formula.UnsignedMax = refl
all_own formula.BitAnd = refl
all_own formula.BitOr = refl
all_own formula.BitXor = refl
all_own formula.Complement = refl
all_own formula.ShiftLeft = refl
all_own formula.SignedShiftRight = refl
all_own formula.ShiftRight = refl
all_own formula.Field = refl
all_own formula.SignedField = refl
all_own formula.Inserted = refl
all_own formula.BitReverse = refl
all_own formula.BitCount = refl
all_own formula.Equal = refl
all_own formula.NotEqual = refl
all_own formula.SignedGreaterEqual = refl
all_own formula.SignedLess = refl
all_own formula.GreaterEqual = refl
all_own formula.Less = refl
all_own formula.IsZero = refl
all_own formula.IsNonzero = refl
all_own formula.VectorInside = refl
all_own formula.VectorPlace = refl
all_own formula.RelativeInside = refl
all_own formula.RelativePlace = refl
all_own formula.RawInside = refl
all_own formula.RawPlace = refl
all_own formula.StructuredInside = refl
all_own formula.StructuredPlace = refl
all_own formula.TypedInside = refl
all_own formula.TypedPlace = refl
all_own formula.TypedOne = refl
all_own formula.OneLess = refl

and_parts : (a b : Bool) → (a && b) ≡ true → (a ≡ true) × (b ≡ true)
and_parts true true e = (refl, refl)
and_parts true false e = cc
and_parts false b e = cc

module _ (at : Layout) (Has : ℕ → Type 0) (pool : Pool at Has) (ids : Ids) (own : (v : ℕ) → has own_numbers v ≡ true → Has v) where
  abbrev StepsOf : List Step → Type 0
  StepsOf ss = StepsFit at Has ids [] [] [] 0 ss

  taken_fits : (t : Taken) → taken_own t ≡ true → TakenFits at Has ids [] [] [] 0 t
  taken_fits (taken.Leaf i) e = ltb-true i 5 e
  taken_fits (taken.Made i) e = tt
  taken_fits (taken.Number v) e = own v e

  step_fits : (s : Step) → step_own s ≡ true → StepFits at Has ids [] [] [] 0 s
  step_fits (One o a) e = taken_fits a e
  step_fits (Two o a b) e = let p = and_parts (taken_own a) (taken_own b) e in (taken_fits a p.0, taken_fits b p.1)
  step_fits (High a) e = taken_fits a e
  step_fits (Choose c a b) e =
      let p = and_parts (taken_own c) (taken_own a && taken_own b) e in
      let q = and_parts (taken_own a) (taken_own b) p.1 in
      (taken_fits c p.0, taken_fits a q.0, taken_fits b q.1)

  steps_fit : (ss : List Step) → steps_own ss ≡ true → StepsOf ss
  steps_fit [] e = tt
  steps_fit (s ∷ ss) e = let p = and_parts (step_own s) (steps_own ss) e in (step_fits s p.0, steps_fit ss p.1)

  nought_fits : Has 0
  nought_fits = own 0 refl

  -- five leaves that are there
  pub calculation_fits : (f : Formula) (a b c d e : Leaf) → LeafFits at Has pool ids a → LeafFits at Has pool ids b → LeafFits at Has pool ids c → LeafFits at Has pool ids d → LeafFits at Has pool ids e → CalculationFits at Has pool ids (calculation f a b c d e)
  calculation_fits f a b c d e fa fb fc fd fe = record { five = refl; leaves_fit = (fa, (fb, (fc, (fd, (fe, tt))))); steps_fit = steps_fit (steps_of f) (all_own f) }

  pub same_fits : (a : Leaf) → LeafFits at Has pool ids a → CalculationFits at Has pool ids (same a)
  same_fits a fa = calculation_fits formula.Same a nought nought nought nought fa nought_fits nought_fits nought_fits nought_fits

  -- ## Sources

  if_fits : (b : Bool) (x y : Leaf) → (b ≡ true → LeafFits at Has pool ids x) → (b ≡ false → LeafFits at Has pool ids y) → LeafFits at Has pool ids (if b then x else y)
  if_fits true x y hx hy = hx refl
  if_fits false x y hx hy = hy refl

  module _ (ds : List Declared) (temps : ℕ) (many : at.variables ≡ 25 + 4 * temps) where
    -- a source's words have ids
    abbrev pub WordsHave : Operand → Type 0
    WordsHave o = (c : ℕ) → c < 4 → Has (slice_index o.words c)

    picked_below : (swizzle c : ℕ) → picked swizzle c < 4
    picked_below swizzle c = omega arith

    three_fits : (g : ℕ → Leaf) (c : ℕ) → (c < 3 → LeafFits at Has pool ids (g c)) → LeafFits at Has pool ids (three g c)
    three_fits g c h = if_fits (nat_lt c 3) (g c) nought (λ e. h (ltb-true c 3 e)) (λ e. nought_fits)

    pub leaf_fits : (j i : ℕ) (o : Operand) → j < 4 → i < 4 → OperandFits ds temps o → WordsHave o → LeafFits at Has pool ids (leaf_of j o i)
    leaf_fits j i o lj li fits have =
        let c = picked o.swizzle i in
        let below = picked_below o.swizzle i in
        if_fits (o.file == 0) _ _ (λ e. let k = fits.register (eqb-true o.file 0 e) in omega (arith, k, below, many)) (λ e0.
        if_fits (o.file == 1) _ _ (λ e. have c below) (λ e1.
        if_fits (o.file == 2) _ _ (λ e. omega (arith, many)) (λ e2.
        if_fits (o.file == 3) _ _ (λ e. three_fits (Component Global) c (λ k. k)) (λ e3.
        if_fits (o.file == 4) _ _ (λ e. three_fits (Component Group) c (λ k. k)) (λ e4.
        if_fits (o.file == 5) _ _ (λ e. three_fits (Component Thread) c (λ k. k)) (λ e5. tt))))))

    abbrev pub MaybeHave : Option Operand → Type 0
    MaybeHave None = Unit {0}
    MaybeHave (Some o) = WordsHave o

    maybe_fits : (j c : ℕ) (q : Option Operand) → j < 4 → c < 4 → MaybeFits (OperandFits ds temps) q → MaybeHave q → LeafFits at Has pool ids (leaf_of_some j q c)
    maybe_fits j c None lj lc fits have = nought_fits
    maybe_fits j c (Some o) lj lc fits have = leaf_fits j c o lj lc fits have

    -- all sources of an instruction
    pub record SourcesFit (i : Instr) : Type 0 where
      pub fits : (j : ℕ) → MaybeFits (OperandFits ds temps) (slice_index_or i.sources j None)
      pub have : (j : ℕ) → MaybeHave (slice_index_or i.sources j None)

    pub source_fits : (i : Instr) (j c : ℕ) → j < 4 → c < 4 → SourcesFit i → LeafFits at Has pool ids (source i j c)
    source_fits i j c lj lc h = maybe_fits j c (slice_index_or i.sources j None) lj lc (h.fits j) (h.have j)

    -- ## Pieces

    pub append_fits : (xs ys : List Piece) → PiecesFit at Has pool ids xs → PiecesFit at Has pool ids ys → PiecesFit at Has pool ids (xs ++ ys)
    append_fits [] ys hx hy = hy
    append_fits (x ∷ xs) ys hx hy = (hx.0, append_fits xs ys hx.1 hy)

    pub only_fits : (b : Bool) (p : Piece) → PieceFits at Has pool ids p → PiecesFit at Has pool ids (only_if b p)
    only_fits true p h = (h, tt)
    only_fits false p h = tt

    pub masked_fits : (m : ℕ) (x y z w : Piece) → PieceFits at Has pool ids x → PieceFits at Has pool ids y → PieceFits at Has pool ids z → PieceFits at Has pool ids w → PiecesFit at Has pool ids (masked m x y z w)
    masked_fits m x y z w hx hy hz hw =
        append_fits (only_if (bit 0 m) x) (only_if (bit 1 m) y ++ (only_if (bit 2 m) z ++ only_if (bit 3 m) w)) (only_fits (bit 0 m) x hx)
        (append_fits (only_if (bit 1 m) y) (only_if (bit 2 m) z ++ only_if (bit 3 m) w) (only_fits (bit 1 m) y hy)
        (append_fits (only_if (bit 2 m) z) (only_if (bit 3 m) w) (only_fits (bit 2 m) z hz) (only_fits (bit 3 m) w hw)))

    computes_fits : (f : Formula) (i : Instr) (c : ℕ) → c < 4 → SourcesFit i → CalculationFits at Has pool ids (computes f i c)
    computes_fits f i c lc h = calculation_fits f (source i 0 c) (source i 1 c) (source i 2 c) (source i 3 c) nought (source_fits i 0 c (omega arith) lc h) (source_fits i 1 c (omega arith) lc h) (source_fits i 2 c (omega arith) lc h) (source_fits i 3 c (omega arith) lc h) nought_fits

    computed_fits : (t : Option Target) (k : ℕ) (f : Formula) (i : Instr) → k < 2 → SourcesFit i → PiecesFit at Has pool ids (computed t k (computes f i))
    computed_fits None k f i lk h = tt
    computed_fits (Some t) k f i lk h =
        let one : (c : ℕ) → c < 4 → PieceFits at Has pool ids (Assign (result k c) (computes f i c)) = λ c lc. ((let z : result k c < at.variables = omega (arith, many) in z), computes_fits f i c lc h) in
        masked_fits t.mask (Assign (result k 0) (computes f i 0)) (Assign (result k 1) (computes f i 1)) (Assign (result k 2) (computes f i 2)) (Assign (result k 3) (computes f i 3)) (one 0 (omega arith)) (one 1 (omega arith)) (one 2 (omega arith)) (one 3 (omega arith))

    -- a destination whose temporary is declared where its mask has a component
    abbrev TargetHas : Option Target → Type 0
    TargetHas None = Unit {0}
    TargetHas (Some t) = (k : ℕ) → bit k t.mask ≡ true → t.index < temps

    only_if_fits : (b : Bool) (p : Piece) → (b ≡ true → PieceFits at Has pool ids p) → PiecesFit at Has pool ids (only_if b p)
    only_if_fits true p h = (h refl, tt)
    only_if_fits false p h = tt

    pub taken_all_fit : (t : Option Target) (g : ℕ → Leaf) → TargetHas t → ((c : ℕ) → c < 4 → LeafFits at Has pool ids (g c)) → PiecesFit at Has pool ids (lower.taken t g)
    taken_all_fit None g has h = tt
    taken_all_fit (Some t) g has h =
        let one : (c : ℕ) → c < 4 → bit c t.mask ≡ true → PieceFits at Has pool ids (Assign (temporary t.index c) (same (g c))) = λ c lc e. let k = has c e in ((let z : temporary t.index c < at.variables = omega (arith, many, k) in z), same_fits (g c) (h c lc)) in
        let at_c : ℕ → List Piece = λ c. only_if (bit c t.mask) (Assign (temporary t.index c) (same (g c))) in
        let fit_c : (c : ℕ) → c < 4 → PiecesFit at Has pool ids (at_c c) = λ c lc. only_if_fits (bit c t.mask) (Assign (temporary t.index c) (same (g c))) (one c lc) in
        append_fits (at_c 0) (at_c 1 ++ (at_c 2 ++ at_c 3)) (fit_c 0 (omega arith))
        (append_fits (at_c 1) (at_c 2 ++ at_c 3) (fit_c 1 (omega arith)) (append_fits (at_c 2) (at_c 3) (fit_c 2 (omega arith)) (fit_c 3 (omega arith))))

    pub plain_fits : (i : Instr) → TargetHas i.first → TargetHas i.second → SourcesFit i → PiecesFit at Has pool ids (plain_pieces i)
    plain_fits i has1 has2 h =
        let c1 = computed i.first 0 (computes (first_formula i.opcode) i) in
        let c2 = computed i.second 1 (computes (second_formula i.opcode) i) in
        let t1 = lower.taken i.first (λ c. Variable (result 0 c)) in
        let t2 = lower.taken i.second (λ c. Variable (result 1 c)) in
        append_fits c1 (c2 ++ (t1 ++ t2)) (computed_fits i.first 0 (first_formula i.opcode) i (omega arith) h)
        (append_fits c2 (t1 ++ t2) (computed_fits i.second 1 (second_formula i.opcode) i (omega arith) h)
        (append_fits t1 t2 (taken_all_fit i.first (λ c. Variable (result 0 c)) has1 (λ c lc. omega (arith, many)))
        (taken_all_fit i.second (λ c. Variable (result 1 c)) has2 (λ c lc. omega (arith, many)))))
