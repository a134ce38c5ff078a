-- What the pieces of instructions and tests name is there, and is of the right types.
use Rattle.std.proofs.Common.{◌≡◌, ℕ, ◌+◌, ◌*◌, ◌/◌, ◌<◌, Bool, true, false, if◌then◌else◌, List, [], ◌∷◌, ◌++◌, Option, Some, None, refl, arith}
use Rattle.std.specs.Prelude.{◌==◌, ◌&&◌, nat_lt, slice_index, slice_index_or}
use Rattle.std.proofs.lemmas.Bool.{eqb-true}
use Rattle.dx_types.specs.declared.shape.Form.{Form}
use Rattle.dx_types.specs.declared.shape.Form.TheVariants.{Raw, Structured, Typed}
use Rattle.shader_model.specs.declared.ids.Ids.{Ids}
use Rattle.shader_model.specs.declared.tree.Declared.{Declared}
use Rattle.shader_model.specs.declared.tree.Target.{Target}
use Rattle.shader_model.specs.declared.tree.Operand.{Operand}
use Rattle.shader_model.specs.declared.tree.SlotUse.{SlotUse}
use Rattle.shader_model.specs.declared.tree.Instr.{Instr}
use Rattle.shader_model.specs.declared.tree.Test.{Test}
use Rattle.shader_model.specs.Words.{bit, picked, index_in, swizzle_in}
use Rattle.shader_model.specs.Fields.{used_as}
use Rattle.shader_model.specs.Good.{MaybeFits, OperandFits}
use Rattle.spirv_emit.specs.declared.formula.Formula.{Formula}
use Rattle.spirv_emit.specs.declared.formula.Formula.TheVariants as formula
use Rattle.spirv_emit.specs.declared.piece.Leaf.{Leaf}
use Rattle.spirv_emit.specs.declared.piece.Leaf.TheVariants.{Number, Variable, Length}
use Rattle.spirv_emit.specs.declared.piece.Calculation.{Calculation}
use Rattle.spirv_emit.specs.declared.piece.Action.{Action}
use Rattle.spirv_emit.specs.declared.piece.Action.TheVariants.{Fetch, Write, Change, Swap}
use Rattle.spirv_emit.specs.declared.piece.Piece.{Piece}
use Rattle.spirv_emit.specs.declared.piece.Piece.TheVariants.{Assign}
use Rattle.spirv_emit.specs.declared.piece.Spot.{Spot}
use Rattle.spirv_emit.specs.Layout.{Layout, bindings, word_type, truth_type}
use Rattle.spirv_emit.specs.Numbers.{has, own_numbers}
use Rattle.spirv_emit.specs.Opcodes.{first_formula, second_formula, atomic_of}
use Rattle.spirv_emit.specs.Lower as lower
use Rattle.spirv_emit.specs.Lower.{nought, calculation, same, leaf_of, source, relative, fetched, fetch, fetches, all_fetches, result, temporary, only_if, each_masked, computes, computed, plain_pieces, may_reach, inside_by, place_by, reach, missing, load_piece, loads, store_piece, stores, atomics, spot, memory_pieces, slot_pieces, done_pieces, instr_pieces}
use Rattle.spirv_emit.proofs.Meaning.HeldFrames.{Pool, LeafFits}
use Rattle.spirv_emit.proofs.Lowering.NamesInRange.{calculation_fits, WordsHave, MaybeHave, SourcesFit, leaf_fits, source_fits}
use Rattle.spirv_emit.proofs.Profile.StepTypes.{gives}
use Rattle.spirv_emit.proofs.Profile.ChoicesPass.{Proper, ProperAction, ProperPiece, ProperPieces}
use Rattle.spirv_emit.proofs.Profile.BlocksPass.{ProperTest}

-- ## The formulas of instructions give words

abbrev GivesWord : Formula → Type 0
GivesWord f = gives f word_type ≡ true

either_word : (b : Bool) (f g : Formula) → GivesWord f → GivesWord g → GivesWord (if b then f else g)
either_word true f g hf hg = hf
either_word false f g hf hg = hg

first_word : (k : ℕ) → GivesWord (first_formula k)
first_word k =
    either_word (k == 16) formula.Same _ refl (either_word (k == 17) formula.Pick _ refl (either_word (k == 18) formula.Sum _ refl
    (either_word (k == 19) formula.Negative _ refl (either_word (k == 20) formula.ProductAndSum _ refl (either_word (k == 21) formula.SignedHigh _ refl
    (either_word (k == 22) formula.UnsignedHigh _ refl (either_word (k == 23) formula.Quotient _ refl (either_word (k == 24) formula.SignedMin _ refl
    (either_word (k == 25) formula.SignedMax _ refl (either_word (k == 26) formula.UnsignedMin _ refl (either_word (k == 27) formula.UnsignedMax _ refl
    (either_word (k == 28) formula.BitAnd _ refl (either_word (k == 29) formula.BitOr _ refl (either_word (k == 30) formula.BitXor _ refl
    (either_word (k == 31) formula.Complement _ refl (either_word (k == 32) formula.ShiftLeft _ refl (either_word (k == 33) formula.SignedShiftRight _ refl
    (either_word (k == 34) formula.ShiftRight _ refl (either_word (k == 35) formula.Equal _ refl (either_word (k == 36) formula.NotEqual _ refl
    (either_word (k == 37) formula.SignedGreaterEqual _ refl (either_word (k == 38) formula.SignedLess _ refl (either_word (k == 39) formula.GreaterEqual _ refl
    (either_word (k == 40) formula.Less _ refl (either_word (k == 41) formula.Field _ refl (either_word (k == 42) formula.SignedField _ refl
    (either_word (k == 43) formula.Inserted _ refl (either_word (k == 44) formula.BitReverse _ refl (either_word (k == 45) formula.BitCount formula.Same refl refl)))))))))))))))))))))))))))))

second_word : (k : ℕ) → GivesWord (second_formula k)
second_word k = either_word (k == 23) formula.Remainder formula.ProductLow refl refl

test_truth : (b : Bool) → gives (if b then formula.IsNonzero else formula.IsZero) truth_type ≡ true
test_truth true = refl
test_truth false = refl

module _ (at : Layout) (Has : ℕ → Type 0) (pool : Pool at Has) (ids : Ids) (own : (v : ℕ) → has own_numbers v ≡ true → Has v) (ds : List Declared) (temps : ℕ) (many : at.variables ≡ 25 + 4 * temps) where
  abbrev FitsLeaf : Leaf → Type 0
  FitsLeaf l = LeafFits at Has pool ids l

  abbrev FitsCalculation : Calculation → ℕ → Type 0
  FitsCalculation c t = Proper at Has pool ids c t

  abbrev FitsPiece : Piece → Type 0
  FitsPiece p = ProperPiece at Has pool ids p

  abbrev FitPieces : List Piece → Type 0
  FitPieces ps = ProperPieces at Has pool ids ps

  zero_has : Has 0
  zero_has = own 0 refl

  proper_of : (f : Formula) (t : ℕ) (a b c d e : Leaf) → gives f t ≡ true → FitsLeaf a → FitsLeaf b → FitsLeaf c → FitsLeaf d → FitsLeaf e → FitsCalculation (calculation f a b c d e) t
  proper_of f t a b c d e g fa fb fc fd fe = (calculation_fits at Has pool ids own f a b c d e fa fb fc fd fe, g)

  same_proper : (a : Leaf) → FitsLeaf a → FitsCalculation (same a) word_type
  same_proper a fa = proper_of formula.Same word_type a nought nought nought nought refl fa zero_has zero_has zero_has zero_has

  either_piece : (b : Bool) (x y : Piece) → (b ≡ true → FitsPiece x) → (b ≡ false → FitsPiece y) → FitsPiece (if b then x else y)
  either_piece true x y hx hy = hx refl
  either_piece false x y hx hy = hy refl

  either_pieces : (b : Bool) (xs ys : List Piece) → (b ≡ true → FitPieces xs) → FitPieces ys → FitPieces (if b then xs else ys)
  either_pieces true xs ys hx hy = hx refl
  either_pieces false xs ys hx hy = hy

  both_pieces : (xs ys : List Piece) → FitPieces xs → FitPieces ys → FitPieces (xs ++ ys)
  both_pieces [] ys hx hy = hy
  both_pieces (x ∷ xs) ys hx hy = (hx.0, both_pieces xs ys hx.1 hy)

  only_pieces : (b : Bool) (p : Piece) → (b ≡ true → FitsPiece p) → FitPieces (only_if b p)
  only_pieces true p h = (h refl, tt)
  only_pieces false p h = tt

  masked_pieces : (m : ℕ) (f : ℕ → Piece) → ((c : ℕ) → c < 4 → bit c m ≡ true → FitsPiece (f c)) → FitPieces (each_masked m f)
  masked_pieces m f h =
      let at_c : ℕ → List Piece = λ c. only_if (bit c m) (f c) in
      let all_c : (c : ℕ) → c < 4 → FitPieces (at_c c) = λ c lc. only_pieces (bit c m) (f c) (h c lc) in
      both_pieces (at_c 0) (at_c 1 ++ (at_c 2 ++ at_c 3)) (all_c 0 (omega arith)) (both_pieces (at_c 1) (at_c 2 ++ at_c 3) (all_c 1 (omega arith)) (both_pieces (at_c 2) (at_c 3) (all_c 2 (omega arith)) (all_c 3 (omega arith))))

  -- ## What is fetched

  -- a constant buffer that there is
  abbrev pub Placed : Operand → Type 0
  Placed o = o.file ≡ 2 → o.index < 14

  abbrev pub MaybePlaced : Option Operand → Type 0
  MaybePlaced None = Unit {0}
  MaybePlaced (Some o) = Placed o

  picked_below : (swizzle c : ℕ) → picked swizzle c < 4
  picked_below swizzle c = omega arith

  fetch_proper : (j i : ℕ) (o : Operand) → j < 4 → i < 4 → OperandFits ds temps o → WordsHave at Has pool ids own ds temps many o → o.index < 14 → FitsPiece (fetch j o i)
  fetch_proper j i o lj li fits have lt =
      let base = have 0 (omega arith) in
      let below = picked_below o.swizzle i in
      let place = pool.bindings_have (picked o.swizzle i) (omega (arith, below)) in
      let here : o.index < bindings = omega (arith, lt) in
      let x : fetched j i < at.variables = omega (arith, many) in
      let c = Number (picked o.swizzle i) in
      let w = Number (slice_index o.words 0) in
      either_piece o.flag _ _
      (λ e.
      let r = fits.relative e in
      let q = picked_below (swizzle_in (slice_index o.words 1)) 0 in
      let y : temporary (index_in (slice_index o.words 1)) (picked (swizzle_in (slice_index o.words 1)) 0) < at.variables = omega (arith, r, q, many) in (
        proper_of formula.RelativeInside truth_type w (relative o) (Length o.index) nought nought refl base y here zero_has zero_has,
        here,
        proper_of formula.RelativePlace word_type w (relative o) c nought nought refl base y place zero_has zero_has,
        x,
      ))
      (λ e. (
        proper_of formula.VectorInside truth_type w (Length o.index) nought nought nought refl base here zero_has zero_has zero_has,
        here,
        proper_of formula.VectorPlace word_type w c nought nought nought refl base place zero_has zero_has zero_has,
        x,
      ))

  fetches_proper : (j : ℕ) (q : Option Operand) → j < 4 → MaybeFits (OperandFits ds temps) q → MaybeHave at Has pool ids own ds temps many q → MaybePlaced q → FitPieces (fetches j q)
  fetches_proper j None lj fits have place = tt
  fetches_proper j (Some o) lj fits have place =
      either_pieces (o.file == 2) _ _
      (λ e.
      let lt = place (eqb-true o.file 2 e) in
      let one : (i : ℕ) → i < 4 → FitsPiece (fetch j o i) = λ i li. fetch_proper j i o lj li fits have lt in
      (one 0 (omega arith), (one 1 (omega arith), (one 2 (omega arith), (one 3 (omega arith), tt))))) tt

  abbrev AllPlaced : Instr → Type 0
  AllPlaced i = (j : ℕ) → MaybePlaced (slice_index_or i.sources j None)

  all_fetches_proper : (i : Instr) → SourcesFit at Has pool ids own ds temps many i → AllPlaced i → FitPieces (all_fetches i)
  all_fetches_proper i h placed =
      let q : ℕ → Option Operand = λ j. slice_index_or i.sources j None in
      let one : (j : ℕ) → j < 4 → FitPieces (fetches j (slice_index_or i.sources j None)) = λ j lj. fetches_proper j (slice_index_or i.sources j None) lj (h.fits j) (h.have j) (placed j) in
      both_pieces (fetches 0 (q 0)) (fetches 1 (q 1) ++ (fetches 2 (q 2) ++ fetches 3 (q 3))) (one 0 (omega arith))
      (both_pieces (fetches 1 (q 1)) (fetches 2 (q 2) ++ fetches 3 (q 3)) (one 1 (omega arith))
      (both_pieces (fetches 2 (q 2)) (fetches 3 (q 3)) (one 2 (omega arith)) (one 3 (omega arith))))

  -- ## What is computed

  abbrev pub TargetPlaced : Option Target → Type 0
  TargetPlaced None = Unit {0}
  TargetPlaced (Some t) = (k : ℕ) → bit k t.mask ≡ true → t.index < temps

  computed_proper : (t : Option Target) (k : ℕ) (f : Formula) (i : Instr) → k < 2 → GivesWord f → SourcesFit at Has pool ids own ds temps many i → FitPieces (computed t k (computes f i))
  computed_proper None k f i lk g h = tt
  computed_proper (Some t) k f i lk g h =
      let there : (j c : ℕ) → j < 4 → c < 4 → FitsLeaf (source i j c) = λ j c lj lc. source_fits at Has pool ids own ds temps many i j c lj lc h in
      masked_pieces t.mask (λ c. Assign (result k c) (computes f i c))
      (λ c lc b. (
        (let z : result k c < at.variables = omega (arith, many) in z),
        proper_of f word_type (source i 0 c) (source i 1 c) (source i 2 c) (source i 3 c) nought g (there 0 c (omega arith) lc) (there 1 c (omega arith) lc) (there 2 c (omega arith) lc) (there 3 c (omega arith) lc) zero_has,
      ))

  taken_proper : (t : Option Target) (g : ℕ → Leaf) → TargetPlaced t → ((c : ℕ) → c < 4 → FitsLeaf (g c)) → FitPieces (lower.taken t g)
  taken_proper None g placed h = tt
  taken_proper (Some t) g placed h =
      masked_pieces t.mask (λ c. Assign (temporary t.index c) (same (g c)))
      (λ c lc b. let k = placed c b in ((let z : temporary t.index c < at.variables = omega (arith, many, k) in z), same_proper (g c) (h c lc)))

  plain_proper : (i : Instr) → TargetPlaced i.first → TargetPlaced i.second → SourcesFit at Has pool ids own ds temps many i → FitPieces (plain_pieces i)
  plain_proper i p1 p2 h =
      let c1 = computed i.first 0 (computes (first_formula i.opcode) i) in
      let c2 = computed i.second 1 (computes (second_formula i.opcode) i) in
      let t1 = lower.taken i.first (λ c. Variable (result 0 c)) in
      let t2 = lower.taken i.second (λ c. Variable (result 1 c)) in
      both_pieces c1 (c2 ++ (t1 ++ t2)) (computed_proper i.first 0 (first_formula i.opcode) i (omega arith) (first_word i.opcode) h)
      (both_pieces c2 (t1 ++ t2) (computed_proper i.second 1 (second_formula i.opcode) i (omega arith) (second_word i.opcode) h)
      (both_pieces t1 t2 (taken_proper i.first (λ c. Variable (result 0 c)) p1 (λ c lc. omega (arith, many)))
      (taken_proper i.second (λ c. Variable (result 1 c)) p2 (λ c lc. omega (arith, many)))))

  -- ## Words of views

  pub record SpotPlaced (s : Spot) : Type 0 where
    pub binding : s.binding < bindings
    pub parameter : Has s.parameter
    pub quarter : Has (s.parameter / 4)
    pub address : FitsLeaf s.address
    pub offset : FitsLeaf s.offset

  module _ (s : Spot) (placed : SpotPlaced s) where
    small_has : (c : ℕ) → c < 4 → Has c
    small_has c lc = pool.bindings_have c (omega (arith, lc))

    inside_proper : (form : Form) (c : ℕ) → c < 4 → FitsCalculation (inside_by form s c) truth_type
    inside_proper Raw c lc = proper_of formula.RawInside truth_type s.address (Number c) (Length s.binding) nought nought refl placed.address (small_has c lc) placed.binding zero_has zero_has
    inside_proper Structured c lc = proper_of formula.StructuredInside truth_type s.address s.offset (Number c) (Number (s.parameter / 4)) (Length s.binding) refl placed.address placed.offset (small_has c lc) placed.quarter placed.binding
    inside_proper Typed c lc = proper_of formula.TypedInside truth_type s.address (Number s.parameter) (Length s.binding) nought nought refl placed.address placed.parameter placed.binding zero_has zero_has

    place_proper : (form : Form) (c : ℕ) → c < 4 → FitsCalculation (place_by form s c) word_type
    place_proper Raw c lc = proper_of formula.RawPlace word_type s.address (Number c) nought nought nought refl placed.address (small_has c lc) zero_has zero_has zero_has
    place_proper Structured c lc = proper_of formula.StructuredPlace word_type s.address s.offset (Number c) (Number (s.parameter / 4)) nought refl placed.address placed.offset (small_has c lc) placed.quarter zero_has
    place_proper Typed c lc = proper_of formula.TypedPlace word_type s.address (Number s.parameter) (Number c) nought nought refl placed.address placed.parameter (small_has c lc) zero_has zero_has

    reach_proper : (c : ℕ) (a : Action) → c < 4 → ProperAction at Has pool ids a → FitsPiece (reach s c a)
    reach_proper c a lc ha = (inside_proper s.form c lc, placed.binding, place_proper s.form c lc, ha)

    either_proper : (b : Bool) (x y : Calculation) → FitsCalculation x word_type → FitsCalculation y word_type → FitsCalculation (if b then x else y) word_type
    either_proper true x y hx hy = hx
    either_proper false x y hx hy = hy

    missing_proper : (form : Form) (c : ℕ) → FitsCalculation (missing form s c) word_type
    missing_proper Raw c = same_proper nought zero_has
    missing_proper Structured c = same_proper nought zero_has
    missing_proper Typed c = either_proper (nat_lt 0 s.parameter && (c == 3)) _ _ (proper_of formula.TypedOne word_type s.address (Number s.parameter) (Length s.binding) nought nought refl placed.address placed.parameter placed.binding zero_has zero_has) (same_proper nought zero_has)

    result_below : (k c : ℕ) → k < 2 → c < 4 → result k c < at.variables
    result_below k c lk lc = omega (arith, many)

    load_proper : (c : ℕ) → c < 4 → FitsPiece (load_piece s c)
    load_proper c lc =
        either_piece (may_reach s.form s.parameter c) _ _ (λ e. reach_proper c (Fetch (result 0 c)) lc (result_below 0 c (omega arith) lc)) (λ e. (result_below 0 c (omega arith) lc, missing_proper s.form c))

    loads_proper : (t : Option Target) → TargetPlaced t → FitPieces (loads s t)
    loads_proper None ht = tt
    loads_proper (Some t) ht =
        both_pieces (each_masked t.mask (load_piece s)) (lower.taken (Some t) (λ c. Variable (result 0 c)))
        (masked_pieces t.mask (load_piece s) (λ c lc b. load_proper c lc))
        (taken_proper (Some t) (λ c. Variable (result 0 c)) ht (λ c lc. result_below 0 c (omega arith) lc))

    store_proper : (v : Leaf) (m c : ℕ) → c < 4 → FitsLeaf v → FitPieces (store_piece s v m c)
    store_proper v m c lc hv = only_pieces (bit c m && may_reach s.form s.parameter c) (reach s c (Write v)) (λ e. reach_proper c (Write v) lc hv)

    stores_proper : (m : ℕ) (value : ℕ → Leaf) → ((c : ℕ) → c < 4 → FitsLeaf (value c)) → FitPieces (stores s m value)
    stores_proper m value hv =
        let at_c : ℕ → List Piece = λ c. store_piece s (value c) m c in
        let all_c : (c : ℕ) → c < 4 → FitPieces (at_c c) = λ c lc. store_proper (value c) m c lc (hv c lc) in
        both_pieces (at_c 0) (at_c 1 ++ (at_c 2 ++ at_c 3)) (all_c 0 (omega arith)) (both_pieces (at_c 1) (at_c 2 ++ at_c 3) (all_c 1 (omega arith)) (both_pieces (at_c 2) (at_c 3) (all_c 2 (omega arith)) (all_c 3 (omega arith))))

    atomics_proper : (t : Option Target) (a : Action) → TargetPlaced t → ProperAction at Has pool ids a → FitPieces (atomics s t a)
    atomics_proper t a ht ha = (
      either_piece (may_reach s.form s.parameter 0) _ _ (λ e. reach_proper 0 a (omega arith) ha) (λ e. (result_below 0 0 (omega arith) (omega arith), same_proper nought zero_has)),
      taken_proper t (λ c. Variable (result 0 0)) ht (λ c lc. result_below 0 0 (omega arith) (omega arith)),
    )

  -- a slot's declaration
  pub record SlotPlaced (u : SlotUse) (d : Declared) : Type 0 where
    pub binding : lower.binding_of u < bindings
    pub parameter : Has d.parameter
    pub quarter : Has (d.parameter / 4)

  spot_placed : (u : SlotUse) (d : Declared) (a o : Leaf) → SlotPlaced u d → FitsLeaf a → FitsLeaf o → SpotPlaced (spot u d a o)
  spot_placed u d a o h ha ho = record { binding = h.binding; parameter = h.parameter; quarter = h.quarter; address = ha; offset = ho }

  memory_proper : (u : SlotUse) (d : Declared) (i : Instr) → SlotPlaced u d → TargetPlaced i.first → SourcesFit at Has pool ids own ds temps many i → FitPieces (memory_pieces u d i)
  memory_proper u d i h ht hs =
      let there : (j c : ℕ) → j < 4 → c < 4 → FitsLeaf (source i j c) = λ j c lj lc. source_fits at Has pool ids own ds temps many i j c lj lc hs in
      let a = source i 0 0 in
      let o = source i 1 0 in
      let fa = there 0 0 (omega arith) (omega arith) in
      let fo = there 1 0 (omega arith) (omega arith) in
      let one = spot u d a nought in
      let h1 = spot_placed u d a nought h fa zero_has in
      let two = spot u d a o in
      let h2 = spot_placed u d a o h fa fo in
      let old : result 0 0 < at.variables = omega (arith, many) in
      either_pieces (i.opcode == 48) (loads one i.first) _ (λ e. loads_proper one h1 i.first ht)
      (either_pieces (i.opcode == 49) (stores one i.extra (source i 1)) _ (λ e. stores_proper one h1 i.extra (source i 1) (λ c lc. there 1 c (omega arith) lc))
      (either_pieces (i.opcode == 50) (loads two i.first) _ (λ e. loads_proper two h2 i.first ht)
      (either_pieces (i.opcode == 51) (stores two i.extra (source i 2)) _ (λ e. stores_proper two h2 i.extra (source i 2) (λ c lc. there 2 c (omega arith) lc))
      (either_pieces (i.opcode == 52) (loads one i.first) _ (λ e. loads_proper one h1 i.first ht)
      (either_pieces (i.opcode == 53) (stores one i.extra (source i 1)) _ (λ e. stores_proper one h1 i.extra (source i 1) (λ c lc. there 1 c (omega arith) lc))
      (either_pieces (i.opcode == 65) (atomics two i.first (Swap (source i 3 0) (source i 2 0) (result 0 0))) (atomics two i.first (Change (atomic_of i.opcode) (source i 2 0) (result 0 0)))
      (λ e. atomics_proper two h2 i.first (Swap (source i 3 0) (source i 2 0) (result 0 0)) ht (there 3 0 (omega arith) (omega arith), there 2 0 (omega arith) (omega arith), old))
      (atomics_proper two h2 i.first (Change (atomic_of i.opcode) (source i 2 0) (result 0 0)) ht (there 2 0 (omega arith) (omega arith), old))))))))

  slot_proper : (i : Instr) (u : SlotUse) (q : Option Declared) → ((d : Declared) → q ≡ Some d → SlotPlaced u d) → TargetPlaced i.first → SourcesFit at Has pool ids own ds temps many i → FitPieces (slot_pieces i u q)
  slot_proper i u None h ht hs = tt
  slot_proper i u (Some d) h ht hs = memory_proper u d i (h d refl) ht hs

  abbrev pub MaybeSlotPlaced : Option SlotUse → Type 0
  MaybeSlotPlaced None = Unit {0}
  MaybeSlotPlaced (Some u) = (d : Declared) → used_as u ds ≡ Some d → SlotPlaced u d

  -- what an instruction names is there
  pub record InstrPlaced (i : Instr) : Type 0 where
    pub first : TargetPlaced i.first
    pub second : TargetPlaced i.second
    pub sources : SourcesFit at Has pool ids own ds temps many i
    pub placed : AllPlaced i
    pub slot : MaybeSlotPlaced i.slot

  done_proper : (i : Instr) (q : Option SlotUse) → InstrPlaced i → MaybeSlotPlaced q → FitPieces (done_pieces ds i q)
  done_proper i None h hq = plain_proper i h.first h.second h.sources
  done_proper i (Some u) h hq = slot_proper i u (used_as u ds) hq h.first h.sources

  pub instr_proper : (i : Instr) → InstrPlaced i → FitPieces (instr_pieces ds i)
  instr_proper i h = both_pieces (all_fetches i) (done_pieces ds i i.slot) (all_fetches_proper i h.sources h.placed) (done_proper i i.slot h h.slot)

  pub test_proper : (t : Test) → OperandFits ds temps t.value → WordsHave at Has pool ids own ds temps many t.value → Placed t.value → ProperTest at Has pool ids ds t
  test_proper t fits have placed = (
    fetches_proper 0 (Some t.value) (omega arith) fits have placed,
    proper_of (if t.nonzero then formula.IsNonzero else formula.IsZero) truth_type (leaf_of 0 t.value 0) nought nought nought nought (test_truth t.nonzero) (leaf_fits at Has pool ids own ds temps many 0 0 t.value (omega arith) (omega arith) fits have) zero_has zero_has zero_has zero_has,
  )
