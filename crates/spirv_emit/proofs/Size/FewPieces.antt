-- How many pieces an instruction and a test have.
use Rattle.std.proofs.Common.{ℕ, ◌+◌, ◌≤◌, Bool, true, false, if◌then◌else◌, List, ◌++◌, length, Option, Some, None, arith, length-append}
use Rattle.std.specs.Prelude.{◌==◌, ◌&&◌, slice_index_or}
use Rattle.shader_model.specs.declared.tree.Declared.{Declared}
use Rattle.shader_model.specs.declared.tree.Target.{Target}
use Rattle.shader_model.specs.declared.tree.Operand.{Operand}
use Rattle.shader_model.specs.declared.tree.SlotUse.{SlotUse}
use Rattle.shader_model.specs.declared.tree.Instr.{Instr}
use Rattle.shader_model.specs.declared.tree.Test.{Test}
use Rattle.shader_model.specs.Words.{bit}
use Rattle.shader_model.specs.Fields.{used_as}
use Rattle.spirv_emit.specs.declared.piece.Leaf.{Leaf}
use Rattle.spirv_emit.specs.declared.piece.Leaf.TheVariants.{Variable}
use Rattle.spirv_emit.specs.declared.piece.Calculation.{Calculation}
use Rattle.spirv_emit.specs.declared.piece.Action.{Action}
use Rattle.spirv_emit.specs.declared.piece.Action.TheVariants.{Write, Change, Swap}
use Rattle.spirv_emit.specs.declared.piece.Piece.{Piece}
use Rattle.spirv_emit.specs.declared.piece.Spot.{Spot}
use Rattle.spirv_emit.specs.Opcodes.{first_formula, second_formula, atomic_of}
use Rattle.spirv_emit.specs.Lower as lower
use Rattle.spirv_emit.specs.Lower.{source, fetches, all_fetches, result, only_if, each_masked, computes, computed, assigned, plain_pieces, may_reach, reach, load_piece, loads, store_piece, stores, atomics, spot, memory_pieces, slot_pieces, done_pieces, instr_pieces, test_pieces, temporary, same, nought}

either_few : (k : ℕ) (b : Bool) (xs ys : List Piece) → length xs ≤ k → length ys ≤ k → length (if b then xs else ys) ≤ k
either_few k true xs ys hx hy = hx
either_few k false xs ys hx hy = hy

only_few : (b : Bool) (p : Piece) → length (only_if b p) ≤ 1
only_few true p = omega arith
only_few false p = omega arith

masked_few : (m : ℕ) (f : ℕ → Piece) → length (each_masked m f) ≤ 4
masked_few m f =
    let a = only_if (bit 0 m) (f 0) in
    let b = only_if (bit 1 m) (f 1) in
    let c = only_if (bit 2 m) (f 2) in
    let d = only_if (bit 3 m) (f 3) in
    let la = only_few (bit 0 m) (f 0) in
    let lb = only_few (bit 1 m) (f 1) in
    let lc = only_few (bit 2 m) (f 2) in
    let ld = only_few (bit 3 m) (f 3) in
    let ea = length-append a (b ++ (c ++ d)) in
    let eb = length-append b (c ++ d) in
    let ec = length-append c d in
    omega (arith, la, lb, lc, ld, ea, eb, ec)

fetches_few : (j : ℕ) (q : Option Operand) → length (fetches j q) ≤ 4
fetches_few j None = omega arith
fetches_few j (Some o) = either_few 4 (o.file == 2) _ _ (omega arith) (omega arith)

all_fetches_few : (i : Instr) → length (all_fetches i) ≤ 16
all_fetches_few i =
    let a = fetches 0 (slice_index_or i.sources 0 None) in
    let b = fetches 1 (slice_index_or i.sources 1 None) in
    let c = fetches 2 (slice_index_or i.sources 2 None) in
    let d = fetches 3 (slice_index_or i.sources 3 None) in
    four a b c d (fetches_few 0 (slice_index_or i.sources 0 None)) (fetches_few 1 (slice_index_or i.sources 1 None)) (fetches_few 2 (slice_index_or i.sources 2 None)) (fetches_few 3 (slice_index_or i.sources 3 None))
  where
    four : (a b c d : List Piece) → length a ≤ 4 → length b ≤ 4 → length c ≤ 4 → length d ≤ 4 → length (a ++ (b ++ (c ++ d))) ≤ 16
    four a b c d la lb lc ld =
        let ea = length-append a (b ++ (c ++ d)) in
        let eb = length-append b (c ++ d) in
        let ec = length-append c d in
        omega (arith, la, lb, lc, ld, ea, eb, ec)

sum_few : (j k : ℕ) (a b : List Piece) → length a ≤ j → length b ≤ k → length (a ++ b) ≤ j + k
sum_few j k a b la lb = let e = length-append a b in omega (arith, la, lb, e)

computed_few : (t : Option Target) (k : ℕ) (f : ℕ → Calculation) → length (computed t k f) ≤ 4
computed_few None k f = omega arith
computed_few (Some t) k f = masked_few t.mask (assigned (result k) f)

taken_few : (t : Option Target) (f : ℕ → Leaf) → length (lower.taken t f) ≤ 4
taken_few None f = omega arith
taken_few (Some t) f = masked_few t.mask (assigned (temporary t.index) (λ c. same (f c)))

plain_few : (i : Instr) → length (plain_pieces i) ≤ 16
plain_few i =
    let c1 = computed i.first 0 (computes (first_formula i.opcode) i) in
    let c2 = computed i.second 1 (computes (second_formula i.opcode) i) in
    let t1 = lower.taken i.first (λ c. Variable (result 0 c)) in
    let t2 = lower.taken i.second (λ c. Variable (result 1 c)) in
    sum_few 4 12 c1 (c2 ++ (t1 ++ t2)) (computed_few i.first 0 (computes (first_formula i.opcode) i))
    (sum_few 4 8 c2 (t1 ++ t2) (computed_few i.second 1 (computes (second_formula i.opcode) i))
    (sum_few 4 4 t1 t2 (taken_few i.first (λ c. Variable (result 0 c))) (taken_few i.second (λ c. Variable (result 1 c)))))

loads_few : (s : Spot) (t : Option Target) → length (loads s t) ≤ 8
loads_few s None = omega arith
loads_few s (Some t) = sum_few 4 4 (each_masked t.mask (load_piece s)) (lower.taken (Some t) (λ c. Variable (result 0 c))) (masked_few t.mask (load_piece s)) (taken_few (Some t) (λ c. Variable (result 0 c)))

stores_few : (s : Spot) (m : ℕ) (f : ℕ → Leaf) → length (stores s m f) ≤ 8
stores_few s m f =
    let at_c : ℕ → List Piece = λ c. store_piece s (f c) m c in
    let few_c : (c : ℕ) → length (at_c c) ≤ 1 = λ c. only_few (bit c m && may_reach s.form s.parameter c) (reach s c (Write (f c))) in
    sum_few 1 7 (at_c 0) (at_c 1 ++ (at_c 2 ++ at_c 3)) (few_c 0)
    (sum_few 1 6 (at_c 1) (at_c 2 ++ at_c 3) (few_c 1) (let h = sum_few 1 1 (at_c 2) (at_c 3) (few_c 2) (few_c 3) in omega (arith, h)))

atomics_few : (s : Spot) (t : Option Target) (a : Action) → length (atomics s t a) ≤ 8
atomics_few s t a = let h = taken_few t (λ c. Variable (result 0 0)) in omega (arith, h)

memory_few : (u : SlotUse) (d : Declared) (i : Instr) → length (memory_pieces u d i) ≤ 8
memory_few u d i =
    let a = source i 0 0 in
    let o = source i 1 0 in
    let one = spot u d a nought in
    let two = spot u d a o in
    either_few 8 (i.opcode == 48) (loads one i.first) _ (loads_few one i.first)
    (either_few 8 (i.opcode == 49) (stores one i.extra (source i 1)) _ (stores_few one i.extra (source i 1))
    (either_few 8 (i.opcode == 50) (loads two i.first) _ (loads_few two i.first)
    (either_few 8 (i.opcode == 51) (stores two i.extra (source i 2)) _ (stores_few two i.extra (source i 2))
    (either_few 8 (i.opcode == 52) (loads one i.first) _ (loads_few one i.first)
    (either_few 8 (i.opcode == 53) (stores one i.extra (source i 1)) _ (stores_few one i.extra (source i 1))
    (either_few 8 (i.opcode == 65) (atomics two i.first (Swap (source i 3 0) (source i 2 0) (result 0 0))) (atomics two i.first (Change (atomic_of i.opcode) (source i 2 0) (result 0 0)))
    (atomics_few two i.first (Swap (source i 3 0) (source i 2 0) (result 0 0)))
    (atomics_few two i.first (Change (atomic_of i.opcode) (source i 2 0) (result 0 0)))))))))

slot_few : (i : Instr) (u : SlotUse) (q : Option Declared) → length (slot_pieces i u q) ≤ 16
slot_few i u None = omega arith
slot_few i u (Some d) = let h = memory_few u d i in omega (arith, h)

done_few : (ds : List Declared) (i : Instr) (q : Option SlotUse) → length (done_pieces ds i q) ≤ 16
done_few ds i None = plain_few i
done_few ds i (Some u) = slot_few i u (used_as u ds)

pub instr_few : (ds : List Declared) (i : Instr) → length (instr_pieces ds i) ≤ 32
instr_few ds i = sum_few 16 16 (all_fetches i) (done_pieces ds i i.slot) (all_fetches_few i) (done_few ds i i.slot)

pub test_few : (t : Test) → length (test_pieces t) ≤ 4
test_few t = fetches_few 0 (Some t.value)
