-- The pieces of a good shader have few ids, and name small numbers.
use Rattle.std.proofs.Common.{◌≡◌, ◌≢◌, ⊎_elim, ℕ, zero, suc, ◌+◌, ◌*◌, ◌<◌, ◌≤◌, ◌^◌, Bool, true, false, if◌then◌else◌, List, [], ◌∷◌, ◌++◌, length, Option, Some, None, refl, subst, arith}
use Rattle.std.specs.Prelude.{◌==◌, ◌&&◌, ◌/◌, nat_lt, slice_index, slice_index_or, is_some}
use Rattle.std.specs.List.{AllByRecursion}
use Rattle.std.proofs.Math.Dec.{eqb}
use Rattle.std.proofs.lemmas.Bool.{eqb-true, ltb-true}
use Rattle.std.proofs.lemmas.Bool.Decides.{eqb_tells}
use Rattle.dx_types.specs.declared.shape.Form.{Form}
use Rattle.dx_types.specs.declared.shape.Form.TheVariants.{Raw, Structured, Typed}
use Rattle.shader_model.specs.declared.tree.Declared.{Declared}
use Rattle.shader_model.specs.declared.tree.Target.{Target}
use Rattle.shader_model.specs.declared.tree.Operand.{Operand}
use Rattle.shader_model.specs.declared.tree.SlotUse.{SlotUse}
use Rattle.shader_model.specs.declared.tree.Instr.{Instr}
use Rattle.shader_model.specs.declared.tree.Test.{Test}
use Rattle.shader_model.specs.Words.{bit, picked, index_in, swizzle_in}
use Rattle.shader_model.specs.Fields.{declared_among, used_as}
use Rattle.shader_model.specs.Faults.{slots_of}
use Rattle.shader_model.specs.Body.{Body, End, Plain, If, Loop, Break, Continue, Return}
use Rattle.shader_model.specs.Shader.{Program}
use Rattle.shader_model.specs.Good.{IsGood, DeclaredFits, Fits, InstrFits, TargetFits, OperandFits, MaybeFits, TestFits, size}
use Rattle.shader_model.proofs.Declaring.{found_fits}
use Rattle.spirv_emit.specs.declared.formula.Formula.{Formula}
use Rattle.spirv_emit.specs.declared.formula.Formula.TheVariants as formula
use Rattle.spirv_emit.specs.declared.piece.Vector.TheVariants.{Group, Thread, Global}
use Rattle.spirv_emit.specs.declared.piece.Leaf.{Leaf}
use Rattle.spirv_emit.specs.declared.piece.Leaf.TheVariants.{Number, Variable, Length, Component, Flattened}
use Rattle.spirv_emit.specs.declared.piece.Calculation.{Calculation}
use Rattle.spirv_emit.specs.declared.piece.Action.{Action}
use Rattle.spirv_emit.specs.declared.piece.Action.TheVariants.{Fetch, Write, Change, Swap}
use Rattle.spirv_emit.specs.declared.piece.Piece.{Piece}
use Rattle.spirv_emit.specs.declared.piece.Piece.TheVariants.{Assign, Reach}
use Rattle.spirv_emit.specs.declared.piece.Spot.{Spot}
use Rattle.spirv_emit.specs.Steps.{steps_of}
use Rattle.spirv_emit.specs.Opcodes.{first_formula, second_formula, atomic_of}
use Rattle.spirv_emit.specs.Lower as lower
use Rattle.spirv_emit.specs.Lower.{nought, calculation, same, three, leaf_of, leaf_of_some, source, relative, fetched, fetch, fetches, all_fetches, result, temporary, only_if, masked, each_masked, computes, computed, plain_pieces, inside_by, place_by, may_reach, reach, missing, load_piece, loads, store_piece, stores, atomic_piece, atomics, spot, binding_of, memory_pieces, slot_pieces, done_pieces, instr_pieces, test_pieces, test_calculation}
use Rattle.spirv_emit.specs.Code.{leaf_size, calculation_size, action_size, piece_end, pieces_end, inner_start, test_end, body_end}
use Rattle.spirv_emit.proofs.Size.FewSteps.{steps_few, leaf_ids_few}
use Rattle.spirv_emit.specs.Emits.{LeafIsSmall, LeavesAreSmall, ActionIsSmall, PiecesAreSmall, TestIsSmall, MaybeIsSmall, BodyIsSmall, Ready}

-- ## Calculations

record Short (k : Calculation) : Type 0 where
  small : LeavesAreSmall k.leaves
  short : calculation_size k ≤ 24

short_calculation : (f : Formula) (a b c d e : Leaf) → LeafIsSmall a → LeafIsSmall b → LeafIsSmall c → LeafIsSmall d → LeafIsSmall e → Short (calculation f a b c d e)
short_calculation f a b c d e ha hb hc hd he =
    let la = leaf_ids_few a in let lb = leaf_ids_few b in let lc = leaf_ids_few c in let ld = leaf_ids_few d in let le = leaf_ids_few e in
    let s = steps_few f in
    record { small = (ha, (hb, (hc, (hd, (he, tt))))); short = omega (arith, la, lb, lc, ld, le, s) }

short_same : (a : Leaf) → LeafIsSmall a → Short (same a)
short_same a h = short_calculation formula.Same a nought nought nought nought h tt tt tt tt

action_few : (a : Action) → action_size a ≤ 5
action_few (Fetch x) = omega arith
action_few (Write v) = let h = leaf_ids_few v in omega arith
action_few (Change o v x) = let h = leaf_ids_few v in omega arith
action_few (Swap v c x) = let h = leaf_ids_few v in let k = leaf_ids_few c in omega arith

-- ## Pieces

record Fine (k : ℕ) (ps : List Piece) : Type 0 where
  small : PiecesAreSmall ps
  short : (n : ℕ) → pieces_end n ps ≤ n + 64 * k

fine_none : (k : ℕ) → Fine k []
fine_none k = record { small = tt; short = λ n. omega arith }

fine_assign : (x : ℕ) (c : Calculation) → x < 2 ^ 20 → Short c → Fine 1 (Assign x c ∷ [])
fine_assign x c h s = record { small = ((h, s.small), tt); short = λ n. let k = s.short in omega (arith, k) }

fine_reach : (g : Calculation) (b : ℕ) (c : Calculation) (a : Action) → Short g → b < 2 ^ 20 → Short c → ActionIsSmall a → Fine 1 (Reach g b c a ∷ [])
fine_reach g b c a sg hb sc ha = record { small = ((sg.small, hb, sc.small, ha), tt); short = λ n. let k = sg.short in let l = sc.short in let m = action_few a in omega (arith, k, l, m) }

small_append : (xs ys : List Piece) → PiecesAreSmall xs → PiecesAreSmall ys → PiecesAreSmall (xs ++ ys)
small_append [] ys hx hy = hy
small_append (x ∷ xs) ys hx hy = (hx.0, small_append xs ys hx.1 hy)

end_append : (xs ys : List Piece) (n : ℕ) → pieces_end n (xs ++ ys) ≡ pieces_end (pieces_end n xs) ys
end_append [] ys n = refl
end_append (x ∷ xs) ys n = end_append xs ys (piece_end n x)

fine_append : (j k m : ℕ) (xs ys : List Piece) → j + k ≤ m → Fine j xs → Fine k ys → Fine m (xs ++ ys)
fine_append j k m xs ys le p q = record {
  small = small_append xs ys p.small q.small;
  short = λ n. let e = end_append xs ys n in let a = p.short n in let b = q.short (pieces_end n xs) in omega (arith, e, a, b, le);
}

fine_if : (k : ℕ) (b : Bool) (xs ys : List Piece) → (b ≡ true → Fine k xs) → (b ≡ false → Fine k ys) → Fine k (if b then xs else ys)
fine_if k true xs ys h g = h refl
fine_if k false xs ys h g = g refl

fine_one_if : (b : Bool) (p q : Piece) → (b ≡ true → Fine 1 (p ∷ [])) → (b ≡ false → Fine 1 (q ∷ [])) → Fine 1 ((if b then p else q) ∷ [])
fine_one_if true p q h g = h refl
fine_one_if false p q h g = g refl

fine_only : (b : Bool) (p : Piece) → (b ≡ true → Fine 1 (p ∷ [])) → Fine 1 (only_if b p)
fine_only true p h = h refl
fine_only false p h = fine_none 1

fine_four : (a b c d : List Piece) → Fine 1 a → Fine 1 b → Fine 1 c → Fine 1 d → Fine 4 (a ++ (b ++ (c ++ d)))
fine_four a b c d ha hb hc hd = fine_append 1 3 4 a (b ++ (c ++ d)) (omega arith) ha (fine_append 1 2 3 b (c ++ d) (omega arith) hb (fine_append 1 1 2 c d (omega arith) hc hd))

fine_masked : (m : ℕ) (f : ℕ → Piece) → ((c : ℕ) → c < 4 → bit c m ≡ true → Fine 1 (f c ∷ [])) → Fine 4 (each_masked m f)
fine_masked m f h =
    fine_four (only_if (bit 0 m) (f 0)) (only_if (bit 1 m) (f 1)) (only_if (bit 2 m) (f 2)) (only_if (bit 3 m) (f 3))
    (fine_only (bit 0 m) (f 0) (h 0 (omega arith))) (fine_only (bit 1 m) (f 1) (h 1 (omega arith))) (fine_only (bit 2 m) (f 2) (h 2 (omega arith))) (fine_only (bit 3 m) (f 3) (h 3 (omega arith)))

if_small : (b : Bool) (x y : Leaf) → (b ≡ true → LeafIsSmall x) → (b ≡ false → LeafIsSmall y) → LeafIsSmall (if b then x else y)
if_small true x y hx hy = hx refl
if_small false x y hx hy = hy refl

picked_below : (swizzle c : ℕ) → picked swizzle c < 4
picked_below swizzle c = omega arith

no_bits : (c : ℕ) → c < 4 → bit c 0 ≡ true → ⊥
no_bits zero lt e = cc
no_bits (suc zero) lt e = cc
no_bits (suc (suc zero)) lt e = cc
no_bits (suc (suc (suc zero))) lt e = cc
no_bits (suc (suc (suc (suc c)))) lt e = absurd (omega arith)

three_small : (g : ℕ → Leaf) (c : ℕ) → LeafIsSmall (g c) → LeafIsSmall (three g c)
three_small g c h = if_small (nat_lt c 3) (g c) nought (λ e. h) (λ e. tt)

module _ (ds : List Declared) (temps : ℕ) (few : temps ≤ 4096) (fit : AllByRecursion DeclaredFits ds) where
  leaf_small : (j i : ℕ) (o : Operand) → j < 4 → i < 4 → OperandFits ds temps o → LeafIsSmall (leaf_of j o i)
  leaf_small j i o lj li fits =
      let c = picked o.swizzle i in
      let below = picked_below o.swizzle i in
      if_small (o.file == 0) _ _ (λ e. let k = fits.register (eqb-true o.file 0 e) in omega (arith, k, below, few)) (λ e0.
      if_small (o.file == 1) _ _ (λ e. tt) (λ e1.
      if_small (o.file == 2) _ _ (λ e. omega arith) (λ e2.
      if_small (o.file == 3) _ _ (λ e. three_small (Component Global) c tt) (λ e3.
      if_small (o.file == 4) _ _ (λ e. three_small (Component Group) c tt) (λ e4.
      if_small (o.file == 5) _ _ (λ e. three_small (Component Thread) c tt) (λ e5. tt))))))

  maybe_small : (j c : ℕ) (q : Option Operand) → j < 4 → c < 4 → MaybeFits (OperandFits ds temps) q → LeafIsSmall (leaf_of_some j q c)
  maybe_small j c None lj lc fits = tt
  maybe_small j c (Some o) lj lc fits = leaf_small j c o lj lc fits

  abbrev SourcesFit : Instr → Type 0
  SourcesFit i = (k : ℕ) → MaybeFits (OperandFits ds temps) (slice_index_or i.sources k None)

  source_small : (i : Instr) (j c : ℕ) → j < 4 → c < 4 → SourcesFit i → LeafIsSmall (source i j c)
  source_small i j c lj lc h = maybe_small j c (slice_index_or i.sources j None) lj lc (h j)

  -- ## What is fetched

  slots_few : (n slot : ℕ) (o : Option Declared) → declared_among n slot ds ≡ o → is_some o ≡ true → slot < slots_of n
  slots_few n slot None e h = cc
  slots_few n slot (Some d) e h =
      let f = found_fits n slot ds d fit e in
      let k = f.fits.slot in
      subst (λ z. z < slots_of n) f.slot (subst (λ z. d.slot < slots_of z) f.opcode k)

  fine_fetch : (j i : ℕ) (o : Operand) → j < 4 → i < 4 → OperandFits ds temps o → o.index < 14 → Fine 1 (fetch j o i ∷ [])
  fine_fetch j i o lj li fits lt =
      let c = Number (picked o.swizzle i) in
      let w = Number (slice_index o.words 0) in
      let x : fetched j i < 2 ^ 20 = omega arith in
      let b : o.index < 2 ^ 20 = omega (arith, lt) in
      fine_one_if o.flag _ _
      (λ e.
      let r = fits.relative e in
      let q = picked_below (swizzle_in (slice_index o.words 1)) 0 in
      let y : temporary (index_in (slice_index o.words 1)) (picked (swizzle_in (slice_index o.words 1)) 0) < 2 ^ 20 = omega (arith, r, q, few) in
      fine_reach _ o.index _ (Fetch (fetched j i)) (short_calculation formula.RelativeInside w (relative o) (Length o.index) nought nought tt y tt tt tt) b (short_calculation formula.RelativePlace w (relative o) c nought nought tt y tt tt tt) x)
      (λ e. fine_reach _ o.index _ (Fetch (fetched j i)) (short_calculation formula.VectorInside w (Length o.index) nought nought nought tt tt tt tt tt) b (short_calculation formula.VectorPlace w c nought nought nought tt tt tt tt tt) x)

  fine_fetches : (j : ℕ) (q : Option Operand) → j < 4 → MaybeFits (OperandFits ds temps) q → Fine 4 (fetches j q)
  fine_fetches j None lj fits = fine_none 4
  fine_fetches j (Some o) lj fits =
      fine_if 4 (o.file == 2) (fetch j o 0 ∷ fetch j o 1 ∷ fetch j o 2 ∷ fetch j o 3 ∷ []) []
      (λ e.
      let lt = slots_few 3 o.index (declared_among 3 o.index ds) refl (fits.constant (eqb-true o.file 2 e)) in
      fine_four (fetch j o 0 ∷ []) (fetch j o 1 ∷ []) (fetch j o 2 ∷ []) (fetch j o 3 ∷ []) (fine_fetch j 0 o lj (omega arith) fits lt) (fine_fetch j 1 o lj (omega arith) fits lt) (fine_fetch j 2 o lj (omega arith) fits lt) (fine_fetch j 3 o lj (omega arith) fits lt))
      (λ e. fine_none 4)

  fine_all_fetches : (i : Instr) → SourcesFit i → Fine 16 (all_fetches i)
  fine_all_fetches i h =
      let f : ℕ → List Piece = λ j. fetches j (slice_index_or i.sources j None) in
      fine_append 4 12 16 (f 0) (f 1 ++ (f 2 ++ f 3)) (omega arith) (fine_fetches 0 (slice_index_or i.sources 0 None) (omega arith) (h 0))
      (fine_append 4 8 12 (f 1) (f 2 ++ f 3) (omega arith) (fine_fetches 1 (slice_index_or i.sources 1 None) (omega arith) (h 1))
      (fine_append 4 4 8 (f 2) (f 3) (omega arith) (fine_fetches 2 (slice_index_or i.sources 2 None) (omega arith) (h 2)) (fine_fetches 3 (slice_index_or i.sources 3 None) (omega arith) (h 3))))

  -- ## Destinations

  short_computes : (f : Formula) (i : Instr) (c : ℕ) → c < 4 → SourcesFit i → Short (computes f i c)
  short_computes f i c lc h = short_calculation f (source i 0 c) (source i 1 c) (source i 2 c) (source i 3 c) nought (source_small i 0 c (omega arith) lc h) (source_small i 1 c (omega arith) lc h) (source_small i 2 c (omega arith) lc h) (source_small i 3 c (omega arith) lc h) tt

  fine_computed : (t : Option Target) (k : ℕ) (f : Formula) (i : Instr) → k < 2 → SourcesFit i → Fine 4 (computed t k (computes f i))
  fine_computed None k f i lk h = fine_none 4
  fine_computed (Some t) k f i lk h = fine_masked t.mask (λ c. Assign (result k c) (computes f i c)) (λ c lc e. fine_assign (result k c) (computes f i c) (omega arith) (short_computes f i c lc h))

  target_small : (t : Target) (c : ℕ) → c < 4 → TargetFits ds temps t → bit c t.mask ≡ true → t.index < temps
  target_small t c lc fits e =
      ⊎_elim
      (λ (h : (eqb t.file 0 ≡ true) × (t.file ≡ 0)). fits.register h.1)
      (λ (h : (eqb t.file 0 ≡ false) × (t.file ≢ 0)). absurd (no_bits c lc (subst (λ m. bit c m ≡ true) (fits.null h.1) e)))
      (eqb_tells t.file 0)

  fine_taken : (t : Option Target) (g : ℕ → Leaf) → MaybeFits (TargetFits ds temps) t → ((c : ℕ) → c < 4 → LeafIsSmall (g c)) → Fine 4 (lower.taken t g)
  fine_taken None g fits h = fine_none 4
  fine_taken (Some t) g fits h =
      fine_masked t.mask (λ c. Assign (temporary t.index c) (same (g c)))
      (λ c lc e. let k = target_small t c lc fits e in fine_assign (temporary t.index c) (same (g c)) (omega (arith, k, lc, few)) (short_same (g c) (h c lc)))

  fine_plain : (i : Instr) → MaybeFits (TargetFits ds temps) i.first → MaybeFits (TargetFits ds temps) i.second → SourcesFit i → Fine 16 (plain_pieces i)
  fine_plain i has1 has2 h =
      let c1 = computed i.first 0 (computes (first_formula i.opcode) i) in
      let c2 = computed i.second 1 (computes (second_formula i.opcode) i) in
      let t1 = lower.taken i.first (λ c. Variable (result 0 c)) in
      let t2 = lower.taken i.second (λ c. Variable (result 1 c)) in
      fine_append 4 12 16 c1 (c2 ++ (t1 ++ t2)) (omega arith) (fine_computed i.first 0 (first_formula i.opcode) i (omega arith) h)
      (fine_append 4 8 12 c2 (t1 ++ t2) (omega arith) (fine_computed i.second 1 (second_formula i.opcode) i (omega arith) h)
      (fine_append 4 4 8 t1 t2 (omega arith) (fine_taken i.first (λ c. Variable (result 0 c)) has1 (λ c lc. omega arith)) (fine_taken i.second (λ c. Variable (result 1 c)) has2 (λ c lc. omega arith))))

  -- ## Views

  record SpotIsSmall (s : Spot) : Type 0 where
    binding : s.binding < 2 ^ 20
    address : LeafIsSmall s.address
    offset : LeafIsSmall s.offset

  short_inside : (f : Form) (s : Spot) (c : ℕ) → SpotIsSmall s → Short (inside_by f s c)
  short_inside Raw s c h = short_calculation formula.RawInside s.address (Number c) (Length s.binding) nought nought h.address tt tt tt tt
  short_inside Structured s c h = short_calculation formula.StructuredInside s.address s.offset (Number c) (Number (s.parameter / 4)) (Length s.binding) h.address h.offset tt tt tt
  short_inside Typed s c h = short_calculation formula.TypedInside s.address (Number s.parameter) (Length s.binding) nought nought h.address tt tt tt tt

  short_place : (f : Form) (s : Spot) (c : ℕ) → SpotIsSmall s → Short (place_by f s c)
  short_place Raw s c h = short_calculation formula.RawPlace s.address (Number c) nought nought nought h.address tt tt tt tt
  short_place Structured s c h = short_calculation formula.StructuredPlace s.address s.offset (Number c) (Number (s.parameter / 4)) nought h.address h.offset tt tt tt
  short_place Typed s c h = short_calculation formula.TypedPlace s.address (Number s.parameter) (Number c) nought nought h.address tt tt tt tt

  fine_reached : (s : Spot) (c : ℕ) (a : Action) → SpotIsSmall s → ActionIsSmall a → Fine 1 (reach s c a ∷ [])
  fine_reached s c a h ha = fine_reach (inside_by s.form s c) s.binding (place_by s.form s c) a (short_inside s.form s c h) h.binding (short_place s.form s c h) ha

  short_if : (b : Bool) (x y : Calculation) → Short x → Short y → Short (if b then x else y)
  short_if true x y hx hy = hx
  short_if false x y hx hy = hy

  short_missing : (f : Form) (s : Spot) (c : ℕ) → SpotIsSmall s → Short (missing f s c)
  short_missing Raw s c h = short_same nought tt
  short_missing Structured s c h = short_same nought tt
  short_missing Typed s c h = short_if (nat_lt 0 s.parameter && (c == 3)) _ _ (short_calculation formula.TypedOne s.address (Number s.parameter) (Length s.binding) nought nought h.address tt tt tt tt) (short_same nought tt)

  fine_load : (s : Spot) (c : ℕ) → c < 4 → SpotIsSmall s → Fine 1 (load_piece s c ∷ [])
  fine_load s c lc h =
      fine_one_if (may_reach s.form s.parameter c) _ _ (λ e. fine_reached s c (Fetch (result 0 c)) h (omega arith)) (λ e. fine_assign (result 0 c) (missing s.form s c) (omega arith) (short_missing s.form s c h))

  fine_loads : (s : Spot) (t : Option Target) → SpotIsSmall s → MaybeFits (TargetFits ds temps) t → Fine 16 (loads s t)
  fine_loads s None h fits = fine_none 16
  fine_loads s (Some t) h fits =
      fine_append 4 4 16 (each_masked t.mask (load_piece s)) (lower.taken (Some t) (λ c. Variable (result 0 c))) (omega arith) (fine_masked t.mask (load_piece s) (λ c lc e. fine_load s c lc h))
      (fine_taken (Some t) (λ c. Variable (result 0 c)) fits (λ c lc. omega arith))

  fine_stores : (s : Spot) (m : ℕ) (v : ℕ → Leaf) → SpotIsSmall s → ((c : ℕ) → c < 4 → LeafIsSmall (v c)) → Fine 16 (stores s m v)
  fine_stores s m v h hv =
      let one : (c : ℕ) → c < 4 → Fine 1 (store_piece s (v c) m c) = λ c lc. fine_only (bit c m && may_reach s.form s.parameter c) (reach s c (Write (v c))) (λ e. fine_reached s c (Write (v c)) h (hv c lc)) in
      let four = fine_four (store_piece s (v 0) m 0) (store_piece s (v 1) m 1) (store_piece s (v 2) m 2) (store_piece s (v 3) m 3) (one 0 (omega arith)) (one 1 (omega arith)) (one 2 (omega arith)) (one 3 (omega arith)) in
      record { small = four.small; short = λ n. let k = four.short n in omega (arith, k) }

  fine_atomics : (s : Spot) (t : Option Target) (a : Action) → SpotIsSmall s → MaybeFits (TargetFits ds temps) t → ActionIsSmall a → Fine 16 (atomics s t a)
  fine_atomics s t a h fits ha =
      fine_append 1 4 16 (atomic_piece s a ∷ []) (lower.taken t (λ c. Variable (result 0 0))) (omega arith)
      (fine_one_if (may_reach s.form s.parameter 0) _ _ (λ e. fine_reached s 0 a h ha) (λ e. fine_assign (result 0 0) (same nought) (omega arith) (short_same nought tt)))
      (fine_taken t (λ c. Variable (result 0 0)) fits (λ c lc. omega arith))

  -- ## Instructions

  fine_memory : (u : SlotUse) (d : Declared) (i : Instr) → u.slot < 16 → MaybeFits (TargetFits ds temps) i.first → SourcesFit i → Fine 16 (memory_pieces u d i)
  fine_memory u d i lt has1 h =
      let a = source_small i 0 0 (omega arith) (omega arith) h in
      let b = source_small i 1 0 (omega arith) (omega arith) h in
      let bound : binding_of u < 2 ^ 20 = binding_small u.writable in
      let plain : SpotIsSmall (spot u d (source i 0 0) nought) = record { binding = bound; address = a; offset = tt } in
      let with_offset : SpotIsSmall (spot u d (source i 0 0) (source i 1 0)) = record { binding = bound; address = a; offset = b } in
      fine_if 16 (i.opcode == 48) _ _ (λ e. fine_loads _ i.first plain has1) (λ e0.
      fine_if 16 (i.opcode == 49) _ _ (λ e. fine_stores _ i.extra (source i 1) plain (λ c lc. source_small i 1 c (omega arith) lc h)) (λ e1.
      fine_if 16 (i.opcode == 50) _ _ (λ e. fine_loads _ i.first with_offset has1) (λ e2.
      fine_if 16 (i.opcode == 51) _ _ (λ e. fine_stores _ i.extra (source i 2) with_offset (λ c lc. source_small i 2 c (omega arith) lc h)) (λ e3.
      fine_if 16 (i.opcode == 52) _ _ (λ e. fine_loads _ i.first plain has1) (λ e4.
      fine_if 16 (i.opcode == 53) _ _ (λ e. fine_stores _ i.extra (source i 1) plain (λ c lc. source_small i 1 c (omega arith) lc h)) (λ e5.
      fine_if 16 (i.opcode == 65) _ _ (λ e. fine_atomics _ i.first (Swap (source i 3 0) (source i 2 0) (result 0 0)) with_offset has1 (source_small i 3 0 (omega arith) (omega arith) h, source_small i 2 0 (omega arith) (omega arith) h, omega arith))
      (λ e6. fine_atomics _ i.first (Change (atomic_of i.opcode) (source i 2 0) (result 0 0)) with_offset has1 (source_small i 2 0 (omega arith) (omega arith) h, omega arith))))))))
    where
      binding_small : (w : Bool) → (if w then 30 + u.slot else 14 + u.slot) < 2 ^ 20
      binding_small true = omega (arith, lt)
      binding_small false = omega (arith, lt)

  slot_few : (w : Bool) → slots_of (if w then 5 else 4) ≤ 16
  slot_few true = omega arith
  slot_few false = omega arith

  fine_slot : (i : Instr) (u : SlotUse) (o : Option Declared) → used_as u ds ≡ o → MaybeFits (TargetFits ds temps) i.first → SourcesFit i → Fine 16 (slot_pieces i u o)
  fine_slot i u None e has1 h = fine_none 16
  fine_slot i u (Some d) e has1 h =
      let k = slots_few (if u.writable then 5 else 4) u.slot (Some d) e refl in
      let m = slot_few u.writable in
      fine_memory u d i (omega (arith, k, m)) has1 h

  fine_done : (i : Instr) (q : Option SlotUse) → MaybeFits (TargetFits ds temps) i.first → MaybeFits (TargetFits ds temps) i.second → SourcesFit i → Fine 16 (done_pieces ds i q)
  fine_done i None has1 has2 h = fine_plain i has1 has2 h
  fine_done i (Some u) has1 has2 h = fine_slot i u (used_as u ds) refl has1 h

  fine_instr : (i : Instr) → InstrFits ds temps i → Fine 32 (instr_pieces ds i)
  fine_instr i fits = fine_append 16 16 32 (all_fetches i) (done_pieces ds i i.slot) (omega arith) (fine_all_fetches i fits.sources) (fine_done i i.slot fits.first fits.second fits.sources)

  -- ## Blocks

  small_test : (t : Test) → TestFits ds temps t → TestIsSmall t
  small_test t fits = ((fine_fetches 0 (Some t.value) (omega arith) fits).small, leaf_small 0 0 t.value (omega arith) (omega arith) fits)

  short_test : (t : Test) (n : ℕ) → TestFits ds temps t → test_end ds n t ≤ n + 512
  short_test t n fits =
      let f = (fine_fetches 0 (Some t.value) (omega arith) fits).short n in
      let s = (short_calculation (if t.nonzero then formula.IsNonzero else formula.IsZero) (leaf_of 0 t.value 0) nought nought nought nought (leaf_small 0 0 t.value (omega arith) (omega arith) fits) tt tt tt tt).short in
      omega (arith, f, s)

  small_maybe : (t : Option Test) → MaybeFits (TestFits ds temps) t → MaybeIsSmall t
  small_maybe None h = tt
  small_maybe (Some t) h = small_test t h

  small_body : (b : Body) → Fits ds temps b → BodyIsSmall ds b
  small_body End h = tt
  small_body (Plain i rest) h = ((fine_instr i h.0).small, small_body rest h.1)
  small_body (If t a b rest) h = (small_test t h.0, small_body a h.1, small_body b h.2, small_body rest h.3)
  small_body (Loop inner rest) h = (small_body inner h.0, small_body rest h.1)
  small_body (Break t rest) h = (small_maybe t h.0, small_body rest h.1)
  small_body (Continue t rest) h = (small_maybe t h.0, small_body rest h.1)
  small_body (Return t rest) h = (small_maybe t h.0, small_body rest h.1)

  short_body : (b : Body) (n : ℕ) → Fits ds temps b → body_end ds b n ≤ n + 4096 * size b
  short_body End n h = omega arith
  short_body (Plain i rest) n h =
      let f = (fine_instr i h.0).short n in let r = short_body rest (pieces_end n (instr_pieces ds i)) h.1 in omega (arith, f, r)
  short_body (If t a b rest) n h =
      let f = short_test t n h.0 in
      let ra = short_body a (test_end ds n t) h.1 in
      let rb = short_body b (body_end ds a (test_end ds n t)) h.2 in
      let r = short_body rest (body_end ds b (body_end ds a (test_end ds n t))) h.3 in
      omega (arith, f, ra, rb, r)
  short_body (Loop inner rest) n h =
      let ri = short_body inner (inner_start n) h.0 in let r = short_body rest (body_end ds inner (inner_start n)) h.1 in omega (arith, ri, r)
  short_body (Break None rest) n h = omega arith
  short_body (Break (Some t) rest) n h = let f = short_test t n h.0 in let r = short_body rest (test_end ds n t) h.1 in omega (arith, f, r)
  short_body (Continue None rest) n h = omega arith
  short_body (Continue (Some t) rest) n h = let f = short_test t n h.0 in let r = short_body rest (test_end ds n t) h.1 in omega (arith, f, r)
  short_body (Return None rest) n h = omega arith
  short_body (Return (Some t) rest) n h = let f = short_test t n h.0 in let r = short_body rest (test_end ds n t) h.1 in omega (arith, f, r)

-- a good shader's code has ids of 32 bits
pub ready_of : (p : Program) → IsGood p → (n : ℕ) → n < 2 ^ 31 → Ready p.declared p.body n
ready_of p good n lt = record {
  small = small_body p.declared p.temps good.temps good.declared p.body good.fits;
  room = let h = short_body p.declared p.temps good.temps good.declared p.body n good.fits in let k = good.nodes in omega (arith, h, k, lt);
}
