-- How many words the code of a shader has.
use Rattle.std.proofs.Common.{◌≡◌, ℕ, ◌+◌, ◌*◌, ◌≤◌, List, [], ◌∷◌, ◌++◌, length, Some, None, refl, arith}
use Rattle.shader_model.specs.declared.ids.Ids.{Ids}
use Rattle.shader_model.specs.declared.tree.Declared.{Declared}
use Rattle.shader_model.specs.declared.tree.Instr.{Instr}
use Rattle.shader_model.specs.declared.tree.Test.{Test}
use Rattle.shader_model.specs.Good.{size}
use Rattle.shader_model.specs.Body.{Body, End, Plain, If, Loop, Break, Continue, Return}
use Rattle.spirv_model.specs.declared.settings.TheConstants as setting
use Rattle.spirv_model.specs.Op.{Op}
use Rattle.spirv_model.specs.Op as op
use Rattle.spirv_model.specs.FirstBad.{word_count, total_words}
use Rattle.spirv_emit.specs.declared.formula.Step.{Step}
use Rattle.spirv_emit.specs.declared.formula.Step.TheVariants.{One, Two, High, Choose}
use Rattle.spirv_emit.specs.declared.piece.Leaf.{Leaf}
use Rattle.spirv_emit.specs.declared.piece.Leaf.TheVariants.{Number, Variable, Length, Component, Flattened}
use Rattle.spirv_emit.specs.declared.piece.Calculation.{Calculation}
use Rattle.spirv_emit.specs.declared.piece.Action.{Action}
use Rattle.spirv_emit.specs.declared.piece.Action.TheVariants.{Fetch, Write, Change, Swap}
use Rattle.spirv_emit.specs.declared.piece.Piece.{Piece}
use Rattle.spirv_emit.specs.declared.piece.Piece.TheVariants.{Assign, Reach}
use Rattle.spirv_emit.specs.Steps.{steps_of}
use Rattle.spirv_emit.specs.Layout.{Layout}
use Rattle.spirv_emit.specs.Lower.{instr_pieces, test_pieces, test_calculation, turns}
use Rattle.spirv_emit.specs.Code.{leaf_size, leaves_size, calculation_size, leaf_ops, leaves_ops, leaf_ids, steps_ops, calculation_ops, calculation_id, choice_ops, assign_ops, action_ops, missed_ops, reach_ops, piece_ops, piece_end, pieces_ops, pieces_end, choice_end, turns_are_out, one_turn_less, inner_start, loop_ops, test_start, test_end, body_end, leave_by, choose_by, behind_test, body_ops}
use Rattle.spirv_emit.proofs.Meaning.HeldFrames.{Pool}
use Rattle.spirv_emit.proofs.Profile.ChoicesPass.{ProperPiece, ProperPieces}
use Rattle.spirv_emit.proofs.Profile.BlocksPass.{ProperTest, ProperBody}
use Rattle.spirv_emit.proofs.Size.FewPieces.{instr_few, test_few}
use Rattle.spirv_emit.proofs.Size.FewSteps.{steps_few}

pub words_both : (a b : List Op) → total_words (a ++ b) ≡ total_words a + total_words b
words_both [] b = omega arith
words_both (o ∷ a) b = let h = words_both a b in omega (arith, h)

pub words_sum : (j k : ℕ) (a b : List Op) → total_words a ≤ j → total_words b ≤ k → total_words (a ++ b) ≤ j + k
words_sum j k a b ha hb = let e = words_both a b in omega (arith, e, ha, hb)

module _ (at : Layout) where
  leaf_words : (l : Leaf) (n : ℕ) → total_words (leaf_ops at n l) ≤ 9
  leaf_words (Number v) n = omega arith
  leaf_words (Variable x) n = omega arith
  leaf_words (Length b) n = omega arith
  leaf_words (Component v c) n = omega arith
  leaf_words Flattened n = omega arith

  leaves_words : (ls : List Leaf) (n : ℕ) → total_words (leaves_ops at n ls) ≤ 9 * length ls
  leaves_words [] n = omega arith
  leaves_words (l ∷ ls) n =
      let one = leaf_words l n in
      let more = leaves_words ls (n + leaf_size l) in
      let e = words_both (leaf_ops at n l) (leaves_ops at (n + leaf_size l) ls) in
      omega (arith, one, more, e)

  steps_words : (ss : List Step) (ids : List ℕ) (first r : ℕ) → total_words (steps_ops at ids first r ss) ≤ 6 * length ss
  steps_words [] ids first r = omega arith
  steps_words (One o a ∷ ss) ids first r = let h = steps_words ss ids first (r + 1) in omega (arith, h)
  steps_words (Two o a b ∷ ss) ids first r = let h = steps_words ss ids first (r + 1) in omega (arith, h)
  steps_words (High a ∷ ss) ids first r = let h = steps_words ss ids first (r + 1) in omega (arith, h)
  steps_words (Choose c a b ∷ ss) ids first r = let h = steps_words ss ids first (r + 1) in omega (arith, h)

  calculation_words : (c : Calculation) (n : ℕ) → length c.leaves ≡ 5 → total_words (calculation_ops at n c) ≤ 130
  calculation_words c n five =
      let base = n + leaves_size c.leaves in
      let a = leaves_words c.leaves n in
      let b = steps_words (steps_of c.formula) (leaf_ids at n c.leaves) base base in
      let k = steps_few c.formula in
      let e = words_both (leaves_ops at n c.leaves) (steps_ops at (leaf_ids at n c.leaves) base base (steps_of c.formula)) in
      omega (arith, a, b, k, e, five)

  choice_words : (n : ℕ) (c : Calculation) (a b : List Op) (j k : ℕ) → length c.leaves ≡ 5 → total_words a ≤ j → total_words b ≤ k → total_words (choice_ops at n c a b) ≤ 150 + j + k
  choice_words n c a b j k five ha hb =
      let l = n + calculation_size c in
      let last = op.Label (l + 2) ∷ [] in
      let second = op.Label (l + 1) ∷ (b ++ last) in
      let front = op.SelectionMerge (l + 2) setting.NO_CONTROL ∷ op.BranchConditional (calculation_id at n c) l (l + 1) ∷ op.Label l ∷ (a ++ second) in
      let hc = calculation_words c n five in
      let e1 = words_both (calculation_ops at n c) front in
      let e2 = words_both a second in
      let e3 = words_both b last in
      omega (arith, hc, e1, e2, e3, ha, hb)

  assign_words : (x : ℕ) (c : Calculation) (n : ℕ) → length c.leaves ≡ 5 → total_words (assign_ops at n x c) ≤ 140
  assign_words x c n five = words_sum 130 10 (calculation_ops at n c) _ (calculation_words c n five) (omega arith)

  action_words : (a : Action) (n p : ℕ) → total_words (action_ops at n p a) ≤ 40
  action_words (Fetch x) n p = omega arith
  action_words (Write v) n p = words_sum 9 31 (leaf_ops at n v) _ (leaf_words v n) (omega arith)
  action_words (Change o v x) n p = words_sum 9 31 (leaf_ops at n v) _ (leaf_words v n) (omega arith)
  action_words (Swap v c x) n p = words_sum 9 31 (leaf_ops at n v) _ (leaf_words v n) (words_sum 9 22 (leaf_ops at (n + leaf_size v) c) _ (leaf_words c (n + leaf_size v)) (omega arith))

  missed_words : (a : Action) (l : ℕ) → total_words (missed_ops at a ++ (op.Branch l ∷ [])) ≤ 10
  missed_words (Fetch x) l = omega arith
  missed_words (Write v) l = omega arith
  missed_words (Change o v x) l = omega arith
  missed_words (Swap v c x) l = omega arith

  reach_words : (n b : ℕ) (c : Calculation) (a : Action) (l : ℕ) → length c.leaves ≡ 5 → total_words (reach_ops at n b c a l) ≤ 190
  reach_words n b c a l five =
      let p = n + calculation_size c in
      let h = words_sum 40 2 (action_ops at (p + 1) p a) (op.Branch l ∷ []) (action_words a (p + 1) p) (omega arith) in
      words_sum 130 60 (calculation_ops at n c) _ (calculation_words c n five) (omega (arith, h))

  module _ (Has : ℕ → Type 0) (pool : Pool at Has) (ids : Ids) where
    piece_words : (p : Piece) (n : ℕ) → ProperPiece at Has pool ids p → total_words (piece_ops at n p) ≤ 350
    piece_words (Assign x c) n h = let k = assign_words x c n h.1.0.five in omega (arith, k)
    piece_words (Reach g b c a) n h =
        let l = n + calculation_size g in
        choice_words n g (reach_ops at (l + 3) b c a (l + 2)) (missed_ops at a ++ (op.Branch (l + 2) ∷ [])) 190 10 h.0.0.five (reach_words (l + 3) b c a (l + 2) h.2.0.five) (missed_words a (l + 2))

    pieces_words : (ps : List Piece) (n : ℕ) → ProperPieces at Has pool ids ps → total_words (pieces_ops at n ps) ≤ 350 * length ps
    pieces_words [] n h = omega arith
    pieces_words (p ∷ ps) n h =
        let one = piece_words p n h.0 in
        let more = pieces_words ps (piece_end n p) h.1 in
        let e = words_both (piece_ops at n p) (pieces_ops at (piece_end n p) ps) in
        omega (arith, one, more, e)

    module _ (ds : List Declared) where
      instr_words : (i : Instr) (n : ℕ) → ProperPieces at Has pool ids (instr_pieces ds i) → total_words (pieces_ops at n (instr_pieces ds i)) ≤ 12000
      instr_words i n h = let a = pieces_words (instr_pieces ds i) n h in let l = instr_few ds i in omega (arith, a, l)

      test_words : (t : Test) (n : ℕ) → ProperTest at Has pool ids ds t → total_words (pieces_ops at n (test_pieces t)) ≤ 1400
      test_words t n h = let a = pieces_words (test_pieces t) n h.0 in let l = test_few t in omega (arith, a, l)

      choose_words : (n : ℕ) (t : Test) (a b : List Op) (j k : ℕ) → ProperTest at Has pool ids ds t → total_words a ≤ j → total_words b ≤ k → total_words (choose_by ds at n t a b) ≤ 1550 + j + k
      choose_words n t a b j k h ha hb =
          let s = test_start ds n t in
          let w = words_sum 1400 (150 + j + k) (pieces_ops at n (test_pieces t)) (choice_ops at s (test_calculation t) a b) (test_words t n h) (choice_words s (test_calculation t) a b j k h.1.0.five ha hb) in
          omega (arith, w)

      leave_words : (n : ℕ) (t : Test) (out : Op) → ProperTest at Has pool ids ds t → word_count out ≤ 2 → total_words (leave_by ds at n t out) ≤ 12000
      leave_words n t out h few =
          let w = choose_words n t (out ∷ []) (op.Branch (behind_test ds at n t) ∷ []) 2 2 h (omega (arith, few)) (omega arith) in
          omega (arith, w)

      loop_words : (n : ℕ) (inner : List Op) (k : ℕ) → total_words inner ≤ k → total_words (loop_ops at n inner) ≤ 1000 + k
      loop_words n inner k h =
          let test = choice_ops at (n + 4) turns_are_out (op.Return ∷ []) (op.Branch (n + 4 + calculation_size turns_are_out + 2) ∷ []) in
          let count = assign_ops at (choice_end (n + 4) turns_are_out) turns one_turn_less in
          let last = op.Label (n + 2) ∷ op.Branch n ∷ op.Label (n + 1) ∷ [] in
          let ht = choice_words (n + 4) turns_are_out (op.Return ∷ []) (op.Branch (n + 4 + calculation_size turns_are_out + 2) ∷ []) 1 2 refl (omega arith) (omega arith) in
          let hc = assign_words turns one_turn_less (choice_end (n + 4) turns_are_out) refl in
          let e1 = words_both test (count ++ (inner ++ last)) in
          let e2 = words_both count (inner ++ last) in
          let e3 = words_both inner last in
          omega (arith, ht, hc, e1, e2, e3, h)

      -- at most 12,000 words for each node, and two for the branch at the end
      pub body_words : (x : Body) (n k b c : ℕ) → ProperBody at Has pool ids ds x → total_words (body_ops ds at x n k b c) ≤ 12000 * size x + 2
      body_words End n k b c h = omega arith
      body_words (Plain i rest) n k b c h =
          let m = pieces_end n (instr_pieces ds i) in
          let w = words_sum 12000 (12000 * size rest + 2) (pieces_ops at n (instr_pieces ds i)) (body_ops ds at rest m k b c) (instr_words i n h.0) (body_words rest m k b c h.1) in
          omega (arith, w)
      body_words (If t x y rest) n k b c h =
          let l = behind_test ds at n t in
          let n0 = test_end ds n t in
          let n1 = body_end ds x n0 in
          let n2 = body_end ds y n1 in
          let first = body_ops ds at x n0 l b c in
          let second = body_ops ds at y n1 l b c in
          let j = 12000 * size x + 2 in
          let m = 12000 * size y + 2 in
          let w = words_sum (1550 + j + m) (12000 * size rest + 2) (choose_by ds at n t first second) (body_ops ds at rest n2 k b c) (choose_words n t first second j m h.0 (body_words x n0 l b c h.1) (body_words y n1 l b c h.2)) (body_words rest n2 k b c h.3) in
          omega (arith, w)
      body_words (Loop inner rest) n k b c h =
          let n1 = body_end ds inner (inner_start n) in
          let code = body_ops ds at inner (inner_start n) (n + 2) (n + 1) (n + 2) in
          let j = 12000 * size inner + 2 in
          let w = words_sum (1000 + j) (12000 * size rest + 2) (loop_ops at n code) (body_ops ds at rest n1 k b c) (loop_words n code j (body_words inner (inner_start n) (n + 2) (n + 1) (n + 2) h.0)) (body_words rest n1 k b c h.1) in
          omega (arith, w)
      body_words (Break None rest) n k b c h = omega arith
      body_words (Continue None rest) n k b c h = omega arith
      body_words (Return None rest) n k b c h = omega arith
      body_words (Break (Some t) rest) n k b c h =
          let w = words_sum 12000 (12000 * size rest + 2) (leave_by ds at n t (op.Branch b)) (body_ops ds at rest (test_end ds n t) k b c) (leave_words n t (op.Branch b) h.0 (omega arith)) (body_words rest (test_end ds n t) k b c h.1) in
          omega (arith, w)
      body_words (Continue (Some t) rest) n k b c h =
          let w = words_sum 12000 (12000 * size rest + 2) (leave_by ds at n t (op.Branch c)) (body_ops ds at rest (test_end ds n t) k b c) (leave_words n t (op.Branch c) h.0 (omega arith)) (body_words rest (test_end ds n t) k b c h.1) in
          omega (arith, w)
      body_words (Return (Some t) rest) n k b c h =
          let w = words_sum 12000 (12000 * size rest + 2) (leave_by ds at n t op.Return) (body_ops ds at rest (test_end ds n t) k b c) (leave_words n t op.Return h.0 (omega arith)) (body_words rest (test_end ds n t) k b c h.1) in
          omega (arith, w)
