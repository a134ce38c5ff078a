-- How many ids the code of a shader takes.
use Rattle.std.proofs.Common.{◌≡◌, ℕ, ◌+◌, ◌*◌, ◌≤◌, true, List, [], ◌∷◌, length, Some, None, refl, arith}
use Rattle.shader_model.specs.declared.ids.Ids.{Ids}
use Rattle.shader_model.specs.declared.tree.Declared.{Declared}
use Rattle.shader_model.specs.declared.tree.Instr.{Instr}
use Rattle.shader_model.specs.declared.tree.Test.{Test}
use Rattle.shader_model.specs.Good.{size}
use Rattle.shader_model.specs.Body.{Body, End, Plain, If, Loop, Break, Continue, Return}
use Rattle.spirv_emit.specs.declared.piece.Calculation.{Calculation}
use Rattle.spirv_emit.specs.declared.piece.Action.{Action}
use Rattle.spirv_emit.specs.declared.piece.Action.TheVariants.{Fetch, Write, Change, Swap}
use Rattle.spirv_emit.specs.declared.piece.Piece.{Piece}
use Rattle.spirv_emit.specs.declared.piece.Piece.TheVariants.{Assign, Reach}
use Rattle.spirv_emit.specs.Layout.{Layout}
use Rattle.spirv_emit.specs.Lower.{instr_pieces, test_pieces, test_calculation}
use Rattle.spirv_emit.specs.Code.{calculation_size, action_size, piece_end, pieces_end, inner_start, test_end, body_end}
use Rattle.spirv_emit.proofs.Meaning.HeldFrames.{Pool}
use Rattle.spirv_emit.proofs.Profile.ChoicesPass.{ProperPiece, ProperPieces}
use Rattle.spirv_emit.proofs.Profile.BlocksPass.{ProperTest, ProperBody}
use Rattle.spirv_emit.proofs.Size.FewPieces.{instr_few, test_few}
use Rattle.spirv_emit.proofs.Size.FewSteps.{steps_few, leaf_ids_few, leaves_ids_few}

calculation_ids_few : (c : Calculation) → length c.leaves ≡ 5 → calculation_size c ≤ 24
calculation_ids_few c five = let a = leaves_ids_few c.leaves in let b = steps_few c.formula in omega (arith, a, b, five)

action_ids_few : (a : Action) → action_size a ≤ 5
action_ids_few (Fetch x) = omega arith
action_ids_few (Write v) = let h = leaf_ids_few v in omega (arith, h)
action_ids_few (Change o v x) = let h = leaf_ids_few v in omega (arith, h)
action_ids_few (Swap v c x) = let h = leaf_ids_few v in let k = leaf_ids_few c in omega (arith, h, k)

module _ (at : Layout) (Has : ℕ → Type 0) (pool : Pool at Has) (ids : Ids) where
  piece_ids_few : (p : Piece) (n : ℕ) → ProperPiece at Has pool ids p → piece_end n p ≤ n + 60
  piece_ids_few (Assign x c) n h = let a = calculation_ids_few c h.1.0.five in omega (arith, a)
  piece_ids_few (Reach g b c a) n h =
      let lg = calculation_ids_few g h.0.0.five in
      let lc = calculation_ids_few c h.2.0.five in
      let la = action_ids_few a in
      omega (arith, lg, lc, la)

  pieces_ids_few : (ps : List Piece) (n : ℕ) → ProperPieces at Has pool ids ps → pieces_end n ps ≤ n + 60 * length ps
  pieces_ids_few [] n h = omega arith
  pieces_ids_few (p ∷ ps) n h =
      let one = piece_ids_few p n h.0 in
      let more = pieces_ids_few ps (piece_end n p) h.1 in
      omega (arith, one, more)

  module _ (ds : List Declared) where
    test_ids_few : (t : Test) (n : ℕ) → ProperTest at Has pool ids ds t → test_end ds n t ≤ n + 2000
    test_ids_few t n h =
        let a = pieces_ids_few (test_pieces t) n h.0 in
        let l = test_few t in
        let c = calculation_ids_few (test_calculation t) h.1.0.five in
        omega (arith, a, l, c)

    instr_ids_few : (i : Instr) (n : ℕ) → ProperPieces at Has pool ids (instr_pieces ds i) → pieces_end n (instr_pieces ds i) ≤ n + 2000
    instr_ids_few i n h = let a = pieces_ids_few (instr_pieces ds i) n h in let l = instr_few ds i in omega (arith, a, l)

    -- at most 2,000 ids for each node
    pub body_ids_few : (b : Body) (n : ℕ) → ProperBody at Has pool ids ds b → body_end ds b n ≤ n + 2000 * size b
    body_ids_few End n h = omega arith
    body_ids_few (Plain i rest) n h =
        let m = pieces_end n (instr_pieces ds i) in
        let one = instr_ids_few i n h.0 in
        let more = body_ids_few rest m h.1 in
        omega (arith, one, more)
    body_ids_few (If t first second rest) n h =
        let n0 = test_end ds n t in
        let n1 = body_end ds first n0 in
        let n2 = body_end ds second n1 in
        let l0 = test_ids_few t n h.0 in
        let l1 = body_ids_few first n0 h.1 in
        let l2 = body_ids_few second n1 h.2 in
        let l3 = body_ids_few rest n2 h.3 in
        omega (arith, l0, l1, l2, l3)
    body_ids_few (Loop inner rest) n h =
        let n1 = body_end ds inner (inner_start n) in
        let l1 = body_ids_few inner (inner_start n) h.0 in
        let l2 = body_ids_few rest n1 h.1 in
        omega (arith, l1, l2)
    body_ids_few (Break None rest) n h = omega arith
    body_ids_few (Continue None rest) n h = omega arith
    body_ids_few (Return None rest) n h = omega arith
    body_ids_few (Break (Some t) rest) n h = let l0 = test_ids_few t n h.0 in let l1 = body_ids_few rest (test_end ds n t) h.1 in omega (arith, l0, l1)
    body_ids_few (Continue (Some t) rest) n h = let l0 = test_ids_few t n h.0 in let l1 = body_ids_few rest (test_end ds n t) h.1 in omega (arith, l0, l1)
    body_ids_few (Return (Some t) rest) n h = let l0 = test_ids_few t n h.0 in let l1 = body_ids_few rest (test_end ds n t) h.1 in omega (arith, l0, l1)
