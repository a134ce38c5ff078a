-- Each label that the code of a block names is made, in it or by who placed its three exits.
use Rattle.std.proofs.Common.{ℕ, ◌+◌, inl, inr, List, [], ◌∷◌, ◌++◌, Some, None, refl}
use Rattle.shader_model.specs.declared.tree.Declared.{Declared}
use Rattle.shader_model.specs.declared.tree.Test.{Test}
use Rattle.shader_model.specs.Body.{Body, End, Plain, If, Loop, Break, Continue, Return}
use Rattle.spirv_model.specs.declared.settings.TheConstants as setting
use Rattle.spirv_model.specs.Op.{Op}
use Rattle.spirv_model.specs.Op as op
use Rattle.spirv_emit.specs.declared.formula.Step.{Step}
use Rattle.spirv_emit.specs.declared.formula.Step.TheVariants.{One, Two, High, Choose}
use Rattle.spirv_emit.specs.declared.piece.Leaf.{Leaf}
use Rattle.spirv_emit.specs.declared.piece.Leaf.TheVariants.{Number, Variable, Length, Component, Flattened}
use Rattle.spirv_emit.specs.declared.piece.Calculation.{Calculation}
use Rattle.spirv_emit.specs.declared.piece.Action.{Action}
use Rattle.spirv_emit.specs.declared.piece.Action.TheVariants.{Fetch, Write, Change, Swap}
use Rattle.spirv_emit.specs.declared.piece.Piece.{Piece}
use Rattle.spirv_emit.specs.declared.piece.Piece.TheVariants.{Assign, Reach}
use Rattle.spirv_emit.specs.Steps.{steps_of}
use Rattle.spirv_emit.specs.Layout.{Layout}
use Rattle.spirv_emit.specs.Lower.{turns, instr_pieces, test_pieces, test_calculation}
use Rattle.spirv_emit.specs.Code.{leaf_size, leaves_size, calculation_size, leaf_ops, leaves_ops, leaf_ids, steps_ops, calculation_ops, calculation_id, choice_ops, assign_ops, action_ops, missed_ops, reach_ops, piece_ops, piece_end, pieces_ops, pieces_end, choice_end, turns_are_out, one_turn_less, inner_start, loop_ops, leave_ops, test_start, test_end, body_end, leave_by, choose_by, behind_test, body_ops}
use Rattle.spirv_emit.proofs.Profile.LabelsMade.{HasLabel, has_left, has_right, IsBlock, Settles, settles_append, block_fine}

module _ (at : Layout) (all : List Op) where
  abbrev pub Made : List Op → Type 0
  Made code = (l : ℕ) → HasLabel l code → IsBlock all l

  -- calculations and actions name no label
  leaf_settles : (l : Leaf) (n : ℕ) → Settles all (leaf_ops at n l)
  leaf_settles (Number v) n = tt
  leaf_settles (Variable x) n = (tt, tt)
  leaf_settles (Length b) n = (tt, (tt, tt))
  leaf_settles (Component v c) n = (tt, (tt, tt))
  leaf_settles Flattened n = (tt, tt)

  leaves_settle : (ls : List Leaf) (n : ℕ) → Settles all (leaves_ops at n ls)
  leaves_settle [] n = tt
  leaves_settle (l ∷ ls) n = settles_append all (leaf_ops at n l) (leaves_ops at (n + leaf_size l) ls) (leaf_settles l n) (leaves_settle ls (n + leaf_size l))

  steps_settle : (ss : List Step) (ids : List ℕ) (first r : ℕ) → Settles all (steps_ops at ids first r ss)
  steps_settle [] ids first r = tt
  steps_settle (One o a ∷ ss) ids first r = (tt, steps_settle ss ids first (r + 1))
  steps_settle (Two o a b ∷ ss) ids first r = (tt, steps_settle ss ids first (r + 1))
  steps_settle (High a ∷ ss) ids first r = (tt, steps_settle ss ids first (r + 1))
  steps_settle (Choose c a b ∷ ss) ids first r = (tt, steps_settle ss ids first (r + 1))

  calculation_settles : (c : Calculation) (n : ℕ) → Settles all (calculation_ops at n c)
  calculation_settles c n =
      let base = n + leaves_size c.leaves in
      settles_append all (leaves_ops at n c.leaves) (steps_ops at (leaf_ids at n c.leaves) base base (steps_of c.formula)) (leaves_settle c.leaves n) (steps_settle (steps_of c.formula) (leaf_ids at n c.leaves) base base)

  assign_settles : (x : ℕ) (c : Calculation) (n : ℕ) → Settles all (assign_ops at n x c)
  assign_settles x c n = settles_append all (calculation_ops at n c) _ (calculation_settles c n) (tt, tt)

  action_settles : (a : Action) (n p : ℕ) → Settles all (action_ops at n p a)
  action_settles (Fetch x) n p = (tt, (tt, tt))
  action_settles (Write v) n p = settles_append all (leaf_ops at n v) _ (leaf_settles v n) (tt, tt)
  action_settles (Change o v x) n p = settles_append all (leaf_ops at n v) _ (leaf_settles v n) (tt, (tt, tt))
  action_settles (Swap v c x) n p = settles_append all (leaf_ops at n v) _ (leaf_settles v n) (settles_append all (leaf_ops at (n + leaf_size v) c) _ (leaf_settles c (n + leaf_size v)) (tt, (tt, tt)))

  branch_settles : (l : ℕ) → IsBlock all l → Settles all (op.Branch l ∷ [])
  branch_settles l e = ((block_fine all l e, tt), tt)

  missed_settles : (a : Action) (l : ℕ) → IsBlock all l → Settles all (missed_ops at a ++ (op.Branch l ∷ []))
  missed_settles (Fetch x) l e = (tt, branch_settles l e)
  missed_settles (Write v) l e = branch_settles l e
  missed_settles (Change o v x) l e = (tt, branch_settles l e)
  missed_settles (Swap v c x) l e = (tt, branch_settles l e)

  reach_settles : (n b : ℕ) (c : Calculation) (a : Action) (l : ℕ) → IsBlock all l → Settles all (reach_ops at n b c a l)
  reach_settles n b c a l e =
      let p = n + calculation_size c in
      settles_append all (calculation_ops at n c) _ (calculation_settles c n) (tt, settles_append all (action_ops at (p + 1) p a) _ (action_settles a (p + 1) p) (branch_settles l e))

  -- the parts of a choice, and of a loop
  abbrev behind_first : (n : ℕ) (c : Calculation) (b : List Op) → List Op
  behind_first n c b = op.Label (n + calculation_size c + 1) ∷ (b ++ (op.Label (n + calculation_size c + 2) ∷ []))

  abbrev behind_condition : (n : ℕ) (c : Calculation) (a b : List Op) → List Op
  behind_condition n c a b =
      let l = n + calculation_size c in
      op.SelectionMerge (l + 2) setting.NO_CONTROL ∷ op.BranchConditional (calculation_id at n c) l (l + 1) ∷ op.Label l ∷ (a ++ behind_first n c b)

  abbrev last_of : (n : ℕ) (c : Calculation) → List Op
  last_of n c = op.Label (n + calculation_size c + 2) ∷ []

  abbrev turn_test : ℕ → List Op
  turn_test n = choice_ops at (n + 4) turns_are_out (op.Return ∷ []) (op.Branch (n + 4 + calculation_size turns_are_out + 2) ∷ [])

  abbrev turn_count : ℕ → List Op
  turn_count n = assign_ops at (choice_end (n + 4) turns_are_out) turns one_turn_less

  abbrev loop_end : ℕ → List Op
  loop_end n = op.Label (n + 2) ∷ op.Branch n ∷ op.Label (n + 1) ∷ []

  in_first : (n : ℕ) (c : Calculation) (a b : List Op) → Made (choice_ops at n c a b) → Made a
  in_first n c a b m l h = m l (has_right l (calculation_ops at n c) (behind_condition n c a b) (inr (has_left l a (behind_first n c b) h)))

  in_second : (n : ℕ) (c : Calculation) (a b : List Op) → Made (choice_ops at n c a b) → Made b
  in_second n c a b m l h = m l (has_right l (calculation_ops at n c) (behind_condition n c a b) (inr (has_right l a (behind_first n c b) (inr (has_left l b (last_of n c) h)))))

  behind_choice : (n : ℕ) (c : Calculation) (a b : List Op) → Made (choice_ops at n c a b) → IsBlock all (n + calculation_size c + 2)
  behind_choice n c a b m = let l = n + calculation_size c + 2 in m l (has_right l (calculation_ops at n c) (behind_condition n c a b) (inr (has_right l a (behind_first n c b) (inr (has_right l b (last_of n c) (inl refl))))))

  choice_settles : (n : ℕ) (c : Calculation) (a b : List Op) → Made (choice_ops at n c a b) → Settles all a → Settles all b → Settles all (choice_ops at n c a b)
  choice_settles n c a b m sa sb =
      let l = n + calculation_size c in
      let m0 = m l (has_right l (calculation_ops at n c) (behind_condition n c a b) (inl refl)) in
      let m1 = m (l + 1) (has_right (l + 1) (calculation_ops at n c) (behind_condition n c a b) (inr (has_right (l + 1) a (behind_first n c b) (inl refl)))) in
      let m2 = behind_choice n c a b m in
      settles_append all (calculation_ops at n c) (behind_condition n c a b) (calculation_settles c n)
      ((block_fine all (l + 2) m2, tt), ((refl, (block_fine all l m0, (block_fine all (l + 1) m1, tt))), (tt, settles_append all a (behind_first n c b) sa (tt, settles_append all b (last_of n c) sb (tt, tt)))))

  piece_settles : (p : Piece) (n : ℕ) → Made (piece_ops at n p) → Settles all (piece_ops at n p)
  piece_settles (Assign x c) n m = assign_settles x c n
  piece_settles (Reach g b c a) n m =
      let l = n + calculation_size g in
      let reach = reach_ops at (l + 3) b c a (l + 2) in
      let missed = missed_ops at a ++ (op.Branch (l + 2) ∷ []) in
      let e = behind_choice n g reach missed m in
      choice_settles n g reach missed m (reach_settles (l + 3) b c a (l + 2) e) (missed_settles a (l + 2) e)

  left : (a b : List Op) → Made (a ++ b) → Made a
  left a b m l h = m l (has_left l a b h)

  right : (a b : List Op) → Made (a ++ b) → Made b
  right a b m l h = m l (has_right l a b h)

  pieces_settle : (ps : List Piece) (n : ℕ) → Made (pieces_ops at n ps) → Settles all (pieces_ops at n ps)
  pieces_settle [] n m = tt
  pieces_settle (p ∷ ps) n m =
      let a = piece_ops at n p in
      let b = pieces_ops at (piece_end n p) ps in
      settles_append all a b (piece_settles p n (left a b m)) (pieces_settle ps (piece_end n p) (right a b m))

  leave_settles : (n : ℕ) (c : Calculation) (out : Op) → Made (leave_ops at n c out) → Settles all (out ∷ []) → Settles all (leave_ops at n c out)
  leave_settles n c out m s = choice_settles n c (out ∷ []) (op.Branch (n + calculation_size c + 2) ∷ []) m s (branch_settles (n + calculation_size c + 2) (behind_choice n c (out ∷ []) (op.Branch (n + calculation_size c + 2) ∷ []) m))

  in_end : (n : ℕ) (inner : List Op) → Made (loop_ops at n inner) → Made (loop_end n)
  in_end n inner m l h = m l (inr (inr (has_right l (turn_test n) (turn_count n ++ (inner ++ loop_end n)) (has_right l (turn_count n) (inner ++ loop_end n) (has_right l inner (loop_end n) h)))))

  in_inner : (n : ℕ) (inner : List Op) → Made (loop_ops at n inner) → Made inner
  in_inner n inner m l h = m l (inr (inr (has_right l (turn_test n) (turn_count n ++ (inner ++ loop_end n)) (has_right l (turn_count n) (inner ++ loop_end n) (has_left l inner (loop_end n) h)))))

  in_test : (n : ℕ) (inner : List Op) → Made (loop_ops at n inner) → Made (turn_test n)
  in_test n inner m l h = m l (inr (inr (has_left l (turn_test n) (turn_count n ++ (inner ++ loop_end n)) h)))

  behind_loop : (n : ℕ) (inner : List Op) → Made (loop_ops at n inner) → IsBlock all (n + 1)
  behind_loop n inner m = in_end n inner m (n + 1) (inr (inl refl))

  next_turn : (n : ℕ) (inner : List Op) → Made (loop_ops at n inner) → IsBlock all (n + 2)
  next_turn n inner m = in_end n inner m (n + 2) (inl refl)

  loop_settles : (n : ℕ) (inner : List Op) → Made (loop_ops at n inner) → Settles all inner → Settles all (loop_ops at n inner)
  loop_settles n inner m s =
      let k = n + 4 + calculation_size turns_are_out in
      let m0 = m n (inl refl) in
      let m3 = m (n + 3) (inr (inl refl)) in
      let m1 = behind_loop n inner m in
      let m2 = next_turn n inner m in
      let mt = in_test n inner m in
      let st = choice_settles (n + 4) turns_are_out (op.Return ∷ []) (op.Branch (k + 2) ∷ []) mt (tt, tt) (branch_settles (k + 2) (behind_choice (n + 4) turns_are_out (op.Return ∷ []) (op.Branch (k + 2) ∷ []) mt)) in (
        (block_fine all n m0, tt),
        (
          tt,
          (
            (block_fine all (n + 1) m1, (block_fine all (n + 2) m2, tt)),
            (
              (block_fine all (n + 3) m3, tt),
              (
                tt,
                settles_append all (turn_test n) (turn_count n ++ (inner ++ loop_end n)) st (settles_append all (turn_count n) (inner ++ loop_end n) (assign_settles turns one_turn_less (choice_end (n + 4) turns_are_out)) (settles_append all inner (loop_end n) s (tt, ((block_fine all n m0, tt), (tt, tt))))),
              ),
            ),
          ),
        ),
      )

  module _ (ds : List Declared) where
    leave_by_settles : (n : ℕ) (t : Test) (out : Op) → Made (leave_by ds at n t out) → Settles all (out ∷ []) → Settles all (leave_by ds at n t out)
    leave_by_settles n t out m s =
        let a = pieces_ops at n (test_pieces t) in
        let b = leave_ops at (test_start ds n t) (test_calculation t) out in
        settles_append all a b (pieces_settle (test_pieces t) n (left a b m)) (leave_settles (test_start ds n t) (test_calculation t) out (right a b m) s)

    -- every block
    pub body_settles : (x : Body) (n k b c : ℕ) → Made (body_ops ds at x n k b c) → IsBlock all k → IsBlock all b → IsBlock all c → Settles all (body_ops ds at x n k b c)
    body_settles End n k b c m ek eb ec = branch_settles k ek
    body_settles (Plain i rest) n k b c m ek eb ec =
        let q = instr_pieces ds i in
        let code = pieces_ops at n q in
        let more = body_ops ds at rest (pieces_end n q) k b c in
        settles_append all code more (pieces_settle q n (left code more m)) (body_settles rest (pieces_end n q) k b c (right code more m) ek eb ec)
    body_settles (If t x y rest) n k b c m ek eb ec =
        let s = test_start ds n t in
        let l = behind_test ds at n t in
        let n0 = test_end ds n t in
        let n1 = body_end ds x n0 in
        let n2 = body_end ds y n1 in
        let first = body_ops ds at x n0 l b c in
        let second = body_ops ds at y n1 l b c in
        let front = pieces_ops at n (test_pieces t) in
        let choice = choice_ops at s (test_calculation t) first second in
        let code = choose_by ds at n t first second in
        let more = body_ops ds at rest n2 k b c in
        let mc = left code more m in
        let mp = left front choice mc in
        let mi = right front choice mc in
        let el = behind_choice s (test_calculation t) first second mi in
        settles_append all code more
        (settles_append all front choice (pieces_settle (test_pieces t) n mp)
        (choice_settles s (test_calculation t) first second mi (body_settles x n0 l b c (in_first s (test_calculation t) first second mi) el eb ec) (body_settles y n1 l b c (in_second s (test_calculation t) first second mi) el eb ec)))
        (body_settles rest n2 k b c (right code more m) ek eb ec)
    body_settles (Loop inner rest) n k b c m ek eb ec =
        let n0 = inner_start n in
        let body = body_ops ds at inner n0 (n + 2) (n + 1) (n + 2) in
        let code = loop_ops at n body in
        let more = body_ops ds at rest (body_end ds inner n0) k b c in
        let mc = left code more m in
        let e1 = behind_loop n body mc in
        let e2 = next_turn n body mc in
        settles_append all code more (loop_settles n body mc (body_settles inner n0 (n + 2) (n + 1) (n + 2) (in_inner n body mc) e2 e1 e2)) (body_settles rest (body_end ds inner n0) k b c (right code more m) ek eb ec)
    body_settles (Break None rest) n k b c m ek eb ec = branch_settles b eb
    body_settles (Continue None rest) n k b c m ek eb ec = branch_settles c ec
    body_settles (Return None rest) n k b c m ek eb ec = (tt, tt)
    body_settles (Break (Some t) rest) n k b c m ek eb ec =
        let code = leave_by ds at n t (op.Branch b) in let more = body_ops ds at rest (test_end ds n t) k b c in
        settles_append all code more (leave_by_settles n t (op.Branch b) (left code more m) (branch_settles b eb)) (body_settles rest (test_end ds n t) k b c (right code more m) ek eb ec)
    body_settles (Continue (Some t) rest) n k b c m ek eb ec =
        let code = leave_by ds at n t (op.Branch c) in let more = body_ops ds at rest (test_end ds n t) k b c in
        settles_append all code more (leave_by_settles n t (op.Branch c) (left code more m) (branch_settles c ec)) (body_settles rest (test_end ds n t) k b c (right code more m) ek eb ec)
    body_settles (Return (Some t) rest) n k b c m ek eb ec =
        let code = leave_by ds at n t op.Return in let more = body_ops ds at rest (test_end ds n t) k b c in
        settles_append all code more (leave_by_settles n t op.Return (left code more m) (tt, tt)) (body_settles rest (test_end ds n t) k b c (right code more m) ek eb ec)
