-- The labels of code lie among its own ids.
use Rattle.std.proofs.Common.{◌≡◌, ℕ, ◌+◌, ◌≤◌, List, [], ◌∷◌, ◌++◌, Some, None, refl, ◌∙◌, arith}
use Rattle.shader_model.specs.declared.tree.Declared.{Declared}
use Rattle.shader_model.specs.declared.tree.Test.{Test}
use Rattle.shader_model.specs.Body.{Body, End, Plain, If, Loop, Break, Continue, Return}
use Rattle.spirv_model.specs.declared.settings.TheConstants as setting
use Rattle.spirv_model.specs.Op.{Op}
use Rattle.spirv_model.specs.Op as op
use Rattle.spirv_model.specs.Meaning.ModuleMeaning.{after_label}
use Rattle.spirv_emit.specs.declared.formula.Step.{Step}
use Rattle.spirv_emit.specs.declared.formula.Step.TheVariants.{One, Two, High, Choose}
use Rattle.spirv_emit.specs.declared.piece.Leaf.{Leaf}
use Rattle.spirv_emit.specs.declared.piece.Leaf.TheVariants.{Number, Variable, Length, Component, Flattened}
use Rattle.spirv_emit.specs.declared.piece.Calculation.{Calculation}
use Rattle.spirv_emit.specs.declared.piece.Action.{Action}
use Rattle.spirv_emit.specs.declared.piece.Action.TheVariants.{Fetch, Write, Change, Swap}
use Rattle.spirv_emit.specs.declared.piece.Piece.{Piece}
use Rattle.spirv_emit.specs.declared.piece.Piece.TheVariants.{Assign, Reach}
use Rattle.spirv_emit.specs.Steps.{steps_of}
use Rattle.spirv_emit.specs.Layout.{Layout}
use Rattle.spirv_emit.specs.Lower.{turns, instr_pieces, test_pieces, test_calculation}
use Rattle.spirv_emit.specs.Code.{leaf_size, calculation_size, leaf_ops, leaves_ops, steps_ops, calculation_ops, calculation_id, choice_ops, assign_ops, action_ops, missed_ops, reach_ops, piece_ops, piece_end, pieces_end, pieces_ops, choice_end, turns_are_out, one_turn_less, inner_start, loop_ops, leave_ops, test_start, test_end, body_end, leave_by, behind_test, body_ops}
use Rattle.spirv_emit.proofs.Meaning.LabelPlaces.{after_append, Within, within_none, within_append, within_more, within_op, within_label}

module _ (at : Layout) where
  -- straight-line code has no labels
  pub leaf_free : (l : Leaf) (n k : ℕ) → after_label k (leaf_ops at n l) ≡ None
  leaf_free (Number v) n k = refl
  leaf_free (Variable x) n k = refl
  leaf_free (Length b) n k = refl
  leaf_free (Component v c) n k = refl
  leaf_free Flattened n k = refl

  leaves_free : (ls : List Leaf) (n k : ℕ) → after_label k (leaves_ops at n ls) ≡ None
  leaves_free [] n k = refl
  leaves_free (l ∷ ls) n k = after_append k (leaf_ops at n l) _ (leaf_free l n k) ∙ leaves_free ls (n + leaf_size l) k

  steps_free : (ss : List Step) (ids : List ℕ) (first r k : ℕ) → after_label k (steps_ops at ids first r ss) ≡ None
  steps_free [] ids first r k = refl
  steps_free (One o a ∷ ss) ids first r k = steps_free ss ids first (r + 1) k
  steps_free (Two o a b ∷ ss) ids first r k = steps_free ss ids first (r + 1) k
  steps_free (High a ∷ ss) ids first r k = steps_free ss ids first (r + 1) k
  steps_free (Choose c a b ∷ ss) ids first r k = steps_free ss ids first (r + 1) k

  pub calculation_free : (c : Calculation) (n k : ℕ) → after_label k (calculation_ops at n c) ≡ None
  calculation_free c n k = after_append k (leaves_ops at n c.leaves) _ (leaves_free c.leaves n k) ∙ steps_free (steps_of c.formula) _ _ _ k

  calculation_within : (c : Calculation) (n lo hi : ℕ) → Within lo hi (calculation_ops at n c)
  calculation_within c n lo hi = record { out = λ l h. calculation_free c n l }

  pub assign_free : (c : Calculation) (n x k : ℕ) → after_label k (assign_ops at n x c) ≡ None
  assign_free c n x k = after_append k (calculation_ops at n c) _ (calculation_free c n k)

  pub choice_within : (n : ℕ) (c : Calculation) (a b : List Op) (hi : ℕ) → choice_end n c ≤ hi → Within (choice_end n c) hi a → Within (choice_end n c) hi b → Within n hi (choice_ops at n c a b)
  choice_within n c a b hi le wa wb =
      let l = n + calculation_size c in
      let wa' = within_more (l + 3) hi n hi a (omega arith) (omega arith) wa in
      let wb' = within_more (l + 3) hi n hi b (omega arith) (omega arith) wb in
      within_append n hi (calculation_ops at n c) _ (calculation_within c n n hi)
      (within_op n hi (op.SelectionMerge (l + 2) setting.NO_CONTROL) _ (λ l. refl) (within_op n hi (op.BranchConditional (calculation_id at n c) l (l + 1)) _ (λ l. refl)
      (within_label n hi l _ (omega arith) (omega arith)
      (within_append n hi a _ wa' (within_label n hi (l + 1) _ (omega arith) (omega arith)
      (within_append n hi b _ wb' (within_label n hi (l + 2) [] (omega arith) (omega arith) (within_none n hi))))))))

  one_within : (lo hi : ℕ) (o : Op) → ((l : ℕ) → after_label l (o ∷ []) ≡ None) → Within lo hi (o ∷ [])
  one_within lo hi o e = record { out = λ l h. e l }

  -- ## Pieces

  action_free : (a : Action) (n p l k : ℕ) → after_label k (action_ops at n p a ++ (op.Branch l ∷ [])) ≡ None
  action_free (Fetch x) n p l k = refl
  action_free (Write v) n p l k = after_append k (action_ops at n p (Write v)) _ (after_append k (leaf_ops at n v) _ (leaf_free v n k))
  action_free (Change o v x) n p l k = after_append k (action_ops at n p (Change o v x)) _ (after_append k (leaf_ops at n v) _ (leaf_free v n k))
  action_free (Swap v c x) n p l k =
      after_append k (action_ops at n p (Swap v c x)) _ (after_append k (leaf_ops at n v) _ (leaf_free v n k) ∙ after_append k (leaf_ops at (n + leaf_size v) c) _ (leaf_free c (n + leaf_size v) k))

  reach_free : (n b : ℕ) (c : Calculation) (a : Action) (l k : ℕ) → after_label k (reach_ops at n b c a l) ≡ None
  reach_free n b c a l k = after_append k (calculation_ops at n c) _ (calculation_free c n k) ∙ action_free a (n + calculation_size c + 1) (n + calculation_size c) l k

  missed_free : (a : Action) (l k : ℕ) → after_label k (missed_ops at a ++ (op.Branch l ∷ [])) ≡ None
  missed_free (Fetch x) l k = refl
  missed_free (Write v) l k = refl
  missed_free (Change o v x) l k = refl
  missed_free (Swap v c x) l k = refl

  pub reach_within : (n b : ℕ) (c : Calculation) (a : Action) (l lo hi : ℕ) → Within lo hi (reach_ops at n b c a l)
  reach_within n b c a l lo hi = record { out = λ k h. reach_free n b c a l k }

  pub missed_within : (a : Action) (l lo hi : ℕ) → Within lo hi (missed_ops at a ++ (op.Branch l ∷ []))
  missed_within a l lo hi = record { out = λ k h. missed_free a l k }

  pub piece_grows : (p : Piece) (n : ℕ) → n ≤ piece_end n p
  piece_grows (Assign x c) n = omega arith
  piece_grows (Reach g b c a) n = omega arith

  pub piece_within : (p : Piece) (n : ℕ) → Within n (piece_end n p) (piece_ops at n p)
  piece_within (Assign x c) n = record { out = λ l h. assign_free c n x l }
  piece_within (Reach g b c a) n =
      let hi = piece_end n (Reach g b c a) in
      choice_within n g _ _ hi (omega arith) (reach_within _ b c a _ _ _) (missed_within a _ _ _)

  pub pieces_grow : (ps : List Piece) (n : ℕ) → n ≤ pieces_end n ps
  pieces_grow [] n = omega arith
  pieces_grow (p ∷ ps) n = let h = piece_grows p n in let r = pieces_grow ps (piece_end n p) in omega arith

  -- two stretches, one behind the other
  pub two_within : (n m hi : ℕ) (a b : List Op) → n ≤ m → m ≤ hi → Within n m a → Within m hi b → Within n hi (a ++ b)
  two_within n m hi a b p q wa wb = within_append n hi a b (within_more n m n hi a (omega arith) q wa) (within_more m hi n hi b p (omega arith) wb)

  pub pieces_within : (ps : List Piece) (n : ℕ) → Within n (pieces_end n ps) (pieces_ops at n ps)
  pieces_within [] n = within_none n n
  pieces_within (p ∷ ps) n =
      two_within n (piece_end n p) _ _ _ (piece_grows p n) (pieces_grow ps (piece_end n p)) (piece_within p n) (pieces_within ps (piece_end n p))

  -- ## Loops

  pub loop_within : (n hi : ℕ) (inner : List Op) → inner_start n ≤ hi → Within (inner_start n) hi inner → Within n hi (loop_ops at n inner)
  loop_within n hi inner le w =
      let front = choice_within (n + 4) turns_are_out (op.Return ∷ []) (op.Branch (n + 4 + calculation_size turns_are_out + 2) ∷ []) hi (omega arith)
      (one_within _ _ op.Return (λ l. refl)) (one_within _ _ (op.Branch (n + 4 + calculation_size turns_are_out + 2)) (λ l. refl)) in
      within_op n hi (op.Branch n) _ (λ l. refl) (within_label n hi n _ (omega arith) (omega arith)
      (within_op n hi (op.LoopMerge (n + 1) (n + 2) setting.NO_CONTROL) _ (λ l. refl) (within_op n hi (op.Branch (n + 3)) _ (λ l. refl)
      (within_label n hi (n + 3) _ (omega arith) (omega arith)
      (within_append n hi _ _ (within_more (n + 4) hi n hi _ (omega arith) (omega arith) front)
      (within_append n hi (assign_ops at (choice_end (n + 4) turns_are_out) turns one_turn_less) _ (record { out = λ l h. assign_free one_turn_less (choice_end (n + 4) turns_are_out) turns l })
      (within_append n hi inner _ (within_more (inner_start n) hi n hi inner (omega arith) (omega arith) w)
      (within_label n hi (n + 2) _ (omega arith) (omega arith) (within_op n hi (op.Branch n) _ (λ l. refl) (within_label n hi (n + 1) [] (omega arith) (omega arith) (within_none n hi)))))))))))

  pub leave_within : (n : ℕ) (c : Calculation) (o : Op) → ((l : ℕ) → after_label l (o ∷ []) ≡ None) → Within n (choice_end n c) (leave_ops at n c o)
  leave_within n c o e = choice_within n c _ _ (choice_end n c) (omega arith) (one_within _ _ o e) (one_within _ _ (op.Branch (n + calculation_size c + 2)) (λ l. refl))

  -- ## Blocks

  module _ (ds : List Declared) where
    pub test_grows : (n : ℕ) (t : Test) → n ≤ test_start ds n t
    test_grows n t = pieces_grow (test_pieces t) n

    pub body_grows : (b : Body) (n : ℕ) → n ≤ body_end ds b n
    body_grows End n = omega arith
    body_grows (Plain i rest) n = let h = pieces_grow (instr_pieces ds i) n in let r = body_grows rest (pieces_end n (instr_pieces ds i)) in omega arith
    body_grows (If t a b rest) n =
        let h = test_grows n t in
        let ra = body_grows a (test_end ds n t) in
        let rb = body_grows b (body_end ds a (test_end ds n t)) in
        let r = body_grows rest (body_end ds b (body_end ds a (test_end ds n t))) in
        omega arith
    body_grows (Loop inner rest) n =
        let ri = body_grows inner (inner_start n) in let r = body_grows rest (body_end ds inner (inner_start n)) in omega arith
    body_grows (Break None rest) n = omega arith
    body_grows (Break (Some t) rest) n = let h = test_grows n t in let r = body_grows rest (test_end ds n t) in omega arith
    body_grows (Continue None rest) n = omega arith
    body_grows (Continue (Some t) rest) n = let h = test_grows n t in let r = body_grows rest (test_end ds n t) in omega arith
    body_grows (Return None rest) n = omega arith
    body_grows (Return (Some t) rest) n = let h = test_grows n t in let r = body_grows rest (test_end ds n t) in omega arith

    pub leave_by_within : (n : ℕ) (t : Test) (o : Op) → ((l : ℕ) → after_label l (o ∷ []) ≡ None) → Within n (test_end ds n t) (leave_by ds at n t o)
    leave_by_within n t o e =
        two_within n (test_start ds n t) _ _ _ (test_grows n t) (omega arith) (pieces_within (test_pieces t) n) (leave_within (test_start ds n t) (test_calculation t) o e)

    pub body_within : (x : Body) (n k b c : ℕ) → Within n (body_end ds x n) (body_ops ds at x n k b c)
    body_within End n k b c = one_within _ _ (op.Branch k) (λ l. refl)
    body_within (Plain i rest) n k b c =
        let n1 = pieces_end n (instr_pieces ds i) in
        two_within n n1 _ _ _ (pieces_grow (instr_pieces ds i) n) (body_grows rest n1) (pieces_within (instr_pieces ds i) n) (body_within rest n1 k b c)
    body_within (If t x y rest) n k b c =
        let n0 = test_end ds n t in
        let n1 = body_end ds x n0 in
        let n2 = body_end ds y n1 in
        let h = test_grows n t in
        let g1 = body_grows x n0 in let g2 = body_grows y n1 in
        let l = behind_test ds at n t in
        two_within n n2 _ _ _ (omega arith) (body_grows rest n2)
        (two_within n (test_start ds n t) n2 _ _ h (omega arith) (pieces_within (test_pieces t) n)
        (choice_within (test_start ds n t) (test_calculation t) _ _ n2 (omega arith)
        (within_more n0 n1 n0 n2 _ (omega arith) g2 (body_within x n0 l b c))
        (within_more n1 n2 n0 n2 _ g1 (omega arith) (body_within y n1 l b c))))
        (body_within rest n2 k b c)
    body_within (Loop inner rest) n k b c =
        let n1 = body_end ds inner (inner_start n) in
        let g = body_grows inner (inner_start n) in
        two_within n n1 _ _ _ (omega arith) (body_grows rest n1) (loop_within n n1 _ g (body_within inner (inner_start n) (n + 2) (n + 1) (n + 2))) (body_within rest n1 k b c)
    body_within (Break None rest) n k b c = one_within _ _ (op.Branch b) (λ l. refl)
    body_within (Break (Some t) rest) n k b c =
        let h = test_grows n t in
        two_within n (test_end ds n t) _ _ _ (omega arith) (body_grows rest (test_end ds n t)) (leave_by_within n t (op.Branch b) (λ l. refl)) (body_within rest (test_end ds n t) k b c)
    body_within (Continue None rest) n k b c = one_within _ _ (op.Branch c) (λ l. refl)
    body_within (Continue (Some t) rest) n k b c =
        let h = test_grows n t in
        two_within n (test_end ds n t) _ _ _ (omega arith) (body_grows rest (test_end ds n t)) (leave_by_within n t (op.Branch c) (λ l. refl)) (body_within rest (test_end ds n t) k b c)
    body_within (Return None rest) n k b c = one_within _ _ op.Return (λ l. refl)
    body_within (Return (Some t) rest) n k b c =
        let h = test_grows n t in
        two_within n (test_end ds n t) _ _ _ (omega arith) (body_grows rest (test_end ds n t)) (leave_by_within n t op.Return (λ l. refl)) (body_within rest (test_end ds n t) k b c)
