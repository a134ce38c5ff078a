-- All instructions of an emitted module can be spelled.
use Rattle.std.proofs.Common.{◌≡◌, ℕ, zero, suc, ◌+◌, ◌-◌, ◌<◌, Bool, true, false, List, [], ◌∷◌, ◌++◌, length, Some, None, refl}
use Rattle.std.specs.Prelude.{◌&&◌, nat_lt, nat_le}
use Rattle.std.proofs.lemmas.Bool.{ltb-true}
use Rattle.shader_model.specs.declared.tree.Declared.{Declared}
use Rattle.shader_model.specs.declared.tree.Test.{Test}
use Rattle.shader_model.specs.Body.{Body, End, Plain, If, Loop, Break, Continue, Return}
use Rattle.shader_model.specs.Shader.{Program}
use Rattle.spirv_model.specs.Op.{Op}
use Rattle.spirv_model.specs.Op as op
use Rattle.spirv_model.specs.Decoration.{values_of}
use Rattle.spirv_model.specs.Table.{is_counted}
use Rattle.spirv_emit.specs.declared.formula.Step.{Step}
use Rattle.spirv_emit.specs.declared.formula.Step.TheVariants.{One, Two, High, Choose}
use Rattle.spirv_emit.specs.declared.piece.Leaf.{Leaf}
use Rattle.spirv_emit.specs.declared.piece.Leaf.TheVariants.{Number, Variable, Length, Component, Flattened}
use Rattle.spirv_emit.specs.declared.piece.Calculation.{Calculation}
use Rattle.spirv_emit.specs.declared.piece.Action.{Action}
use Rattle.spirv_emit.specs.declared.piece.Action.TheVariants.{Fetch, Write, Change, Swap}
use Rattle.spirv_emit.specs.declared.piece.Piece.{Piece}
use Rattle.spirv_emit.specs.declared.piece.Piece.TheVariants.{Assign, Reach}
use Rattle.spirv_emit.specs.Steps.{steps_of}
use Rattle.spirv_emit.specs.Layout.{Layout, first_number}
use Rattle.spirv_emit.specs.Lower.{turns, instr_pieces, test_pieces, test_calculation}
use Rattle.spirv_emit.specs.Numbers.{numbers_of, layout_of}
use Rattle.spirv_emit.specs.Code.{leaf_size, leaves_size, calculation_size, leaf_ops, leaves_ops, leaf_ids, steps_ops, calculation_ops, choice_ops, assign_ops, action_ops, missed_ops, reach_ops, piece_ops, piece_end, pieces_ops, pieces_end, choice_end, turns_are_out, one_turn_less, inner_start, loop_ops, test_start, test_end, body_end, leave_by, choose_by, behind_test, body_ops}
use Rattle.spirv_emit.specs.Module.{preamble, constants, zero_variables, last_label, body_start, function_ops, module_ops}
use Rattle.spirv_emit.proofs.Words.ReadBack.{IsSpelled, AreSpelled}

-- ## A test that tells

abbrev pub is_spelled : Op → Bool
is_spelled (op.EntryPoint m f n n' is) = nat_lt (length is) 60000
is_spelled (op.TypeStruct r ms) = nat_lt (length ms) 60000
is_spelled (op.Decorate x d vs) = is_counted (values_of d) (length vs) && nat_lt (length vs) 60000
is_spelled (op.MemberDecorate x m d vs) = is_counted (values_of d) (length vs) && nat_lt (length vs) 60000
is_spelled (op.Variable t r c vs) = nat_le (length vs) 1 && nat_lt (length vs) 60000
is_spelled (op.AccessChain t r b is) = (nat_le 1 (length is) && nat_le (length is) 2) && nat_lt (length is) 60000
is_spelled o = true

abbrev pub all_spelled : List Op → Bool
all_spelled [] = true
all_spelled (o ∷ os) = is_spelled o && all_spelled os

and_parts : (a b : Bool) → (a && b) ≡ true → (a ≡ true) × (b ≡ true)
and_parts true true e = (refl, refl)
and_parts true false e = cc
and_parts false b e = cc

both_true : (a b : Bool) → a ≡ true → b ≡ true → (a && b) ≡ true
both_true true b e f = f
both_true false b e f = cc

counted : (a : Bool) (n : ℕ) → (a && nat_lt n 60000) ≡ true → (a ≡ true) × (n < 60000)
counted a n e = let p = and_parts a (nat_lt n 60000) e in (p.0, ltb-true n 60000 p.1)

told : (o : Op) → is_spelled o ≡ true → IsSpelled o
told (op.EntryPoint m f n n' is) e = ltb-true (length is) 60000 e
told (op.TypeStruct r ms) e = ltb-true (length ms) 60000 e
told (op.Decorate x d vs) e = counted (is_counted (values_of d) (length vs)) (length vs) e
told (op.MemberDecorate x m d vs) e = counted (is_counted (values_of d) (length vs)) (length vs) e
told (op.Variable t r c vs) e = counted (nat_le (length vs) 1) (length vs) e
told (op.AccessChain t r b is) e = counted (nat_le 1 (length is) && nat_le (length is) 2) (length is) e
told (op.MemoryModel a m) e = tt
told (op.ExecutionMode f m x y z) e = tt
told (op.Capability c) e = tt
told (op.TypeVoid r) e = tt
told (op.TypeBool r) e = tt
told (op.TypeInt r w s) e = tt
told (op.TypeVector r t n) e = tt
told (op.TypeRuntimeArray r t) e = tt
told (op.TypePointer r c t) e = tt
told (op.TypeFunction r t) e = tt
told (op.Constant t r v) e = tt
told (op.Function t r c f) e = tt
told op.FunctionEnd e = tt
told (op.Load t r p) e = tt
told (op.Store p v) e = tt
told (op.CompositeExtract t r v i) e = tt
told (op.Unary o t r a) e = tt
told (op.Binary o t r a b) e = tt
told (op.Select t r c a b) e = tt
told (op.Atomic o t r p s m v) e = tt
told (op.AtomicCompareExchange t r p s x u v c) e = tt
told (op.LoopMerge m n c) e = tt
told (op.SelectionMerge m c) e = tt
told (op.Label r) e = tt
told (op.Branch l) e = tt
told (op.BranchConditional c a b) e = tt
told op.Return e = tt

pub all_told : (os : List Op) → all_spelled os ≡ true → AreSpelled os
all_told [] e = tt
all_told (o ∷ os) e = let p = and_parts (is_spelled o) (all_spelled os) e in (told o p.0, all_told os p.1)

spelled_both : (a b : List Op) → all_spelled a ≡ true → all_spelled b ≡ true → all_spelled (a ++ b) ≡ true
spelled_both [] b e f = f
spelled_both (o ∷ a) b e f = let p = and_parts (is_spelled o) (all_spelled a) e in both_true (is_spelled o) (all_spelled (a ++ b)) p.0 (spelled_both a b p.1 f)

-- ## Code

module _ (at : Layout) where
  leaf_spelled : (l : Leaf) (n : ℕ) → all_spelled (leaf_ops at n l) ≡ true
  leaf_spelled (Number v) n = refl
  leaf_spelled (Variable x) n = refl
  leaf_spelled (Length b) n = refl
  leaf_spelled (Component v c) n = refl
  leaf_spelled Flattened n = refl

  leaves_spelled : (ls : List Leaf) (n : ℕ) → all_spelled (leaves_ops at n ls) ≡ true
  leaves_spelled [] n = refl
  leaves_spelled (l ∷ ls) n = spelled_both (leaf_ops at n l) _ (leaf_spelled l n) (leaves_spelled ls (n + leaf_size l))

  steps_spelled : (ss : List Step) (ids : List ℕ) (first r : ℕ) → all_spelled (steps_ops at ids first r ss) ≡ true
  steps_spelled [] ids first r = refl
  steps_spelled (One o a ∷ ss) ids first r = steps_spelled ss ids first (r + 1)
  steps_spelled (Two o a b ∷ ss) ids first r = steps_spelled ss ids first (r + 1)
  steps_spelled (High a ∷ ss) ids first r = steps_spelled ss ids first (r + 1)
  steps_spelled (Choose c a b ∷ ss) ids first r = steps_spelled ss ids first (r + 1)

  calculation_spelled : (c : Calculation) (n : ℕ) → all_spelled (calculation_ops at n c) ≡ true
  calculation_spelled c n = spelled_both (leaves_ops at n c.leaves) _ (leaves_spelled c.leaves n) (steps_spelled (steps_of c.formula) (leaf_ids at n c.leaves) (n + leaves_size c.leaves) (n + leaves_size c.leaves))

  choice_spelled : (n : ℕ) (c : Calculation) (a b : List Op) → all_spelled a ≡ true → all_spelled b ≡ true → all_spelled (choice_ops at n c a b) ≡ true
  choice_spelled n c a b ea eb =
      let l = n + calculation_size c in
      spelled_both (calculation_ops at n c) _ (calculation_spelled c n) (spelled_both a (op.Label (l + 1) ∷ (b ++ (op.Label (l + 2) ∷ []))) ea (spelled_both b (op.Label (l + 2) ∷ []) eb refl))

  assign_spelled : (c : Calculation) (n x : ℕ) → all_spelled (assign_ops at n x c) ≡ true
  assign_spelled c n x = spelled_both (calculation_ops at n c) _ (calculation_spelled c n) refl

  action_spelled : (a : Action) (n p : ℕ) → all_spelled (action_ops at n p a) ≡ true
  action_spelled (Fetch x) n p = refl
  action_spelled (Write v) n p = spelled_both (leaf_ops at n v) _ (leaf_spelled v n) refl
  action_spelled (Change o v x) n p = spelled_both (leaf_ops at n v) _ (leaf_spelled v n) refl
  action_spelled (Swap v c x) n p = spelled_both (leaf_ops at n v) _ (leaf_spelled v n) (spelled_both (leaf_ops at (n + leaf_size v) c) _ (leaf_spelled c (n + leaf_size v)) refl)

  missed_spelled : (a : Action) (l : ℕ) → all_spelled (missed_ops at a ++ (op.Branch l ∷ [])) ≡ true
  missed_spelled (Fetch x) l = refl
  missed_spelled (Write v) l = refl
  missed_spelled (Change o v x) l = refl
  missed_spelled (Swap v c x) l = refl

  reach_spelled : (n b : ℕ) (c : Calculation) (a : Action) (l : ℕ) → all_spelled (reach_ops at n b c a l) ≡ true
  reach_spelled n b c a l =
      spelled_both (calculation_ops at n c) _ (calculation_spelled c n)
      (spelled_both (action_ops at (n + calculation_size c + 1) (n + calculation_size c) a) _ (action_spelled a (n + calculation_size c + 1) (n + calculation_size c)) refl)

  piece_spelled : (p : Piece) (n : ℕ) → all_spelled (piece_ops at n p) ≡ true
  piece_spelled (Assign x c) n = assign_spelled c n x
  piece_spelled (Reach g b c a) n =
      let l = n + calculation_size g in
      choice_spelled n g (reach_ops at (l + 3) b c a (l + 2)) (missed_ops at a ++ (op.Branch (l + 2) ∷ [])) (reach_spelled (l + 3) b c a (l + 2)) (missed_spelled a (l + 2))

  pieces_spelled : (ps : List Piece) (n : ℕ) → all_spelled (pieces_ops at n ps) ≡ true
  pieces_spelled [] n = refl
  pieces_spelled (p ∷ ps) n = spelled_both (piece_ops at n p) _ (piece_spelled p n) (pieces_spelled ps (piece_end n p))

  loop_spelled : (n : ℕ) (inner : List Op) → all_spelled inner ≡ true → all_spelled (loop_ops at n inner) ≡ true
  loop_spelled n inner e =
      let test = choice_ops at (n + 4) turns_are_out (op.Return ∷ []) (op.Branch (n + 4 + calculation_size turns_are_out + 2) ∷ []) in
      let count = assign_ops at (choice_end (n + 4) turns_are_out) turns one_turn_less in
      let last = op.Label (n + 2) ∷ op.Branch n ∷ op.Label (n + 1) ∷ [] in
      spelled_both test (count ++ (inner ++ last)) (choice_spelled (n + 4) turns_are_out (op.Return ∷ []) (op.Branch (n + 4 + calculation_size turns_are_out + 2) ∷ []) refl refl)
      (spelled_both count (inner ++ last) (assign_spelled one_turn_less (choice_end (n + 4) turns_are_out) turns) (spelled_both inner last e refl))

  module _ (ds : List Declared) where
    choose_spelled : (n : ℕ) (t : Test) (a b : List Op) → all_spelled a ≡ true → all_spelled b ≡ true → all_spelled (choose_by ds at n t a b) ≡ true
    choose_spelled n t a b ea eb = spelled_both (pieces_ops at n (test_pieces t)) _ (pieces_spelled (test_pieces t) n) (choice_spelled (test_start ds n t) (test_calculation t) a b ea eb)

    body_spelled : (x : Body) (n k b c : ℕ) → all_spelled (body_ops ds at x n k b c) ≡ true
    body_spelled End n k b c = refl
    body_spelled (Plain i rest) n k b c = spelled_both (pieces_ops at n (instr_pieces ds i)) _ (pieces_spelled (instr_pieces ds i) n) (body_spelled rest (pieces_end n (instr_pieces ds i)) k b c)
    body_spelled (If t x y rest) n k b c =
        let n0 = test_end ds n t in
        let n1 = body_end ds x n0 in
        let n2 = body_end ds y n1 in
        let l = behind_test ds at n t in
        let first = body_ops ds at x n0 l b c in
        let second = body_ops ds at y n1 l b c in
        spelled_both (choose_by ds at n t first second) (body_ops ds at rest n2 k b c) (choose_spelled n t first second (body_spelled x n0 l b c) (body_spelled y n1 l b c)) (body_spelled rest n2 k b c)
    body_spelled (Loop inner rest) n k b c =
        let code = body_ops ds at inner (inner_start n) (n + 2) (n + 1) (n + 2) in
        let n1 = body_end ds inner (inner_start n) in
        spelled_both (loop_ops at n code) (body_ops ds at rest n1 k b c) (loop_spelled n code (body_spelled inner (inner_start n) (n + 2) (n + 1) (n + 2))) (body_spelled rest n1 k b c)
    body_spelled (Break None rest) n k b c = refl
    body_spelled (Break (Some t) rest) n k b c = spelled_both (leave_by ds at n t (op.Branch b)) _ (choose_spelled n t (op.Branch b ∷ []) (op.Branch (behind_test ds at n t) ∷ []) refl refl) (body_spelled rest (test_end ds n t) k b c)
    body_spelled (Continue None rest) n k b c = refl
    body_spelled (Continue (Some t) rest) n k b c = spelled_both (leave_by ds at n t (op.Branch c)) _ (choose_spelled n t (op.Branch c ∷ []) (op.Branch (behind_test ds at n t) ∷ []) refl refl) (body_spelled rest (test_end ds n t) k b c)
    body_spelled (Return None rest) n k b c = refl
    body_spelled (Return (Some t) rest) n k b c = spelled_both (leave_by ds at n t op.Return) _ (choose_spelled n t (op.Return ∷ []) (op.Branch (behind_test ds at n t) ∷ []) refl refl) (body_spelled rest (test_end ds n t) k b c)

constants_spelled : (vs : List ℕ) (n : ℕ) → all_spelled (constants n vs) ≡ true
constants_spelled [] n = refl
constants_spelled (v ∷ vs) n = constants_spelled vs (n + 1)

zero_variables_spelled : (at : Layout) (c n : ℕ) → all_spelled (zero_variables at n c) ≡ true
zero_variables_spelled at zero n = refl
zero_variables_spelled at (suc c) n = zero_variables_spelled at c (n + 1)

preamble_spelled : (g : List ℕ) → all_spelled (preamble g) ≡ true
preamble_spelled g = refl

pub module_spelled : (p : Program) → AreSpelled (module_ops p)
unfolding module_ops
module_spelled p =
    let at = layout_of p in
    let l = last_label at in
    let zeros = zero_variables at (at.first_variable + 1) (at.variables - 1) in
    let code = body_ops p.declared at p.body (body_start at) l l l in
    let last = op.Label l ∷ op.Return ∷ op.FunctionEnd ∷ [] in
    let numbers = constants first_number (numbers_of p) in
    all_told (module_ops p) (spelled_both (preamble p.group) (numbers ++ function_ops p) (preamble_spelled p.group)
    (spelled_both numbers (function_ops p) (constants_spelled (numbers_of p) first_number)
    (spelled_both zeros (code ++ last) (zero_variables_spelled at (at.variables - 1) (at.first_variable + 1))
    (spelled_both code last (body_spelled at p.declared p.body (body_start at) l l l) refl))))
