-- The instructions of a shader's code. Each stretch begins with the next free id n, and takes ids from there on.
use Rattle.std.specs.Prelude.{ℕ, ◌+◌, List, [], ◌∷◌, ◌++◌, length, slice_index, Some, None}
use Rattle.shader_model.specs.declared.tree.Declared.{Declared}
use Rattle.shader_model.specs.declared.tree.Test.{Test}
use Rattle.shader_model.specs.Body.{Body, End, Plain, If, Loop, Break, Continue, Return}
use Rattle.spirv_model.specs.declared.settings.TheConstants as setting
use Rattle.spirv_model.specs.declared.code.UnaryCode.{UnaryCode}
use Rattle.spirv_model.specs.declared.code.UnaryCode.TheVariants as unary
use Rattle.spirv_model.specs.declared.code.BinaryCode.{BinaryCode}
use Rattle.spirv_model.specs.declared.code.BinaryCode.TheVariants as binary
use Rattle.spirv_model.specs.Op.{Op}
use Rattle.spirv_model.specs.Op as op
use Rattle.spirv_emit.specs.declared.formula.Taken.{Taken}
use Rattle.spirv_emit.specs.declared.formula.Taken.TheVariants as taken
use Rattle.spirv_emit.specs.declared.formula.Step.{Step}
use Rattle.spirv_emit.specs.declared.formula.Step.TheVariants.{One, Two, High, Choose}
use Rattle.spirv_emit.specs.declared.formula.Formula.TheVariants as formula
use Rattle.spirv_emit.specs.declared.piece.Leaf.{Leaf}
use Rattle.spirv_emit.specs.declared.piece.Leaf.TheVariants.{Number, Variable, Length, Component, Flattened}
use Rattle.spirv_emit.specs.declared.piece.Calculation.{Calculation}
use Rattle.spirv_emit.specs.declared.piece.Action.{Action}
use Rattle.spirv_emit.specs.declared.piece.Action.TheVariants.{Fetch, Write, Change, Swap}
use Rattle.spirv_emit.specs.declared.piece.Piece.{Piece}
use Rattle.spirv_emit.specs.declared.piece.Piece.TheVariants.{Assign, Reach}
use Rattle.spirv_emit.specs.Steps.{steps_of}
use Rattle.spirv_emit.specs.Layout.{word_type, truth_type, vector_type, pair_type, to_length, to_word, thread_index, lengths, vector_id, buffer_at, Layout, variable}
use Rattle.spirv_emit.specs.Lower.{nought, calculation, turns, instr_pieces, test_pieces, test_calculation}

-- ## Types of results

abbrev pub one_type : UnaryCode → ℕ
one_type unary.LogicalNot = truth_type
one_type o = word_type

abbrev pub two_type : BinaryCode → ℕ
two_type binary.WideMultiply = pair_type
two_type binary.SignedWideMultiply = pair_type
two_type binary.LogicalAnd = truth_type
two_type binary.Equal = truth_type
two_type binary.NotEqual = truth_type
two_type binary.GreaterEqual = truth_type
two_type binary.SignedGreaterEqual = truth_type
two_type binary.Less = truth_type
two_type binary.SignedLess = truth_type
two_type o = word_type

-- ## Sizes

-- how many ids a leaf takes, and some leaves
abbrev pub leaf_size : Leaf → ℕ
leaf_size (Number v) = 0
leaf_size (Variable x) = 1
leaf_size (Length b) = 2
leaf_size (Component v c) = 2
leaf_size Flattened = 1

abbrev pub leaves_size : List Leaf → ℕ
leaves_size [] = 0
leaves_size (l ∷ ls) = leaf_size l + leaves_size ls

-- each step takes one
abbrev pub calculation_size : Calculation → ℕ
calculation_size c = leaves_size c.leaves + length (steps_of c.formula)

abbrev pub action_size : Action → ℕ
action_size (Fetch x) = 1
action_size (Write v) = leaf_size v
action_size (Change o v x) = leaf_size v + 1
action_size (Swap v c x) = leaf_size v + leaf_size c + 1

-- ## Calculations

module _ (at : Layout) where
  abbrev pub leaf_ops : ℕ → Leaf → List Op
  leaf_ops n (Number v) = []
  leaf_ops n (Variable x) = op.Load word_type n (variable at x) ∷ []
  leaf_ops n (Length b) = op.AccessChain to_length n lengths (at.number b ∷ []) ∷ op.Load word_type (n + 1) n ∷ []
  leaf_ops n (Component v c) = op.Load vector_type n (vector_id v) ∷ op.CompositeExtract word_type (n + 1) n c ∷ []
  leaf_ops n Flattened = op.Load word_type n thread_index ∷ []

  -- the id of a leaf's value
  abbrev pub leaf_id : ℕ → Leaf → ℕ
  leaf_id n (Number v) = at.number v
  leaf_id n (Variable x) = n
  leaf_id n (Length b) = n + 1
  leaf_id n (Component v c) = n + 1
  leaf_id n Flattened = n

  abbrev pub leaves_ops : ℕ → List Leaf → List Op
  leaves_ops n [] = []
  leaves_ops n (l ∷ ls) = leaf_ops n l ++ leaves_ops (n + leaf_size l) ls

  abbrev pub leaf_ids : ℕ → List Leaf → List ℕ
  leaf_ids n [] = []
  leaf_ids n (l ∷ ls) = leaf_id n l ∷ leaf_ids (n + leaf_size l) ls

  -- the steps' ids begin with `first`
  abbrev pub taken_id : (leaves : List ℕ) → (first : ℕ) → Taken → ℕ
  taken_id ids first (taken.Leaf i) = slice_index ids i
  taken_id ids first (taken.Made i) = first + i
  taken_id ids first (taken.Number v) = at.number v

  abbrev pub step_op : (leaves : List ℕ) → (first r : ℕ) → Step → Op
  step_op ids first r (One o a) = op.Unary o (one_type o) r (taken_id ids first a)
  step_op ids first r (Two o a b) = op.Binary o (two_type o) r (taken_id ids first a) (taken_id ids first b)
  step_op ids first r (High a) = op.CompositeExtract word_type r (taken_id ids first a) 1
  step_op ids first r (Choose c a b) = op.Select word_type r (taken_id ids first c) (taken_id ids first a) (taken_id ids first b)

  abbrev pub steps_ops : (leaves : List ℕ) → (first r : ℕ) → List Step → List Op
  steps_ops ids first r [] = []
  steps_ops ids first r (s ∷ ss) = step_op ids first r s ∷ steps_ops ids first (r + 1) ss

  -- the id of the last step's value, or that of the first leaf
  abbrev pub last_id : (leaves : List ℕ) → (first : ℕ) → List Step → ℕ
  last_id ids first [] = slice_index ids 0
  last_id ids first (s ∷ ss) = first + length ss

  abbrev pub calculation_ops : ℕ → Calculation → List Op
  calculation_ops n c =
      let first = n + leaves_size c.leaves in
      leaves_ops n c.leaves ++ steps_ops (leaf_ids n c.leaves) first first (steps_of c.formula)

  abbrev pub calculation_id : ℕ → Calculation → ℕ
  calculation_id n c = last_id (leaf_ids n c.leaves) (n + leaves_size c.leaves) (steps_of c.formula)

  -- ## Choices

  -- Both sides leave by a branch. They begin behind the condition and three labels; the third is behind the choice.
  abbrev pub choice_ops : ℕ → Calculation → (first second : List Op) → List Op
  choice_ops n c first second =
      let l = n + calculation_size c in
      calculation_ops n c
      ++ (op.SelectionMerge (l + 2) setting.NO_CONTROL ∷ op.BranchConditional (calculation_id n c) l (l + 1) ∷ op.Label l
      ∷ (first ++ (op.Label (l + 1) ∷ (second ++ (op.Label (l + 2) ∷ [])))))

  -- ## Pieces

  abbrev pub assign_ops : ℕ → (x : ℕ) → Calculation → List Op
  assign_ops n x c = calculation_ops n c ++ (op.Store (variable at x) (calculation_id n c) ∷ [])

  -- on the word behind the pointer p; atomics are of device scope and relaxed order
  abbrev pub action_ops : (n p : ℕ) → Action → List Op
  action_ops n p (Fetch x) = op.Load word_type n p ∷ op.Store (variable at x) n ∷ []
  action_ops n p (Write v) = leaf_ops n v ++ (op.Store p (leaf_id n v) ∷ [])
  action_ops n p (Change o v x) =
      let r = n + leaf_size v in
      leaf_ops n v ++ (op.Atomic o word_type r p (at.number setting.DEVICE_SCOPE) (at.number setting.RELAXED) (leaf_id n v) ∷ op.Store (variable at x) r ∷ [])
  action_ops n p (Swap v c x) =
      let m = n + leaf_size v in
      let r = m + leaf_size c in
      leaf_ops n v ++ (leaf_ops m c ++ (op.AtomicCompareExchange word_type r p (at.number setting.DEVICE_SCOPE) (at.number setting.RELAXED) (at.number setting.RELAXED) (leaf_id n v) (leaf_id m c) ∷ op.Store (variable at x) r ∷ []))

  -- where there is no such word: 0 to the variable
  abbrev pub missed_ops : Action → List Op
  missed_ops (Fetch x) = op.Store (variable at x) (at.number 0) ∷ []
  missed_ops (Write v) = []
  missed_ops (Change o v x) = op.Store (variable at x) (at.number 0) ∷ []
  missed_ops (Swap v c x) = op.Store (variable at x) (at.number 0) ∷ []

  -- a pointer to the word at a place, and what is done with it, in a block that ends by a branch to the label l
  abbrev pub reach_ops : (n b : ℕ) → Calculation → Action → (l : ℕ) → List Op
  reach_ops n b c a l =
      let p = n + calculation_size c in
      calculation_ops n c
      ++ (op.AccessChain to_word p (buffer_at b) (at.number 0 ∷ calculation_id n c ∷ []) ∷ (action_ops (p + 1) p a ++ (op.Branch l ∷ [])))

  abbrev pub piece_ops : ℕ → Piece → List Op
  piece_ops n (Assign x c) = assign_ops n x c
  piece_ops n (Reach g b c a) =
      let l = n + calculation_size g in
      choice_ops n g (reach_ops (l + 3) b c a (l + 2)) (missed_ops a ++ (op.Branch (l + 2) ∷ []))

-- the next free id behind a piece, behind some pieces, and behind a choice whose sides take no id
abbrev pub piece_end : ℕ → Piece → ℕ
piece_end n (Assign x c) = n + calculation_size c
piece_end n (Reach g b c a) = n + calculation_size g + 3 + calculation_size c + 1 + action_size a

abbrev pub pieces_end : ℕ → List Piece → ℕ
pieces_end n [] = n
pieces_end n (p ∷ ps) = pieces_end (piece_end n p) ps

abbrev pub choice_end : ℕ → Calculation → ℕ
choice_end n c = n + calculation_size c + 3

abbrev pub pieces_ops : Layout → ℕ → List Piece → List Op
pieces_ops at n [] = []
pieces_ops at n (p ∷ ps) = piece_ops at n p ++ pieces_ops at (piece_end n p) ps

-- ## Turns

abbrev pub turns_are_out : Calculation
turns_are_out = calculation formula.IsZero (Variable turns) nought nought nought nought

abbrev pub one_turn_less : Calculation
one_turn_less = calculation formula.OneLess (Variable turns) nought nought nought nought

-- where a loop's body begins: behind four labels, the test of the turns, and their count
abbrev pub inner_start : ℕ → ℕ
inner_start n = choice_end (n + 4) turns_are_out + calculation_size one_turn_less

-- A loop: its header n, then, where no turn is left, the end of the whole run, and else one turn. Behind it is
-- the label n + 1, and n + 2 leads back to the header.
abbrev pub loop_ops : Layout → ℕ → List Op → List Op
loop_ops at n inner =
    op.Branch n ∷ op.Label n ∷ op.LoopMerge (n + 1) (n + 2) setting.NO_CONTROL ∷ op.Branch (n + 3) ∷ op.Label (n + 3)
    ∷ (choice_ops at (n + 4) turns_are_out (op.Return ∷ []) (op.Branch (n + 4 + calculation_size turns_are_out + 2) ∷ [])
    ++ (assign_ops at (choice_end (n + 4) turns_are_out) turns one_turn_less
    ++ (inner ++ (op.Label (n + 2) ∷ op.Branch n ∷ op.Label (n + 1) ∷ []))))

-- leaves by an instruction where a condition holds
abbrev pub leave_ops : Layout → ℕ → Calculation → Op → List Op
leave_ops at n c out = choice_ops at n c (out ∷ []) (op.Branch (n + calculation_size c + 2) ∷ [])

-- ## Blocks

module _ (ds : List Declared) where
  -- where the choice of a test begins: behind what the test takes from a constant buffer
  abbrev pub test_start : ℕ → Test → ℕ
  test_start n t = pieces_end n (test_pieces t)

  abbrev pub test_end : ℕ → Test → ℕ
  test_end n t = choice_end (test_start n t) (test_calculation t)

  -- the next free id behind a block
  abbrev pub body_end : Body → ℕ → ℕ
  body_end End n = n
  body_end (Plain i rest) n = body_end rest (pieces_end n (instr_pieces ds i))
  body_end (If t first second rest) n = body_end rest (body_end second (body_end first (test_end n t)))
  body_end (Loop inner rest) n = body_end rest (body_end inner (inner_start n))
  body_end (Break None rest) n = n
  body_end (Break (Some t) rest) n = body_end rest (test_end n t)
  body_end (Continue None rest) n = n
  body_end (Continue (Some t) rest) n = body_end rest (test_end n t)
  body_end (Return None rest) n = n
  body_end (Return (Some t) rest) n = body_end rest (test_end n t)

  module _ (at : Layout) where
    -- a leave with a test, behind what the test takes
    abbrev pub leave_by : ℕ → Test → Op → List Op
    leave_by n t out = pieces_ops at n (test_pieces t) ++ leave_ops at (test_start n t) (test_calculation t) out

    -- a choice between two blocks
    abbrev pub choose_by : ℕ → Test → (first second : List Op) → List Op
    choose_by n t first second = pieces_ops at n (test_pieces t) ++ choice_ops at (test_start n t) (test_calculation t) first second

    -- the label behind the choice of a test
    abbrev pub behind_test : ℕ → Test → ℕ
    behind_test n t = test_start n t + calculation_size (test_calculation t) + 2

    -- A block's end goes to the label k, a break to b and a continue to c. What stands behind a leave without a test
    -- has no instructions.
    abbrev pub body_ops : Body → (n k b c : ℕ) → List Op
    body_ops End n k b c = op.Branch k ∷ []
    body_ops (Plain i rest) n k b c = pieces_ops at n (instr_pieces ds i) ++ body_ops rest (pieces_end n (instr_pieces ds i)) k b c
    body_ops (If t first second rest) n k b c =
        let n1 = body_end first (test_end n t) in
        choose_by n t (body_ops first (test_end n t) (behind_test n t) b c) (body_ops second n1 (behind_test n t) b c)
        ++ body_ops rest (body_end second n1) k b c
    body_ops (Loop inner rest) n k b c =
        loop_ops at n (body_ops inner (inner_start n) (n + 2) (n + 1) (n + 2)) ++ body_ops rest (body_end inner (inner_start n)) k b c
    body_ops (Break None rest) n k b c = op.Branch b ∷ []
    body_ops (Break (Some t) rest) n k b c = leave_by n t (op.Branch b) ++ body_ops rest (test_end n t) k b c
    body_ops (Continue None rest) n k b c = op.Branch c ∷ []
    body_ops (Continue (Some t) rest) n k b c = leave_by n t (op.Branch c) ++ body_ops rest (test_end n t) k b c
    body_ops (Return None rest) n k b c = op.Return ∷ []
    body_ops (Return (Some t) rest) n k b c = leave_by n t op.Return ++ body_ops rest (test_end n t) k b c
