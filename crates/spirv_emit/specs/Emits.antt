-- What the emitter in code appends.
use Rattle.std.specs.Prelude.{ℕ, ◌≡◌, ◌+◌, ◌<◌, ◌^◌, List, [], ◌∷◌, ◌++◌, Bool, true, false, ◌&&◌, nat_lt, Option, Some, None}
use Rattle.shader_model.specs.declared.tree.Declared.{Declared}
use Rattle.shader_model.specs.declared.tree.Test.{Test}
use Rattle.shader_model.specs.declared.tree.Node.{Node}
use Rattle.shader_model.specs.Body.{Body, End, Plain, If, Loop, Break, Continue, Return, node_before}
use Rattle.shader_model.specs.Shader.{Program}
use Rattle.spirv_model.specs.Op.{Op}
use Rattle.spirv_model.specs.Op as op
use Rattle.spirv_model.specs.Words.{words_of}
use Rattle.spirv_model.specs.declared.settings.TheConstants as setting
use Rattle.spirv_emit.specs.declared.plan.Plan.{Plan}
use Rattle.spirv_emit.specs.declared.code.Code.{Code}
use Rattle.spirv_emit.specs.declared.formula.Taken.{Taken}
use Rattle.spirv_emit.specs.declared.formula.Taken.TheVariants as taken
use Rattle.spirv_emit.specs.declared.formula.Step.{Step}
use Rattle.spirv_emit.specs.declared.formula.Step.TheVariants.{One, Two, High, Choose}
use Rattle.spirv_emit.specs.declared.piece.Leaf.{Leaf}
use Rattle.spirv_emit.specs.declared.piece.Leaf.TheVariants.{Number, Variable, Length, Component, Flattened}
use Rattle.spirv_emit.specs.declared.piece.Action.{Action}
use Rattle.spirv_emit.specs.declared.piece.Action.TheVariants.{Fetch, Write, Change, Swap}
use Rattle.spirv_emit.specs.declared.piece.Piece.{Piece}
use Rattle.spirv_emit.specs.declared.piece.Piece.TheVariants.{Assign, Reach}
use Rattle.spirv_emit.specs.declared.flow.Out.{Out}
use Rattle.spirv_emit.specs.declared.flow.Out.TheVariants as out
use Rattle.spirv_emit.specs.Layout as id
use Rattle.spirv_emit.specs.Layout.{Layout}
use Rattle.spirv_emit.specs.Lower.{turns, leaf_of, instr_pieces, test_pieces, test_calculation}
use Rattle.spirv_emit.specs.Code.{calculation_size, choice_ops, choice_end, assign_ops, pieces_ops, pieces_end, leave_ops, turns_are_out, one_turn_less, body_ops, body_end}
use Rattle.spirv_emit.specs.Numbers.{layout, with_numbers, body_numbers}
use Rattle.spirv_emit.specs.Module.{variables, first_label, last_label, body_start}

abbrev pub layout_of : Plan → Layout
layout_of p = layout p.numbers p.variables

-- ## What is appended

-- the words of instructions
unfoldable pub written : List Op → List ℕ
written ops = words_of ops

-- these instructions, which make no id
pub record Puts (old new : Code) (ops : List Op) : Type 0 where
  pub words_are : new.words ≡ old.words ++ written ops
  pub next_is : new.next ≡ old.next

-- these instructions, and the next free id behind them
pub record Appends (old new : Code) (ops : List Op) (next : ℕ) : Type 0 where
  pub words_are : new.words ≡ old.words ++ written ops
  pub next_is : new.next ≡ next

-- ## Ids of 32 bits

-- Variables and bindings have so small numbers that their ids have 32 bits.
abbrev pub LeafIsSmall : Leaf → Type 0
LeafIsSmall (Number v) = Unit {0}
LeafIsSmall (Variable x) = x < 2 ^ 20
LeafIsSmall (Length b) = Unit {0}
LeafIsSmall (Component v c) = Unit {0}
LeafIsSmall Flattened = Unit {0}

abbrev pub LeavesAreSmall : List Leaf → Type 0
LeavesAreSmall [] = Unit {0}
LeavesAreSmall (l ∷ ls) = LeafIsSmall l × LeavesAreSmall ls

abbrev pub ActionIsSmall : Action → Type 0
ActionIsSmall (Fetch x) = x < 2 ^ 20
ActionIsSmall (Write v) = LeafIsSmall v
ActionIsSmall (Change o v x) = LeafIsSmall v × (x < 2 ^ 20)
ActionIsSmall (Swap v c x) = LeafIsSmall v × LeafIsSmall c × (x < 2 ^ 20)

abbrev pub PieceIsSmall : Piece → Type 0
PieceIsSmall (Assign x c) = (x < 2 ^ 20) × LeavesAreSmall c.leaves
PieceIsSmall (Reach g b c a) = LeavesAreSmall g.leaves × (b < 2 ^ 20) × LeavesAreSmall c.leaves × ActionIsSmall a

abbrev pub PiecesAreSmall : List Piece → Type 0
PiecesAreSmall [] = Unit {0}
PiecesAreSmall (p ∷ ps) = PieceIsSmall p × PiecesAreSmall ps

-- A step takes one of five leaves, or what one of the first sixteen steps made.
abbrev pub taken_is_small : Taken → Bool
taken_is_small (taken.Leaf i) = nat_lt i 5
taken_is_small (taken.Made i) = nat_lt i 16
taken_is_small (taken.Number v) = true

abbrev pub step_is_small : Step → Bool
step_is_small (One o a) = taken_is_small a
step_is_small (Two o a b) = taken_is_small a && taken_is_small b
step_is_small (High a) = taken_is_small a
step_is_small (Choose c a b) = taken_is_small c && (taken_is_small a && taken_is_small b)

abbrev pub steps_are_small : List Step → Bool
steps_are_small [] = true
steps_are_small (s ∷ ss) = step_is_small s && steps_are_small ss

-- ## Blocks

-- a node's numbers were added, whatever stands behind it
pub record Numbered (old new : List ℕ) (x : Node) : Type 0 where
  pub are : (rest : Body) → with_numbers old (body_numbers (node_before x rest)) ≡ with_numbers new (body_numbers rest)

abbrev pub out_op : Out → Op
out_op (out.To l) = op.Branch l
out_op out.End = op.Return

-- a leave where a test holds
abbrev pub left_ops : Layout → ℕ → Test → Op → List Op
left_ops at n t o = pieces_ops at n (test_pieces t) ++ leave_ops at (pieces_end n (test_pieces t)) (test_calculation t) o

abbrev pub left_end : ℕ → Test → ℕ
left_end n t = choice_end (pieces_end n (test_pieces t)) (test_calculation t)

-- what a test names has small numbers
abbrev pub TestIsSmall : Test → Type 0
TestIsSmall t = PiecesAreSmall (test_pieces t) × LeafIsSmall (leaf_of 0 t.value 0)

abbrev pub MaybeIsSmall : Option Test → Type 0
MaybeIsSmall None = Unit {0}
MaybeIsSmall (Some t) = TestIsSmall t

-- what a block names
abbrev pub BodyIsSmall : List Declared → Body → Type 0
BodyIsSmall ds End = Unit {0}
BodyIsSmall ds (Plain i rest) = PiecesAreSmall (instr_pieces ds i) × BodyIsSmall ds rest
BodyIsSmall ds (If t first second rest) = TestIsSmall t × BodyIsSmall ds first × BodyIsSmall ds second × BodyIsSmall ds rest
BodyIsSmall ds (Loop inner rest) = BodyIsSmall ds inner × BodyIsSmall ds rest
BodyIsSmall ds (Break t rest) = MaybeIsSmall t × BodyIsSmall ds rest
BodyIsSmall ds (Continue t rest) = MaybeIsSmall t × BodyIsSmall ds rest
BodyIsSmall ds (Return t rest) = MaybeIsSmall t × BodyIsSmall ds rest

-- there are ids of 32 bits for a block
pub record Ready (ds : List Declared) (b : Body) (n : ℕ) : Type 0 where
  pub small : BodyIsSmall ds b
  pub room : body_end ds b n + 16 < 2 ^ 32

-- and for a leave
abbrev pub MaybeReady : ℕ → Option Test → Type 0
MaybeReady n None = Unit {0}
MaybeReady n (Some t) = TestIsSmall t × (left_end n t + 16 < 2 ^ 32)

-- what stands before a loop's body
abbrev pub loop_front : Layout → ℕ → List Op
loop_front at n =
    op.Branch n ∷ op.Label n ∷ op.LoopMerge (n + 1) (n + 2) setting.NO_CONTROL ∷ op.Branch (n + 3) ∷ op.Label (n + 3)
    ∷ (choice_ops at (n + 4) turns_are_out (op.Return ∷ []) (op.Branch (n + 4 + calculation_size turns_are_out + 2) ∷ [])
    ++ assign_ops at (choice_end (n + 4) turns_are_out) turns one_turn_less)

-- whether what stands behind a leave may be run, and the leave's code
abbrev pub Left : Layout → Code → Code → Op → Option Test → Bool → Type 0
Left at old new o (Some t) true = Appends old new (left_ops at old.next t o) (left_end old.next t)
Left at old new o None false = Appends old new (o ∷ []) old.next
Left at old new o _ _ = ⊥

module _ (ds : List Declared) (at : Layout) where
  -- a node was put into the code, whatever stands behind it
  pub record Joins (old new : Code) (x : Node) (k b c : ℕ) : Type 0 where
    pub words_are : (rest : Body) → old.words ++ written (body_ops ds at (node_before x rest) old.next k b c) ≡ new.words ++ written (body_ops ds at rest new.next k b c)
    pub end_is : (rest : Body) → body_end ds (node_before x rest) old.next ≡ body_end ds rest new.next

  -- a node was put into the code, and nothing behind it is ever run
  pub record Stops (old new : Code) (x : Node) (k b c : ℕ) : Type 0 where
    pub appends : (rest : Body) → Appends old new (body_ops ds at (node_before x rest) old.next k b c) (body_end ds (node_before x rest) old.next)

-- the function of a shader, where numbers and variables have these ids
abbrev pub function_code : Layout → Program → List Op
function_code at p =
    op.Function id.void_type id.main setting.NO_CONTROL id.main_type
    ∷ op.Label (first_label at)
    ∷ (variables at
    ++ (body_ops p.declared at p.body (body_start at) (last_label at) (last_label at) (last_label at)
    ++ (op.Label (last_label at) ∷ op.Return ∷ op.FunctionEnd ∷ [])))
