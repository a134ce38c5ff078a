-- What leaves, calculations and pieces mean: on the words of the function's variables and the slots.
use Rattle.std.specs.Prelude.{ℕ, zero, suc, ◌==◌, if◌then◌else◌, nat_lt, List, [], ◌∷◌, ◌++◌, map, length, slice_index, Option, Some, None}
use Rattle.shader_model.specs.declared.ids.Ids.{Ids}
use Rattle.shader_model.specs.Invocation.{Slots, flattened, global}
use Rattle.spirv_model.specs.Meaning.Values.{Value, Word, Truth, of_one, of_two, selected, component, left_by}
use Rattle.spirv_model.specs.Meaning.Bindings.{words_at, with_word}
use Rattle.spirv_emit.specs.declared.formula.Taken.{Taken}
use Rattle.spirv_emit.specs.declared.formula.Taken.TheVariants as taken
use Rattle.spirv_emit.specs.declared.formula.Step.{Step}
use Rattle.spirv_emit.specs.declared.formula.Step.TheVariants.{One, Two, High, Choose}
use Rattle.spirv_emit.specs.declared.piece.Vector.{Vector}
use Rattle.spirv_emit.specs.declared.piece.Vector.TheVariants.{Group, Thread, Global}
use Rattle.spirv_emit.specs.declared.piece.Leaf.{Leaf}
use Rattle.spirv_emit.specs.declared.piece.Leaf.TheVariants.{Number, Variable, Length, Component, Flattened}
use Rattle.spirv_emit.specs.declared.piece.Calculation.{Calculation}
use Rattle.spirv_emit.specs.declared.piece.Action.{Action}
use Rattle.spirv_emit.specs.declared.piece.Action.TheVariants.{Fetch, Write, Change, Swap}
use Rattle.spirv_emit.specs.declared.piece.Piece.{Piece}
use Rattle.spirv_emit.specs.declared.piece.Piece.TheVariants.{Assign, Reach}
use Rattle.spirv_emit.specs.Steps.{steps_of}

-- the words of the function's variables, and the slots
pub record Frame : Type 0 where
  pub variables : ℕ → ℕ
  pub slots : Slots

abbrev pub with_variable : (x v : ℕ) → Frame → Frame
with_variable x v f = record f { variables = λ y. if y == x then v else f.variables y }

-- ## Calculations

abbrev pub vector_word : Ids → Vector → (component : ℕ) → ℕ
vector_word ids Group c = slice_index ids.group c
vector_word ids Thread c = slice_index ids.thread c
vector_word ids Global c = global ids c

abbrev pub leaf_word : Ids → Frame → Leaf → ℕ
leaf_word ids f (Number v) = v
leaf_word ids f (Variable x) = f.variables x
leaf_word ids f (Length b) = length (words_at f.slots b)
leaf_word ids f (Component v c) = vector_word ids v c
leaf_word ids f Flattened = flattened ids

abbrev pub value_at : List Value → ℕ → Option Value
value_at [] i = None
value_at (v ∷ vs) zero = Some v
value_at (v ∷ vs) (suc i) = value_at vs i

-- what a step takes, of the leaves' words and the values made so far
abbrev pub taken_value : (leaves : List ℕ) → (made : List Value) → Taken → Option Value
taken_value xs made (taken.Leaf i) = Some (Word (slice_index xs i))
taken_value xs made (taken.Made i) = value_at made i
taken_value xs made (taken.Number v) = Some (Word v)

abbrev pub step_value : (leaves : List ℕ) → (made : List Value) → Step → Option Value
step_value xs made (One o a) = of_one o (taken_value xs made a)
step_value xs made (Two o a b) = of_two o (taken_value xs made a) (taken_value xs made b)
step_value xs made (High a) = component 1 (taken_value xs made a)
step_value xs made (Choose c a b) = selected (taken_value xs made c) (taken_value xs made a) (taken_value xs made b)

abbrev pub then_made : Option Value → (Value → Option Value) → Option Value
then_made None go = None
then_made (Some v) go = go v

-- the value of the last of some steps, after an earlier value
abbrev pub last_value : (leaves : List ℕ) → (made : List Value) → (last : Value) → List Step → Option Value
last_value xs made last [] = Some last
last_value xs made last (s ∷ ss) = then_made (step_value xs made s) (λ v. last_value xs (made ++ v ∷ []) v ss)

-- the value of a formula's steps, None where one is undefined
abbrev pub steps_value : (leaves : List ℕ) → List Step → Option Value
steps_value xs ss = last_value xs [] (Word (slice_index xs 0)) ss

abbrev pub calculated : Ids → Frame → Calculation → Option Value
calculated ids f c = steps_value (map (leaf_word ids f) c.leaves) (steps_of c.formula)

-- ## Pieces

-- what an action does with the word at a place of a binding
abbrev pub acted : Ids → (binding place : ℕ) → Action → Frame → Frame
acted ids b i (Fetch x) f = with_variable x (slice_index (words_at f.slots b) i) f
acted ids b i (Write v) f = record f { slots = with_word b i (leaf_word ids f v) f.slots }
acted ids b i (Change o v x) f =
    let old = slice_index (words_at f.slots b) i in
    with_variable x old (record f { slots = with_word b i (left_by o old (leaf_word ids f v)) f.slots })
acted ids b i (Swap v c x) f =
    let old = slice_index (words_at f.slots b) i in
    with_variable x old (record f { slots = with_word b i (if old == leaf_word ids f c then leaf_word ids f v else old) f.slots })

-- and where there is no such word
abbrev pub missed : Action → Frame → Frame
missed (Fetch x) f = with_variable x 0 f
missed (Write v) f = f
missed (Change o v x) f = with_variable x 0 f
missed (Swap v c x) f = with_variable x 0 f

-- the frame after a piece, None where a calculation has no value or an access is outside
abbrev pub assigned : ℕ → Option Value → Frame → Option Frame
assigned x (Some (Word v)) f = Some (with_variable x v f)
assigned x _ f = None

abbrev pub acted_at : Ids → (binding : ℕ) → Option Value → Action → Frame → Option Frame
acted_at ids b (Some (Word i)) a f = if nat_lt i (length (words_at f.slots b)) then Some (acted ids b i a f) else None
acted_at ids b _ a f = None

abbrev pub reached : Ids → (inside : Option Value) → (binding : ℕ) → (place : Option Value) → Action → Frame → Option Frame
reached ids (Some (Truth x)) b i a f = if x then acted_at ids b i a f else Some (missed a f)
reached ids _ b i a f = None

abbrev pub piece_done : Ids → Piece → Frame → Option Frame
piece_done ids (Assign x c) f = assigned x (calculated ids f c) f
piece_done ids (Reach g b c a) f = reached ids (calculated ids f g) b (calculated ids f c) a f

abbrev pub then_frame : Option Frame → (Frame → Option Frame) → Option Frame
then_frame None go = None
then_frame (Some f) go = go f

abbrev pub pieces_done : Ids → List Piece → Frame → Option Frame
pieces_done ids [] f = Some f
pieces_done ids (p ∷ ps) f = then_frame (piece_done ids p f) (pieces_done ids ps)
