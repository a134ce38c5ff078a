-- The table of a module: one step for each instruction.
use Rattle.std.specs.Prelude.{ℕ, ◌+◌, ◌==◌, ◌≡◌, Bool, true, false, if◌then◌else◌, List, [], ◌∷◌, length, Option, Some, None, unwrap_or}
use Rattle.std.specs.Ordering.{nat_cmp}
use Rattle.std.specs.BTreeMap.{get}
use Rattle.spirv_model.specs.Op.{Op}
use Rattle.spirv_model.specs.Op as op
use Rattle.spirv_model.specs.declared.storage_classes.TheConstants as class
use Rattle.spirv_model.specs.declared.decorations.TheConstants as decoration
use Rattle.spirv_model.specs.Meaning.Memory.{decorated}
use Rattle.spirv_model.specs.Meaning.ModuleMeaning.{reading_of}
use Rattle.spirv_run.specs.declared.value.Pointer.{Pointer}
use Rattle.spirv_run.specs.declared.value.Pointer.TheVariants as pointer
use Rattle.spirv_run.specs.declared.step.Step.{Step}
use Rattle.spirv_run.specs.declared.step.Step.TheVariants as step
use Rattle.spirv_run.specs.declared.step.Source.TheVariants as source
use Rattle.spirv_run.specs.declared.names.Names.{Names}

-- the place behind the first label with an id, in instructions from a place on
abbrev pub place_behind : (l at : ℕ) → List Op → Option ℕ
place_behind l at [] = None
place_behind l at (op.Label x ∷ os) = if x == l then Some (at + 1) else place_behind l (at + 1) os
place_behind l at (o ∷ os) = place_behind l (at + 1) os

-- the place behind a label, the end where there is no such label
abbrev pub behind : List Op → (l : ℕ) → ℕ
behind all l = unwrap_or (place_behind l 0 all) (length all)

-- what the tables of names have of instructions from a place on: the places behind labels, and two kinds of decorations
pub record Knows (names : Names) (at : ℕ) (ops : List Op) : Type 0 where
  pub labels : (x : ℕ) → get nat_cmp names.labels x ≡ place_behind x at ops
  pub built_ins : (x : ℕ) → get nat_cmp names.built_ins x ≡ decorated decoration.BUILT_IN x ops
  pub bindings : (x : ℕ) → get nat_cmp names.bindings x ≡ decorated decoration.BINDING x ops

-- ## Steps

abbrev pub outer_by : (ℕ → Pointer) → (r : ℕ) → Option ℕ → Step
outer_by f r None = step.Stuck
outer_by f r (Some n) = step.Give r (source.Outer (f n))

-- a variable outside of the function
abbrev pub outer : (c r : ℕ) → List Op → Step
outer c r all =
    if c == class.INPUT then outer_by pointer.Input r (decorated decoration.BUILT_IN r all)
    else if c == class.PUSH_CONSTANT then step.Give r (source.Outer pointer.Lengths)
    else if c == class.STORAGE_BUFFER then outer_by pointer.Buffer r (decorated decoration.BINDING r all)
    else step.Stuck

abbrev pub head_of : List ℕ → Option ℕ
head_of [] = None
head_of (x ∷ xs) = Some x

abbrev pub chain : (r b : ℕ) → List ℕ → Step
chain r b (i ∷ []) = step.Give r (source.Member b i)
chain r b (i ∷ j ∷ []) = step.Give r (source.Element b i j)
chain r b _ = step.Stuck

abbrev pub is_label : Op → Bool
is_label (op.Label l) = true
is_label _ = false

abbrev pub begins_with_label : List Op → Bool
begins_with_label [] = false
begins_with_label (o ∷ os) = is_label o

-- the step of an instruction that writes to memory; that of another does nothing
abbrev pub memory_step : Op → Step
memory_step (op.Store p v) = step.Store p v
memory_step (op.Atomic o t r p s w v) = step.Atomic o r p v
memory_step (op.AtomicCompareExchange t r p s e u v c) = step.CompareExchange r p v c
memory_step o = step.Nothing

-- the step of an instruction that needs no other to be known
abbrev pub plain_step : Op → Step
plain_step (op.Constant t r v) = step.Give r (source.Constant v)
plain_step (op.Load t r p) = step.Give r (source.Load p)
plain_step (op.AccessChain t r b is) = chain r b is
plain_step (op.CompositeExtract t r v i) = step.Give r (source.Component v i)
plain_step (op.Unary o t r a) = step.Give r (source.Unary o a)
plain_step (op.Binary o t r a b) = step.Give r (source.Binary o a b)
plain_step (op.Select t r c a b) = step.Give r (source.Select c a b)
plain_step o = memory_step o

-- the step of an instruction, with the place behind it, and whether a label stands there
abbrev pub step_of : (all : List Op) → Op → (label_next : Bool) → (next : ℕ) → Step
step_of all (op.Variable t r c vs) l k = if c == class.FUNCTION then step.Variable r (head_of vs) else outer c r all
step_of all (op.Function t r c f) l k = if l then step.Jump (k + 1) else step.Stuck
step_of all op.FunctionEnd l k = step.Stuck
step_of all (op.Label x) l k = step.Stuck
step_of all (op.Branch x) l k = step.Jump (behind all x)
step_of all (op.BranchConditional c a b) l k = step.Choose c (behind all a) (behind all b)
step_of all op.Return l k = step.Return
step_of all o l k = plain_step o

-- the steps of instructions from a place on
abbrev pub steps_from : (all : List Op) → (at : ℕ) → List Op → List Step
steps_from all at [] = []
steps_from all at (o ∷ os) = step_of all o (begins_with_label os) (at + 1) ∷ steps_from all (at + 1) os

-- the instructions of a module's words
abbrev pub ops_of : (words : List ℕ) → List Op
ops_of words = (reading_of words).ops

-- the table of a module
unfoldable pub steps_of : (words : List ℕ) → List Step
steps_of words = steps_from (ops_of words) 0 (ops_of words)
