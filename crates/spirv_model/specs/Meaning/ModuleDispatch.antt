-- A dispatch of a module: its invocations in index order.
use Rattle.std.specs.Prelude.{ℕ, ◌<◌, ◌≡◌, List, [], ◌∷◌, slice_index, length, Option, Some, None, IsSome}
use Rattle.dx_types.specs.declared.limits.TheConstants.{MAX_GROUPS}
use Rattle.shader_model.specs.declared.ids.Ids.{Ids}
use Rattle.shader_model.specs.Invocation.{Slots}
use Rattle.shader_model.specs.Dispatch.{invocations}
use Rattle.spirv_model.specs.Op.{Op}
use Rattle.spirv_model.specs.Op as op
use Rattle.spirv_model.specs.Meaning.Bindings.{SlotsFit}
use Rattle.spirv_model.specs.Meaning.ModuleMeaning.{reading_of, module_meaning}

-- the sizes of the first execution mode, which is LocalSize; 1, 1, 1 where there is none
abbrev pub local_size : List Op → List ℕ
local_size [] = 1 ∷ 1 ∷ 1 ∷ []
local_size (op.ExecutionMode f mode x y z ∷ os) = x ∷ y ∷ z ∷ []
local_size (o ∷ os) = local_size os

-- the three sizes of a module's group
unfoldable pub group_of : (words : List ℕ) → List ℕ
group_of words = local_size (reading_of words).ops

-- one invocation after another
abbrev pub then_run : Option Slots → (Slots → Option Slots) → Option Slots
then_run None go = None
then_run (Some slots) go = go slots

abbrev pub run_all : (words : List ℕ) → List Ids → Slots → Option Slots
run_all words [] slots = Some slots
run_all words (ids ∷ later) slots = then_run (module_meaning words ids slots) (run_all words later)

-- the slots' words after a dispatch of so many groups
abbrev pub module_dispatched : (words groups : List ℕ) → Slots → Option Slots
module_dispatched words groups slots = run_all words (invocations groups (group_of words)) slots

-- the ids of an invocation of groups of this size, in a dispatch of at most 65,535 groups each way
pub record InRange (size : List ℕ) (ids : Ids) : Type 0 where
  pub size_is : ids.size ≡ size
  pub three_threads : length ids.thread ≡ 3
  pub three_groups : length ids.group ≡ 3
  pub thread_x : slice_index ids.thread 0 < slice_index size 0
  pub thread_y : slice_index ids.thread 1 < slice_index size 1
  pub thread_z : slice_index ids.thread 2 < slice_index size 2
  pub group_x : slice_index ids.group 0 < MAX_GROUPS
  pub group_y : slice_index ids.group 1 < MAX_GROUPS
  pub group_z : slice_index ids.group 2 < MAX_GROUPS

-- a module that may be dispatched: each invocation has an outcome, on all slots that fit
abbrev pub IsDefined : (words : List ℕ) → Type 0
IsDefined words = (ids : Ids) (slots : Slots) → InRange (group_of words) ids → SlotsFit slots → IsSome (module_meaning words ids slots)
