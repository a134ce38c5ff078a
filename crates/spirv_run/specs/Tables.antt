-- What a machine has of its module.
use Rattle.std.specs.Prelude.{ℕ, ◌+◌, ◌*◌, ◌≡◌, ◌≤◌, List, length, drop}
use Rattle.shader_model.specs.declared.ids.Ids.{Ids}
use Rattle.shader_model.specs.Invocation.{Slots}
use Rattle.spirv_model.specs.declared.limits.TheConstants.{STEPS_A_WORD}
use Rattle.spirv_model.specs.Meaning.ModuleDispatch.{group_of}
use Rattle.spirv_model.specs.Meaning.ModuleMeaning.{runs, begun}
use Rattle.spirv_run.specs.declared.step.Step.{Step}
use Rattle.spirv_run.specs.Frames.{Beginning, Frame, at_start}
use Rattle.spirv_run.specs.Held.{memory_of}
use Rattle.spirv_run.specs.Steps.{end_of_all}
use Rattle.spirv_run.specs.Decoding.{ops_of, steps_of}

-- the number behind all ids that a module's steps make
unfoldable pub ids_of : (words : List ℕ) → ℕ
ids_of words = end_of_all (steps_of words)

-- so many first instructions leave a frame as it is here, in each invocation and with any slots
abbrev pub Leave : (words : List ℕ) → (count : ℕ) → Frame → Type 0
Leave words count frame = (ids : Ids) (slots : Slots) (n : ℕ)
    → runs ids (ops_of words) (count + n) (ops_of words) (begun slots) ≡ runs ids (ops_of words) n (drop count (ops_of words)) (memory_of frame slots)

-- what the invocations of a module begin with: there is room for exactly the module's ids, and the steps before the first
-- one of an invocation leave it
pub record IsBeginning (b : Beginning) (words : List ℕ) : Type 0 where
  pub results : length b.results ≡ ids_of words
  pub variables : length b.variables ≡ ids_of words
  pub near : b.start ≤ STEPS_A_WORD
  pub within : b.start ≤ STEPS_A_WORD * length words
  pub leave : Leave words b.start (at_start b)

-- a frame for the invocations of a module
abbrev pub IsFor : Frame → (words : List ℕ) → Type 0
IsFor frame words = IsBeginning frame.begins words

-- the steps and the group of a module's words
pub record IsTable (words : List ℕ) (steps : List Step) (group : List ℕ) : Type 0 where
  pub steps_are : steps ≡ steps_of words
  pub group_is : group ≡ group_of words
