-- What a device does as it runs a ready command.
use Rattle.std.specs.Prelude.{◌≡◌, ◌≤◌, ℕ, Bool, true, false, List, [], ◌∷◌, ◌++◌, Option, Some, None, slice_get}
use Rattle.vk_types.specs.declared.command.Command as c
use Rattle.vk_types.specs.Effects.{effect, invocations}
use Rattle.query_pool.specs.Asked.{counted_more}
use Rattle.std.specs.List.{AllByRecursion}
use Rattle.base_lemmas.specs.Lists.{Pairwise}
use Rattle.spirv_model.specs.Meaning.ModuleDispatch.{IsDefined}
use Rattle.vk_types.specs.declared.command.Work.{Work}
use Rattle.vk_types.specs.declared.command.Work.TheVariants as work
use Rattle.device_memory.specs.Held.{AreAlike, Held, IsHeld, memory_of}
use Rattle.device_memory.specs.Meant.{meaning_by}
use Rattle.device_memory.specs.Ranges.{AreApart, CanBind, CanCount, size_of}
use Rattle.device_memory.specs.Runs.{CanRun}
use Rattle.command_queue.specs.Left.{marked}
use Rattle.command_queue.specs.Readiness.{ready_places, step_command}
use Rattle.vk_device.specs.Modules.{Agrees, module_of, modules_after}
use Rattle.vk_device.specs.State.{State}

-- the ready command number j: where it stands, and the command
pub record IsReady (d : State) (j : ℕ) : Type 0 where
  pub place : ℕ
  pub command : c.Command
  pub is_place : slice_get (ready_places d.steps) j ≡ Some place
  pub is_command : step_command (slice_get d.steps place) ≡ Some command

-- it is there, and the device can run it with this module, which is given where it is a dispatch. One that was given for its
-- shader before means the same
pub record CanRunReady (d : State) (j : ℕ) (words : Option (List ℕ)) : Type 0 where
  pub is : IsReady d j
  pub can : CanRun d.held is.command words
  pub agrees : Agrees words is.command.work (module_of d.modules)

-- the module has an outcome, if one is given
abbrev pub IsDefinedIf : Option (List ℕ) → Type 0
IsDefinedIf None = Unit {0}
IsDefinedIf (Some words) = IsDefined words

-- the work can be done where a module is given, or none, but for what the module itself must meet
abbrev pub CanWorkIf : Held → Work → Bool → Type 0
CanWorkIf held (work.Copy source target) true = ⊥
CanWorkIf held (work.Copy source target) false = IsHeld held source × IsHeld held target × (size_of source ≡ size_of target)
CanWorkIf held (work.Fill target word) true = ⊥
CanWorkIf held (work.Fill target word) false = IsHeld held target
CanWorkIf held (work.Clear target values unit) true = ⊥
CanWorkIf held (work.Clear target values unit) false = IsHeld held target × (1 ≤ unit) × (unit ≤ 4)
CanWorkIf held (work.Dispatch shader counts slots) true = CanCount held counts × AllByRecursion (CanBind held) slots × Pairwise AreApart slots
CanWorkIf held (work.Dispatch shader counts slots) false = ⊥

-- the command was run as the module means it, and all else stays
pub record Runs (j : ℕ) (words : Option (List ℕ)) (old new : State) : Type 0 where
  pub is : IsReady old j
  pub memory : memory_of new.held ≡ effect (meaning_by words) is.command (memory_of old.held)
  pub alike : AreAlike old.held new.held
  pub steps : new.steps ≡ marked is.place old.steps
  pub order : new.order ≡ old.order ++ is.command.number ∷ []
  pub asked : new.asked
      ≡ record old.asked { counts = counted_more old.asked.counts is.command.number (invocations (meaning_by words) is.command (memory_of old.held)) }
  pub batches : new.batches ≡ old.batches
  pub newest : new.newest ≡ old.newest
  pub marks : new.marks ≡ old.marks
  pub modules : module_of new.modules ≡ modules_after words is.command.work (module_of old.modules)

-- no command was run, accepted or completed
pub record SameCommands (old new : State) : Type 0 where
  pub steps : new.steps ≡ old.steps
  pub order : new.order ≡ old.order
  pub batches : new.batches ≡ old.batches
  pub newest : new.newest ≡ old.newest
  pub marks : new.marks ≡ old.marks
