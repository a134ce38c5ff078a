-- What a command must meet so that the device can run it.
use Rattle.std.specs.Prelude.{◌≡◌, ◌≤◌, ℕ, List, Option, Some, None}
use Rattle.std.specs.List.{AllByRecursion}
use Rattle.vk_types.specs.declared.command.SlotRange.{SlotRange}
use Rattle.vk_types.specs.declared.command.Groups.{Groups}
use Rattle.vk_types.specs.declared.command.Work.{Work}
use Rattle.vk_types.specs.declared.command.Work.TheVariants as work
use Rattle.vk_types.specs.declared.command.Command.{Command}
use Rattle.base_lemmas.specs.Lists.{Pairwise}
use Rattle.spirv_model.specs.Meaning.ModuleDispatch.{IsDefined}
use Rattle.device_memory.specs.Held.{Held, IsHeld}
use Rattle.device_memory.specs.Ranges.{size_of, AreApart, CanBind, CanCount, CanSkip}

-- a module that has an outcome, its counts, and its slots
pub record CanDispatch (held : Held) (groups : Groups) (slots : List SlotRange) (words : List ℕ) : Type 0 where
  pub defined : IsDefined words
  pub counts : CanCount held groups
  pub bound : AllByRecursion (CanBind held) slots
  pub apart : Pairwise AreApart slots

-- by the kind of work; a module is given where it is a dispatch, and nowhere else
abbrev pub CanWork : Held → Work → Option (List ℕ) → Type 0
CanWork held (work.Copy source target) None = IsHeld held source × IsHeld held target × (size_of source ≡ size_of target)
CanWork held (work.Copy source target) (Some words) = ⊥
CanWork held (work.Fill target word) None = IsHeld held target
CanWork held (work.Fill target word) (Some words) = ⊥
CanWork held (work.Clear target values unit) None = IsHeld held target × (1 ≤ unit) × (unit ≤ 4)
CanWork held (work.Clear target values unit) (Some words) = ⊥
CanWork held (work.Dispatch shader counts slots) None = ⊥
CanWork held (work.Dispatch shader counts slots) (Some words) = CanDispatch held counts slots words

-- the device can run the command, by this module if it is a dispatch
pub record CanRun (held : Held) (c : Command) (module_words : Option (List ℕ)) : Type 0 where
  pub work : CanWork held c.work module_words
  pub condition : CanSkip held c.cond
