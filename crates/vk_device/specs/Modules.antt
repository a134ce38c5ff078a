-- The modules that a device keeps decoded, by their shaders.
use Rattle.std.specs.Prelude.{◌≡◌, ◌==◌, ℕ, cond, List, Option, Some, None}
use Rattle.std.specs.Map.{lookup}
use Rattle.std.specs.Ordering.{nat_cmp}
use Rattle.std.specs.BTreeMap.{is_at}
use Rattle.spirv_model.specs.Meaning.ModuleDispatch.{IsDefined}
use Rattle.vk_types.specs.declared.command.Work.{Work}
use Rattle.vk_types.specs.declared.command.Work.TheVariants as work
use Rattle.device_memory.specs.Meant.{module_meaning_of}

-- the words of modules by their shaders, whose numbers rise
abbrev pub Modules : Type 0
Modules = List (ℕ × List ℕ)

-- the module of a shader
abbrev pub module_of : Modules → ℕ → Option (List ℕ)
module_of modules shader = lookup (is_at (nat_cmp shader)) modules

-- a module that is kept has an outcome
abbrev pub HasOutcome : ℕ × List ℕ → Type 0
HasOutcome e = IsDefined e.1

-- the module that is kept, or the given one where none is
abbrev pub kept_or : Option (List ℕ) → List ℕ → List ℕ
kept_or None words = words
kept_or (Some kept) words = kept

-- the modules with that of one shader more, where it has none
abbrev pub with_module : ℕ → List ℕ → (ℕ → Option (List ℕ)) → ℕ → Option (List ℕ)
with_module shader words modules = λ n. cond (n == shader) (Some (kept_or (modules n) words)) (modules n)

-- those that are kept once the work was done with this module, if one is given: the first that was given for a shader
abbrev pub modules_after : Option (List ℕ) → Work → (ℕ → Option (List ℕ)) → ℕ → Option (List ℕ)
modules_after None w modules = modules
modules_after (Some words) (work.Copy source target) modules = modules
modules_after (Some words) (work.Fill target word) modules = modules
modules_after (Some words) (work.Clear target values unit) modules = modules
modules_after (Some words) (work.Dispatch shader counts slots) modules = with_module shader words modules

-- the module that is kept, if one is, means the same as this one
abbrev pub MeansTheSame : Option (List ℕ) → List ℕ → Type 0
MeansTheSame None words = Unit {0}
MeansTheSame (Some kept) words = module_meaning_of kept ≡ module_meaning_of words

-- the module that is kept of the work's shader means the same as the given one
abbrev pub Agrees : Option (List ℕ) → Work → (ℕ → Option (List ℕ)) → Type 0
Agrees None w modules = Unit {0}
Agrees (Some words) (work.Copy source target) modules = Unit {0}
Agrees (Some words) (work.Fill target word) modules = Unit {0}
Agrees (Some words) (work.Clear target values unit) modules = Unit {0}
Agrees (Some words) (work.Dispatch shader counts slots) modules = MeansTheSame (modules shader) words
