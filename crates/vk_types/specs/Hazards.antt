-- What a command or the host touches, at which stage and how, and which touches conflict (after Vulkan's scopes of
-- synchronization; which stage touches what is the project's own).
use Rattle.std.specs.Prelude.{ℕ, Bool, true, false, ◌&&◌, ◌||◌, ◌==◌, List, [], ◌∷◌, ◌++◌, map, Option, Some, None}
use Rattle.std.specs.List.{list_any}
use Rattle.std.specs.Int.RustNames.{bit_and}
use Rattle.dx_types.specs.declared.range.Range.{Range}
use Rattle.vk_types.specs.declared.access.Access.{Access}
use Rattle.vk_types.specs.declared.access.Stage.{Stage}
use Rattle.vk_types.specs.declared.access.Stage.TheVariants as stage
use Rattle.vk_types.specs.declared.touch.Touch.{Touch}
use Rattle.vk_types.specs.declared.command.SlotName.TheVariants as slot
use Rattle.vk_types.specs.declared.command.SlotName.{SlotName}
use Rattle.vk_types.specs.declared.command.SlotRange.{SlotRange}
use Rattle.vk_types.specs.declared.command.Groups.{Groups}
use Rattle.vk_types.specs.declared.command.Groups.TheVariants as groups
use Rattle.vk_types.specs.declared.command.Work.{Work}
use Rattle.vk_types.specs.declared.command.Work.TheVariants as work
use Rattle.vk_types.specs.declared.command.Cond.{Cond}
use Rattle.vk_types.specs.declared.command.Command.{Command}
use Rattle.vk_types.specs.Memory.{covers, meets}

-- no access
abbrev pub no_access : Access
no_access = record { 0 = 0 }

-- reads alone
abbrev pub read_access : Access
read_access = record { 0 = 1 }

-- writes alone
abbrev pub write_access : Access
write_access = record { 0 = 2 }

-- reads and writes
abbrev pub read_write_access : Access
read_write_access = record { 0 = 3 }

-- the access reads
abbrev pub has_read : Access → Bool
has_read a = bit_and a.0 1 == 1

-- the access writes
abbrev pub has_write : Access → Bool
has_write a = bit_and a.0 2 == 2

-- a allows all that b does
abbrev pub allows : Access → Access → Bool
allows a b = bit_and a.0 b.0 == b.0

-- the two stages are one
abbrev pub same_stage : Stage → Stage → Bool
same_stage stage.Indirect stage.Indirect = true
same_stage stage.Compute stage.Compute = true
same_stage stage.Transfer stage.Transfer = true
same_stage stage.Host stage.Host = true
same_stage s t = false

-- Touches -------------------------------------------------------------------------------------------------------

-- a touch of the range at this stage with this access
abbrev pub touch : Stage → Access → Range → Touch
touch s a r = record { range = r; stage = s; access = a }

-- an indirect dispatch reads its counts
abbrev pub groups_touches : Groups → List Touch
groups_touches (groups.Direct x y z) = []
groups_touches (groups.Indirect at) = touch stage.Indirect read_access at ∷ []

-- a shader reads its constants and SRVs, and reads and writes its UAVs
abbrev pub slot_access : SlotName → Access
slot_access (slot.Constant i) = read_access
slot_access (slot.Srv i) = read_access
slot_access (slot.Uav i) = read_write_access

-- a slot's range is touched as the shader runs
abbrev pub slot_touch : SlotRange → Touch
slot_touch s = touch stage.Compute (slot_access s.slot) s.range

-- a copy reads its source and writes its target as a transfer, a fill writes as a transfer, a clear as a shader does
abbrev pub work_touches : Work → List Touch
work_touches (work.Copy source target) = touch stage.Transfer read_access source ∷ touch stage.Transfer write_access target ∷ []
work_touches (work.Fill target word) = touch stage.Transfer write_access target ∷ []
work_touches (work.Clear target words unit) = touch stage.Compute write_access target ∷ []
work_touches (work.Dispatch shader counts slots) = groups_touches counts ++ map slot_touch slots

-- a condition's word is read with the indirect counts
abbrev pub cond_touches : Option Cond → List Touch
cond_touches None = []
cond_touches (Some c) = touch stage.Indirect read_access c.at ∷ []

-- what a command touches, in order
abbrev pub touches : Command → List Touch
touches c = work_touches c.work ++ cond_touches c.cond

-- the work is a dispatch
abbrev pub is_dispatch : Work → Bool
is_dispatch (work.Copy source target) = false
is_dispatch (work.Fill target word) = false
is_dispatch (work.Clear target words unit) = false
is_dispatch (work.Dispatch shader counts slots) = true

-- a command's stages are those of its touches, and a dispatch always has the compute stage
abbrev pub has_stage : Command → Stage → Bool
has_stage c s = list_any (λ t. same_stage t.stage s) (touches c) || (is_dispatch c.work && same_stage stage.Compute s)

-- the host writes a range
abbrev pub host_write_touch : Range → Touch
host_write_touch r = touch stage.Host write_access r

-- the host reads a range
abbrev pub host_read_touch : Range → Touch
host_read_touch r = touch stage.Host read_access r

-- Conflicts -----------------------------------------------------------------------------------------------------

-- some touch has this byte
abbrev pub is_touched : List Touch → ℕ → ℕ → Bool
is_touched ts block at = list_any (λ t. covers t.range block at) ts

-- some touch writes this byte
abbrev pub is_written : List Touch → ℕ → ℕ → Bool
is_written ts block at = list_any (λ t. has_write t.access && covers t.range block at) ts

-- two touches conflict where they share a byte and one of them writes
abbrev pub touches_conflict : Touch → Touch → Bool
touches_conflict t u = (has_write t.access || has_write u.access) && meets t.range u.range

-- two acts conflict where some of their touches do
abbrev pub lists_conflict : List Touch → List Touch → Bool
lists_conflict ts us = list_any (λ t. list_any (touches_conflict t) us) ts

-- two commands conflict where their touches do
abbrev pub conflict : Command → Command → Bool
conflict c d = lists_conflict (touches c) (touches d)
