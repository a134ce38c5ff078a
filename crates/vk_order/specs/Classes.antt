-- Classes of touches, and which barriers cover a hazard of two commands by the classes of its touches.
use Rattle.std.specs.Prelude.{Bool, true, false, not, cond, ◌&&◌, ◌||◌, Option, Some, None, is_some}
use Rattle.vk_types.specs.declared.access.Mask.{Mask}
use Rattle.vk_types.specs.declared.access.Stage.{Stage}
use Rattle.vk_types.specs.declared.access.Stage.TheVariants as stage
use Rattle.vk_types.specs.declared.touch.Touch.{Touch}
use Rattle.vk_types.specs.declared.command.Command.{Command}
use Rattle.vk_types.specs.declared.command.Groups.{Groups}
use Rattle.vk_types.specs.declared.command.Groups.TheVariants as groups
use Rattle.vk_types.specs.declared.command.Work.{Work}
use Rattle.vk_types.specs.declared.command.Work.TheVariants as work
use Rattle.vk_types.specs.declared.op.Barrier.{Barrier}
use Rattle.vk_types.specs.Hazards.{has_stage, has_write}
use Rattle.vk_types.specs.Before.{access_at}
use Rattle.vk_types.specs.Covered.{writes_named, reads_named, allowed_by}
use Rattle.vk_order.specs.declared.classes.Stages.{Stages}
use Rattle.vk_order.specs.declared.classes.First.{First}
use Rattle.vk_order.specs.declared.classes.Second.{Second}

-- the work is done as shaders run; else it is a transfer
abbrev pub is_computed : Work → Bool
is_computed (work.Copy source target) = false
is_computed (work.Fill target word) = false
is_computed (work.Clear target words unit) = true
is_computed (work.Dispatch shader counts slots) = true

abbrev pub is_counted : Groups → Bool
is_counted (groups.Direct x y z) = false
is_counted (groups.Indirect at) = true

-- the work is a dispatch whose counts stand in a buffer
abbrev pub is_indirect : Work → Bool
is_indirect (work.Copy source target) = false
is_indirect (work.Fill target word) = false
is_indirect (work.Clear target words unit) = false
is_indirect (work.Dispatch shader counts slots) = is_counted counts

abbrev pub stages_of : Command → Stages
stages_of c = record {
  indirect = has_stage c stage.Indirect;
  compute = has_stage c stage.Compute;
  transfer = has_stage c stage.Transfer;
  host = has_stage c stage.Host;
}

-- the stage at which a touch writes, if it does
abbrev pub written_stage : Touch → Option Stage
written_stage t = cond (has_write t.access) (Some t.stage) None

abbrev pub first_of : Stages → Touch → First
first_of s t = record { stages = s; written = written_stage t }

abbrev pub second_of : Stages → Touch → Second
second_of s u = record { stages = s; stage = u.stage; access = u.access }

-- the mask names each of the stages
abbrev pub names : Mask → Stages → Bool
names m s =
    ((not s.indirect || is_some m.indirect) && (not s.compute || is_some m.compute))
    && ((not s.transfer || is_some m.transfer) && (not s.host || is_some m.host))

-- the barrier makes what is written there available, and visible to the second touch
abbrev pub shows_at : Option Stage → Second → Barrier → Bool
shows_at None s b = true
shows_at (Some w) s b = writes_named (access_at b.source w) && allowed_by (access_at b.dest s.stage) s.access

-- the barrier orders the commands, and makes visible what the first touch writes
abbrev pub covers : First → Second → Barrier → Bool
covers f s b = (names b.source f.stages && names b.dest s.stages) && shows_at f.written s b

abbrev pub host_shown : Option Stage → Barrier → Bool
host_shown None b = false
host_shown (Some w) b = writes_named (access_at b.source w) && reads_named (access_at b.dest stage.Host)

-- the barrier makes what the first touch writes visible to the host's reads
abbrev pub shows_host : First → Barrier → Bool
shows_host f b = host_shown f.written b

-- one of the touches writes
abbrev pub asks : First → Touch → Bool
asks f u = is_some f.written || has_write u.access
