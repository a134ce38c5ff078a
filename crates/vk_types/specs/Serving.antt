-- A barrier that serves a command: each hazard between the command and one behind the barrier is covered by it.
use Rattle.std.specs.Prelude.{◌≡◌, true}
use Rattle.vk_types.specs.declared.access.Stage.{Stage}
use Rattle.vk_types.specs.declared.command.Command.{Command}
use Rattle.vk_types.specs.declared.op.Barrier.{Barrier}
use Rattle.vk_types.specs.declared.op.VkOp.{VkOp}
use Rattle.vk_types.specs.declared.op.VkOp.TheVariants as op
use Rattle.vk_types.specs.Hazards.{read_write_access}
use Rattle.vk_types.specs.Before.{access_at, names_stages_of}
use Rattle.vk_types.specs.Covered.{writes_named}
use Rattle.vk_types.specs.BarrierCauses.{all_device, writes_at}

-- its source names each stage of the command, with write where the command writes, and its destination is each stage of
-- the device with all that a command may do there
pub record Serves (c : Command) (b : Barrier) : Type 0 where
  pub source : names_stages_of b.source c ≡ true
  pub shows : (s : Stage) → writes_at s c ≡ true → writes_named (access_at b.source s) ≡ true
  pub dest : b.dest ≡ all_device read_write_access

-- the operation is a barrier that serves the command
abbrev pub ServesOp : Command → VkOp → Type 0
ServesOp c (op.HostWrite r call) = ⊥
ServesOp c (op.Pipeline shader) = ⊥
ServesOp c (op.Barrier barrier) = Serves c barrier
ServesOp c (op.Command command) = ⊥
ServesOp c (op.Submit k) = ⊥
ServesOp c (op.Fence k) = ⊥
ServesOp c (op.HostRead r call) = ⊥
