-- Which acts of a listing are ordered: two commands by one barrier between them, a command before a host act by a fence
-- (after Vulkan's execution dependencies, without chains of barriers; the rows with a host act are the project's own).
use Rattle.std.specs.Prelude.{ℕ, Bool, true, false, not, ◌&&◌, ◌||◌, nat_lt, nat_le, List, Option, Some, None, is_some, slice_get}
use Rattle.std.specs.List.{list_any}
use Rattle.vk_types.specs.declared.access.Access.{Access}
use Rattle.vk_types.specs.declared.access.Stage.{Stage}
use Rattle.vk_types.specs.declared.access.Stage.TheVariants as stage
use Rattle.vk_types.specs.declared.access.Mask.{Mask}
use Rattle.vk_types.specs.declared.command.Command.{Command}
use Rattle.vk_types.specs.declared.op.Barrier.{Barrier}
use Rattle.vk_types.specs.declared.op.VkOp.{VkOp}
use Rattle.vk_types.specs.declared.op.VkOp.TheVariants as op
use Rattle.vk_types.specs.Hazards.{has_stage}
use Rattle.vk_types.specs.Listing.{between, submission_of}

-- the access that a mask has at a stage, if it names the stage
abbrev pub access_at : Mask → Stage → Option Access
access_at m stage.Indirect = m.indirect
access_at m stage.Compute = m.compute
access_at m stage.Transfer = m.transfer
access_at m stage.Host = m.host

-- the mask names the stage
abbrev pub names_stage : Mask → Stage → Bool
names_stage m s = is_some (access_at m s)

-- the mask names each stage of the command
abbrev pub names_stages_of : Mask → Command → Bool
names_stages_of m c =
    ((not (has_stage c stage.Indirect) || names_stage m stage.Indirect) && (not (has_stage c stage.Compute) || names_stage m stage.Compute))
    && ((not (has_stage c stage.Transfer) || names_stage m stage.Transfer) && (not (has_stage c stage.Host) || names_stage m stage.Host))

-- the barrier orders commands that stand before it and after it: it names every stage of the first in its source and
-- every stage of the second in its destination
abbrev pub barrier_orders : Command → Command → Barrier → Bool
barrier_orders c d b = names_stages_of b.source c && names_stages_of b.dest d

-- the operation is a barrier that orders the two
abbrev pub op_orders : Command → Command → VkOp → Bool
op_orders c d (op.HostWrite r call) = false
op_orders c d (op.Pipeline shader) = false
op_orders c d (op.Barrier barrier) = barrier_orders c d barrier
op_orders c d (op.Command command) = false
op_orders c d (op.Submit k) = false
op_orders c d (op.Fence k) = false
op_orders c d (op.HostRead r call) = false

-- the operation is a fence of at least this number
abbrev pub op_finishes : ℕ → VkOp → Bool
op_finishes k (op.HostWrite r call) = false
op_finishes k (op.Pipeline shader) = false
op_finishes k (op.Barrier barrier) = false
op_finishes k (op.Command command) = false
op_finishes k (op.Submit j) = false
op_finishes k (op.Fence j) = nat_le k j
op_finishes k (op.HostRead r call) = false

-- among these operations is a fence for the submission. What is in no submission, no fence finishes
abbrev pub is_fenced : Option ℕ → List VkOp → Bool
is_fenced None ops = false
is_fenced (Some k) ops = list_any (op_finishes k) ops

-- an operation by its part in the order: of the host, a command, or no act
pub data Side : Type 0 where
  On_host : Side
  On_device : (command : Command) → Side
  No_act : Side

-- the part of an operation
abbrev pub side : VkOp → Side
side (op.HostWrite r call) = On_host
side (op.Pipeline shader) = No_act
side (op.Barrier barrier) = No_act
side (op.Command command) = On_device command
side (op.Submit k) = No_act
side (op.Fence k) = No_act
side (op.HostRead r call) = On_host

-- the same, if an operation is there
abbrev pub side_of : Option VkOp → Side
side_of None = No_act
side_of (Some o) = side o

-- the part of the operation at a place
abbrev pub side_at : List VkOp → ℕ → Side
side_at ops x = side_of (slice_get ops x)

-- the act at x, which stands earlier, is ordered before the one at y
abbrev pub sides_ordered : List VkOp → ℕ → ℕ → Side → Side → Bool
sides_ordered ops x y On_host On_host = true
sides_ordered ops x y On_host (On_device d) = true
sides_ordered ops x y On_host No_act = false
sides_ordered ops x y (On_device c) On_host = is_fenced (submission_of ops x) (between ops x y)
sides_ordered ops x y (On_device c) (On_device d) = list_any (op_orders c d) (between ops x y)
sides_ordered ops x y (On_device c) No_act = false
sides_ordered ops x y No_act s = false

-- the act at x stands earlier in the listing than the one at y, and is ordered before it
abbrev pub before : List VkOp → ℕ → ℕ → Bool
before ops x y = nat_lt x y && sides_ordered ops x y (side_at ops x) (side_at ops y)
