-- Which of the operations that were accepted are commands to run, and which of these are ready (after Vulkan's execution
-- dependencies: a command waits for those before it that a barrier orders before it).
use Rattle.std.specs.Prelude.{ℕ, Bool, true, false, cond, not, ◌&&◌, ◌||◌, ◌==◌, List, [], ◌∷◌, ◌++◌, length, map, Option, Some, None}
use Rattle.std.specs.List.{list_any}
use Rattle.vk_types.specs.declared.command.Command as c
use Rattle.vk_types.specs.declared.op.Barrier.{Barrier}
use Rattle.vk_types.specs.declared.op.VkOp.{VkOp}
use Rattle.vk_types.specs.declared.op.VkOp.TheVariants as op
use Rattle.vk_types.specs.Before.{op_orders}
use Rattle.vk_types.specs.Listing.{op_touches}
use Rattle.command_queue.specs.declared.queue.Listed.{Listed}

-- the operation is a command
abbrev pub is_command : VkOp → Bool
is_command (op.HostWrite r call) = false
is_command (op.Pipeline shader) = false
is_command (op.Barrier barrier) = false
is_command (op.Command command) = true
is_command (op.Submit k) = false
is_command (op.Fence k) = false
is_command (op.HostRead r call) = false

-- a command that was not run
abbrev pub is_left : Listed → Bool
is_left s = is_command s.op && not s.ran

-- some of these barriers orders the operation, a command, before a later command
abbrev pub op_ordered : VkOp → List Listed → c.Command → Bool
op_ordered (op.HostWrite r call) between d = false
op_ordered (op.Pipeline shader) between d = false
op_ordered (op.Barrier barrier) between d = false
op_ordered (op.Command command) between d = list_any (λ s. op_orders command d s.op) between
op_ordered (op.Submit k) between d = false
op_ordered (op.Fence k) between d = false
op_ordered (op.HostRead r call) between d = false

-- some command of these was not run, and a barrier behind it orders it before a later command
abbrev pub is_held_back : List Listed → c.Command → Bool
is_held_back [] d = false
is_held_back (s ∷ ss) d = (not s.ran && op_ordered s.op ss d) || is_held_back ss d

-- the operation is a command that was not run, and none of those before it holds it back
abbrev pub is_ready_op : List Listed → VkOp → Bool → Bool
is_ready_op front (op.HostWrite r call) ran = false
is_ready_op front (op.Pipeline shader) ran = false
is_ready_op front (op.Barrier barrier) ran = false
is_ready_op front (op.Command command) ran = not ran && not (is_held_back front command)
is_ready_op front (op.Submit k) ran = false
is_ready_op front (op.Fence k) ran = false
is_ready_op front (op.HostRead r call) ran = false

abbrev pub is_ready : List Listed → Listed → Bool
is_ready front s = is_ready_op front s.op s.ran

-- the places of the ready commands among these operations, which stand behind others
abbrev pub ready_behind : List Listed → List Listed → List ℕ
ready_behind front [] = []
ready_behind front (s ∷ ss) = cond (is_ready front s) (length front ∷ ready_behind (front ++ s ∷ []) ss) (ready_behind (front ++ s ∷ []) ss)

-- the places of the ready commands, which rise
abbrev pub ready_places : List Listed → List ℕ
ready_places steps = ready_behind [] steps

-- the command that an operation is
abbrev pub command_of : VkOp → Option c.Command
command_of (op.HostWrite r call) = None
command_of (op.Pipeline shader) = None
command_of (op.Barrier barrier) = None
command_of (op.Command command) = Some command
command_of (op.Submit k) = None
command_of (op.Fence k) = None
command_of (op.HostRead r call) = None

-- the command that a step is, if it was not run
abbrev pub left_command : Listed → Option c.Command
left_command s = cond s.ran None (command_of s.op)

-- the barrier that an operation is
abbrev pub barrier_of : VkOp → Option Barrier
barrier_of (op.HostWrite r call) = None
barrier_of (op.Pipeline shader) = None
barrier_of (op.Barrier barrier) = Some barrier
barrier_of (op.Command command) = None
barrier_of (op.Submit k) = None
barrier_of (op.Fence k) = None
barrier_of (op.HostRead r call) = None

-- the command of a step, if there is one
abbrev pub step_command : Option Listed → Option c.Command
step_command None = None
step_command (Some s) = command_of s.op

-- an operation that was accepted just now
abbrev pub fresh : VkOp → Listed
fresh o = record { op = o; ran = false }

-- the operations, whether or not they were run
abbrev pub ops_of : List Listed → List VkOp
ops_of steps = map (λ s. s.op) steps

-- the operation touches a block
abbrev pub touches_block : ℕ → Listed → Bool
touches_block block s = list_any (λ t. t.range.block == block) (op_touches s.op)
