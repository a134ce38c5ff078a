-- What is asked of a hazard, by what stands between its acts.
use Rattle.std.specs.Prelude.{Bool, true, false, not, ◌&&◌, ◌||◌, List, Option, Some, None}
use Rattle.std.specs.List.{list_any}
use Rattle.dx_types.specs.declared.range.Range.{Range}
use Rattle.vk_types.specs.declared.touch.Touch.{Touch}
use Rattle.vk_types.specs.declared.access.Mask.{Mask}
use Rattle.vk_types.specs.declared.command.Command.{Command}
use Rattle.vk_types.specs.declared.op.Barrier.{Barrier}
use Rattle.vk_types.specs.declared.op.VkOp.{VkOp}
use Rattle.vk_types.specs.declared.op.VkOp.TheVariants as op
use Rattle.base_lemmas.specs.Lists.{all_pass}
use Rattle.vk_types.specs.Hazards.{touches, has_write, touches_conflict, conflict, host_write_touch, host_read_touch}
use Rattle.vk_types.specs.Listing.{first_submit}
use Rattle.vk_types.specs.Before.{access_at, barrier_orders, op_orders, is_fenced}
use Rattle.vk_types.specs.Serving.{ServesOp}
use Rattle.vk_types.specs.Covered.{writes_named, makes_visible, commands_visible, host_visible, each_pair}

-- a barrier orders the commands and makes the write visible
abbrev pub orders_visibly : Command → Command → Touch → Touch → Barrier → Bool
orders_visibly c d t u b = barrier_orders c d b && makes_visible t u b

-- a source makes available what the touch writes, if it writes
abbrev pub is_available : Mask → Touch → Bool
is_available source t = not (has_write t.access) || writes_named (access_at source t.stage)

-- two commands conflict, and no barrier between them covers it
abbrev pub are_commands_open : List VkOp → Command → Command → Bool
are_commands_open mid c d =
    conflict c d && not (list_any (op_orders c d) mid && each_pair (commands_visible mid c d) (touches c) (touches d))

-- a command conflicts with a later write of the host, and no fence finishes it before
abbrev pub is_write_open : List VkOp → List VkOp → Command → Range → Bool
is_write_open rest mid c r = list_any (touches_conflict (host_write_touch r)) (touches c) && not (is_fenced (first_submit rest) mid)

-- a command conflicts with a later read of the host, and no fence finishes it before or no barrier shows it to the host
abbrev pub is_read_open : List VkOp → List VkOp → Command → Range → Bool
is_read_open rest mid c r =
    list_any (touches_conflict (host_read_touch r)) (touches c)
    && not (is_fenced (first_submit rest) mid && all_pass (λ t. host_visible mid t (host_read_touch r)) (touches c))

-- the same by the later operation
abbrev pub is_command_open : List VkOp → List VkOp → Command → VkOp → Bool
is_command_open rest mid c (op.HostWrite r call) = is_write_open rest mid c r
is_command_open rest mid c (op.Pipeline shader) = false
is_command_open rest mid c (op.Barrier barrier) = false
is_command_open rest mid c (op.Command d) = are_commands_open mid c d
is_command_open rest mid c (op.Submit k) = false
is_command_open rest mid c (op.Fence k) = false
is_command_open rest mid c (op.HostRead r call) = is_read_open rest mid c r

-- two operations are a hazard that is not covered, by what stands between them and what stands behind the first
abbrev pub is_pair_open : List VkOp → List VkOp → VkOp → VkOp → Bool
is_pair_open rest mid (op.HostWrite r call) p = false
is_pair_open rest mid (op.Pipeline shader) p = false
is_pair_open rest mid (op.Barrier barrier) p = false
is_pair_open rest mid (op.Command c) p = is_command_open rest mid c p
is_pair_open rest mid (op.Submit k) p = false
is_pair_open rest mid (op.Fence k) p = false
is_pair_open rest mid (op.HostRead r call) p = false

-- the operation that stands there is a barrier that serves the command
abbrev pub ServesIf : Command → Option VkOp → Type 0
ServesIf c None = ⊥
ServesIf c (Some o) = ServesOp c o

-- a command stands there
abbrev pub is_command : Option VkOp → Bool
is_command None = false
is_command (Some (op.HostWrite r call)) = false
is_command (Some (op.Pipeline shader)) = false
is_command (Some (op.Barrier barrier)) = false
is_command (Some (op.Command command)) = true
is_command (Some (op.Submit k)) = false
is_command (Some (op.Fence k)) = false
is_command (Some (op.HostRead r call)) = false
