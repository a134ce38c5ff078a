-- The stages of a command as one of sixteen sets, and what of the operations before a command decides whether it is ready: which
-- sets commands have that were not run, and which sets barriers hold back.
use Rattle.std.specs.Prelude.{◌≡◌, ℕ, ◌+◌, ◌*◌, ◌/◌, ◌%◌, ◌<◌, Bool, false, cond, not, ◌&&◌, ◌||◌, ◌==◌, List, [], ◌∷◌, length, slice_index_or}
use Rattle.std.specs.List.{list_any}
use Rattle.vk_types.specs.declared.access.Mask.{Mask}
use Rattle.vk_types.specs.declared.access.Stage.TheVariants as stage
use Rattle.vk_types.specs.declared.command.Command as c
use Rattle.vk_types.specs.declared.op.VkOp.{VkOp}
use Rattle.vk_types.specs.declared.op.VkOp.TheVariants as op
use Rattle.base_lemmas.specs.Lists.{numbers_from}
use Rattle.vk_types.specs.Before.{names_stage}
use Rattle.vk_types.specs.Hazards.{has_stage}
use Rattle.command_queue.specs.declared.queue.Listed.{Listed}

abbrev pub digit : Bool → ℕ
digit b = cond b 1 0

-- the set of these stages, by its number
abbrev pub set_of : Bool → Bool → Bool → Bool → ℕ
set_of indirect compute transfer host = digit indirect + (2 * digit compute + (4 * digit transfer + 8 * digit host))

-- the stages at which the command works
abbrev pub stage_set : c.Command → ℕ
stage_set d = set_of (has_stage d stage.Indirect) (has_stage d stage.Compute) (has_stage d stage.Transfer) (has_stage d stage.Host)

-- a stage is not in the set, or is named
abbrev pub is_named : ℕ → ℕ → Bool → Bool
is_named set unit named = (set / unit % 2 == 0) || named

-- the mask names each stage of the set
abbrev pub names_set : Mask → ℕ → Bool
names_set m set =
    (is_named set 1 (names_stage m stage.Indirect) && is_named set 2 (names_stage m stage.Compute))
    && (is_named set 4 (names_stage m stage.Transfer) && is_named set 8 (names_stage m stage.Host))

-- a command of these that was not run has this set of stages
abbrev pub is_left_set_op : VkOp → ℕ → Bool
is_left_set_op (op.HostWrite r call) set = false
is_left_set_op (op.Pipeline shader) set = false
is_left_set_op (op.Barrier barrier) set = false
is_left_set_op (op.Command command) set = stage_set command == set
is_left_set_op (op.Submit k) set = false
is_left_set_op (op.Fence k) set = false
is_left_set_op (op.HostRead r call) set = false

abbrev pub waits : List Listed → ℕ → Bool
waits steps set = list_any (λ s. not s.ran && is_left_set_op s.op set) steps

-- the operation is a barrier that orders commands of the one set before those of the other
abbrev pub op_orders_sets : ℕ → ℕ → VkOp → Bool
op_orders_sets first second (op.HostWrite r call) = false
op_orders_sets first second (op.Pipeline shader) = false
op_orders_sets first second (op.Barrier barrier) = names_set barrier.source first && names_set barrier.dest second
op_orders_sets first second (op.Command command) = false
op_orders_sets first second (op.Submit k) = false
op_orders_sets first second (op.Fence k) = false
op_orders_sets first second (op.HostRead r call) = false

abbrev pub op_holds_set : VkOp → List Listed → ℕ → Bool
op_holds_set (op.HostWrite r call) between set = false
op_holds_set (op.Pipeline shader) between set = false
op_holds_set (op.Barrier barrier) between set = false
op_holds_set (op.Command command) between set = list_any (λ s. op_orders_sets (stage_set command) set s.op) between
op_holds_set (op.Submit k) between set = false
op_holds_set (op.Fence k) between set = false
op_holds_set (op.HostRead r call) between set = false

-- some command of these was not run, and a barrier behind it holds back each command of this set
abbrev pub holds_set : List Listed → ℕ → Bool
holds_set [] set = false
holds_set (s ∷ ss) set = (not s.ran && op_holds_set s.op ss set) || holds_set ss set

-- a set that waits is named by the mask
abbrev pub some_waits : List Bool → Mask → Bool
some_waits waiting m = list_any (λ set. slice_index_or waiting set false && names_set m set) (numbers_from 0 16)

-- sixteen flags each say of each set whether a command that was not run has it, and whether it is held back
pub record Stands (front : List Listed) (ws hs : List Bool) : Type 0 where
  pub wide : (length ws ≡ 16) × (length hs ≡ 16)
  pub waiting : (set : ℕ) → set < 16 → slice_index_or ws set false ≡ waits front set
  pub held : (set : ℕ) → set < 16 → slice_index_or hs set false ≡ holds_set front set
