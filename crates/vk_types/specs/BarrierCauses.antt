-- Which barriers stand where in a run's listing, each with the hazard that causes it.
use Rattle.std.specs.Prelude.{◌≡◌, ℕ, Bool, cond, min, ◌&&◌, List, [], ◌∷◌, ◌++◌, Option, Some, None}
use Rattle.std.specs.List.{list_any}
use Rattle.vk_types.specs.declared.access.Access.{Access}
use Rattle.vk_types.specs.declared.access.Stage.{Stage}
use Rattle.vk_types.specs.declared.access.Stage.TheVariants as stage
use Rattle.vk_types.specs.declared.access.Mask.{Mask}
use Rattle.vk_types.specs.declared.command.Command.{Command}
use Rattle.vk_types.specs.declared.op.Barrier.{Barrier}
use Rattle.vk_types.specs.declared.op.VkOp.{VkOp}
use Rattle.vk_types.specs.declared.op.VkOp.TheVariants as op
use Rattle.vk_types.specs.Hazards.{touches, has_stage, same_stage, has_write, conflict, no_access, read_access, write_access, read_write_access}

-- the command writes at the stage
abbrev pub writes_at : Stage → Command → Bool
writes_at s c = list_any (λ t. same_stage t.stage s && has_write t.access) (touches c)

-- a source names each stage of the commands, with write where one of them writes there
abbrev pub source_access : List Command → Stage → Option Access
source_access cs s = cond (list_any (λ c. has_stage c s) cs) (Some (cond (list_any (writes_at s) cs) write_access no_access)) None

-- the source mask that names the stages of these commands
abbrev pub source_mask : List Command → Mask
source_mask cs = record {
  indirect = source_access cs stage.Indirect;
  compute = source_access cs stage.Compute;
  transfer = source_access cs stage.Transfer;
  host = None;
}

-- these accesses at each stage of the device
abbrev pub all_device : Access → Mask
all_device a = record { indirect = Some a; compute = Some a; transfer = Some a; host = None }

-- the host's stage with reads
abbrev pub host_reads : Mask
host_reads = record { indirect = None; compute = None; transfer = None; host = Some read_access }

-- the lesser of two numbers, or the one that there is
abbrev pub lesser : Option ℕ → Option ℕ → Option ℕ
lesser None o = o
lesser (Some m) None = Some m
lesser (Some m) (Some n) = Some (min m n)

-- the least number of the commands that pass the test
abbrev pub least_of : (Command → Bool) → List Command → Option ℕ
least_of test [] = None
least_of test (x ∷ xs) = lesser (cond (test x) (Some x.number) None) (least_of test xs)

-- the least of the commands that conflict with this one
abbrev pub least_conflict : List Command → Command → Option ℕ
least_conflict recent c = least_of (λ x. conflict x c) recent

-- a barrier stands before a command exactly where it conflicts with a command since the last such barrier. Its cause is
-- the least such command and this one
abbrev pub caused : List Command → Command → Option ℕ → Option Barrier
caused recent c None = None
caused recent c (Some first) = Some (record { source = source_mask recent; dest = all_device read_write_access; first = first; second = Some c.number })

-- the barrier that stands before a command, by the commands since the last such barrier
abbrev pub barrier_before : List Command → Command → Option Barrier
barrier_before recent c = caused recent c (least_conflict recent c)

-- the commands since the last such barrier, once this one is listed
abbrev pub since_barrier : List Command → Command → Option Barrier → List Command
since_barrier recent c None = recent ++ c ∷ []
since_barrier recent c (Some b) = c ∷ []

-- the same, by the hazards themselves
abbrev pub recent_after : List Command → Command → List Command
recent_after recent c = since_barrier recent c (barrier_before recent c)

-- the command writes one of the blocks
abbrev pub writes_block : (ℕ → Bool) → Command → Bool
writes_block blocks c = list_any (λ t. has_write t.access && blocks t.range.block) (touches c)

-- the least of the commands that write one of the blocks
abbrev pub least_writer : (ℕ → Bool) → List Command → Option ℕ
least_writer blocks cs = least_of (writes_block blocks) cs

-- a barrier to the host stands before a submit exactly where a command of its batch writes a staging buffer
abbrev pub host_barrier : Option ℕ → List VkOp
host_barrier None = []
host_barrier (Some first) = op.Barrier (record { source = all_device write_access; dest = host_reads; first = first; second = None }) ∷ []

-- the barrier as an operation, if one stands
abbrev pub maybe_barrier : Option Barrier → List VkOp
maybe_barrier None = []
maybe_barrier (Some b) = op.Barrier b ∷ []

-- the operations with the barriers that they need and no others. `recent` are the commands since the last barrier before
-- a command, `batch` those since the last submit
abbrev pub barriers_from : (ℕ → Bool) → List Command → List Command → List VkOp → List VkOp
barriers_from staging recent batch [] = []
barriers_from staging recent batch (op.HostWrite r call ∷ ops) = op.HostWrite r call ∷ barriers_from staging recent batch ops
barriers_from staging recent batch (op.Pipeline shader ∷ ops) = op.Pipeline shader ∷ barriers_from staging recent batch ops
barriers_from staging recent batch (op.Barrier barrier ∷ ops) = barriers_from staging recent batch ops
barriers_from staging recent batch (op.Command c ∷ ops) =
    maybe_barrier (barrier_before recent c) ++ op.Command c ∷ barriers_from staging (recent_after recent c) (batch ++ c ∷ []) ops
barriers_from staging recent batch (op.Submit k ∷ ops) =
    host_barrier (least_writer staging batch) ++ op.Submit k ∷ barriers_from staging recent [] ops
barriers_from staging recent batch (op.Fence k ∷ ops) = op.Fence k ∷ barriers_from staging recent batch ops
barriers_from staging recent batch (op.HostRead r call ∷ ops) = op.HostRead r call ∷ barriers_from staging recent batch ops

-- a listing has exactly the barriers that its hazards cause, where these are the blocks of staging buffers: to take all
-- barriers out and to put in those that are needed changes nothing
abbrev pub HasBarrierCauses : (ℕ → Bool) → List VkOp → Type 0
HasBarrierCauses staging ops = ops ≡ barriers_from staging [] [] ops
