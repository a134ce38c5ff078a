-- A listing: the operations of a run in the order in which they were recorded, and which of them are acts.
use Rattle.std.specs.Prelude.{◌≡◌, ℕ, suc, ◌-◌, Bool, true, false, cond, List, [], ◌∷◌, length, map, take, drop, Option, Some, None, slice_get}
use Rattle.dx_types.specs.declared.range.Range.{Range}
use Rattle.vk_types.specs.declared.touch.Touch.{Touch}
use Rattle.vk_types.specs.declared.op.VkOp.{VkOp}
use Rattle.vk_types.specs.declared.op.VkOp.TheVariants as op
use Rattle.vk_types.specs.Hazards.{touches, host_write_touch, host_read_touch}
use Rattle.vk_types.specs.Effects.{Act, Host_write, Device, Host_read}

-- acts are host writes, commands and host reads
abbrev pub is_act : VkOp → Bool
is_act (op.HostWrite r call) = true
is_act (op.Pipeline shader) = false
is_act (op.Barrier barrier) = false
is_act (op.Command command) = true
is_act (op.Submit k) = false
is_act (op.Fence k) = false
is_act (op.HostRead r call) = true

-- the places of the acts, when the first operation has this place
abbrev pub act_places : ℕ → List VkOp → List ℕ
act_places at [] = []
act_places at (o ∷ ops) = cond (is_act o) (at ∷ act_places (suc at) ops) (act_places (suc at) ops)

-- the places of the acts
abbrev pub acts : List VkOp → List ℕ
acts ops = act_places 0 ops

-- what stands between two places
abbrev pub between : List VkOp → ℕ → ℕ → List VkOp
between ops x y = take (y - suc x) (drop (suc x) ops)

-- the number of the first submit, if there is one
abbrev pub first_submit : List VkOp → Option ℕ
first_submit [] = None
first_submit (op.HostWrite r call ∷ ops) = first_submit ops
first_submit (op.Pipeline shader ∷ ops) = first_submit ops
first_submit (op.Barrier barrier ∷ ops) = first_submit ops
first_submit (op.Command command ∷ ops) = first_submit ops
first_submit (op.Submit k ∷ ops) = Some k
first_submit (op.Fence k ∷ ops) = first_submit ops
first_submit (op.HostRead r call ∷ ops) = first_submit ops

-- a command is submitted by the first submit after it (after vkQueueSubmit2)
abbrev pub submission_of : List VkOp → ℕ → Option ℕ
submission_of ops x = first_submit (drop (suc x) ops)

-- what an operation touches: nothing, if it is no act
abbrev pub op_touches : VkOp → List Touch
op_touches (op.HostWrite r call) = host_write_touch r ∷ []
op_touches (op.Pipeline shader) = []
op_touches (op.Barrier barrier) = []
op_touches (op.Command command) = touches command
op_touches (op.Submit k) = []
op_touches (op.Fence k) = []
op_touches (op.HostRead r call) = host_read_touch r ∷ []

-- the same, if an operation is there
abbrev pub touches_if : Option VkOp → List Touch
touches_if None = []
touches_if (Some o) = op_touches o

-- what the operation at a place touches
abbrev pub touches_at : List VkOp → ℕ → List Touch
touches_at ops x = touches_if (slice_get ops x)

-- the ranges of the host writes, in order
abbrev pub written_ranges : List VkOp → List Range
written_ranges [] = []
written_ranges (op.HostWrite r call ∷ ops) = r ∷ written_ranges ops
written_ranges (op.Pipeline shader ∷ ops) = written_ranges ops
written_ranges (op.Barrier barrier ∷ ops) = written_ranges ops
written_ranges (op.Command command ∷ ops) = written_ranges ops
written_ranges (op.Submit k ∷ ops) = written_ranges ops
written_ranges (op.Fence k ∷ ops) = written_ranges ops
written_ranges (op.HostRead r call ∷ ops) = written_ranges ops

-- the lists of bytes are what the host writes: one for each host write, in order, as long as its range
abbrev pub AreContents : List VkOp → List (List ℕ) → Type 0
AreContents ops contents = map length contents ≡ map (λ r. r.to - r.from) (written_ranges ops)

-- the bytes, and none where there are none
abbrev pub or_empty : Option (List ℕ) → List ℕ
or_empty None = []
or_empty (Some bytes) = bytes

-- the act of an operation, if it is one. A host write that stands after n others writes the n-th bytes, from 0
abbrev pub op_act : List (List ℕ) → ℕ → VkOp → Option Act
op_act contents n (op.HostWrite r call) = Some (Host_write r (or_empty (slice_get contents n)))
op_act contents n (op.Pipeline shader) = None
op_act contents n (op.Barrier barrier) = None
op_act contents n (op.Command command) = Some (Device command)
op_act contents n (op.Submit k) = None
op_act contents n (op.Fence k) = None
op_act contents n (op.HostRead r call) = Some (Host_read r)

-- the same, if an operation is there
abbrev pub act_of : List (List ℕ) → ℕ → Option VkOp → Option Act
act_of contents n None = None
act_of contents n (Some o) = op_act contents n o

-- the act at a place of the listing
abbrev pub act_at : List (List ℕ) → List VkOp → ℕ → Option Act
act_at contents ops x = act_of contents (length (written_ranges (take x ops))) (slice_get ops x)
