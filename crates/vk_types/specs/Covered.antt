-- A listing is covered where each hazard, a pair of conflicting acts, is ordered by a barrier, a fence or the host, and
-- where the barrier also makes what was written available and visible (after Vulkan's memory dependencies; what is
-- asked of host acts is the project's own).
use Rattle.std.specs.Prelude.{◌≡◌, ℕ, ◌<◌, Bool, true, false, not, ◌&&◌, ◌||◌, nat_lt, List, Option, Some, None, slice_get}
use Rattle.std.specs.List.{list_any}
use Rattle.vk_types.specs.declared.access.Access.{Access}
use Rattle.vk_types.specs.declared.access.Stage.TheVariants as stage
use Rattle.vk_types.specs.declared.touch.Touch.{Touch}
use Rattle.vk_types.specs.declared.command.Command.{Command}
use Rattle.vk_types.specs.declared.op.Barrier.{Barrier}
use Rattle.vk_types.specs.declared.op.VkOp.{VkOp}
use Rattle.vk_types.specs.declared.op.VkOp.TheVariants as op
use Rattle.vk_types.specs.Hazards.{touches, has_read, has_write, allows, touches_conflict, lists_conflict}
use Rattle.base_lemmas.specs.Lists.{all_pass}
use Rattle.vk_types.specs.Listing.{between, op_touches, touches_at}
use Rattle.vk_types.specs.Before.{access_at, barrier_orders, before}

-- the stage's access is named, and has write
abbrev pub writes_named : Option Access → Bool
writes_named None = false
writes_named (Some a) = has_write a

-- the stage's access is named, and has read
abbrev pub reads_named : Option Access → Bool
reads_named None = false
reads_named (Some a) = has_read a

-- the stage's access is named, and allows all of this
abbrev pub allowed_by : Option Access → Access → Bool
allowed_by None b = false
allowed_by (Some a) b = allows a b

-- the barrier makes what t wrote available, and visible to u
abbrev pub makes_visible : Touch → Touch → Barrier → Bool
makes_visible t u b = writes_named (access_at b.source t.stage) && allowed_by (access_at b.dest u.stage) u.access

-- the barrier makes what t wrote available to the host's reads
abbrev pub makes_host_visible : Touch → Barrier → Bool
makes_host_visible t b = writes_named (access_at b.source t.stage) && reads_named (access_at b.dest stage.Host)

-- the operation is a barrier that passes the test
abbrev pub op_barrier : (Barrier → Bool) → VkOp → Bool
op_barrier test (op.HostWrite r call) = false
op_barrier test (op.Pipeline shader) = false
op_barrier test (op.Barrier barrier) = test barrier
op_barrier test (op.Command command) = false
op_barrier test (op.Submit k) = false
op_barrier test (op.Fence k) = false
op_barrier test (op.HostRead r call) = false

-- what a pair of touches asks beside the order. Of two commands: where the first touch writes and they conflict, one
-- barrier orders the commands and makes the write visible
abbrev pub commands_visible : List VkOp → Command → Command → Touch → Touch → Bool
commands_visible mid c d t u =
    not (has_write t.access && touches_conflict t u) || list_any (op_barrier (λ b. barrier_orders c d b && makes_visible t u b)) mid

-- of a command and a host read: where they conflict, a barrier makes the write visible to the host
abbrev pub host_visible : List VkOp → Touch → Touch → Bool
host_visible mid t u = not (touches_conflict t u) || list_any (op_barrier (makes_host_visible t)) mid

-- each touch of the first list with each of the second passes the test
abbrev pub each_pair : (Touch → Touch → Bool) → List Touch → List Touch → Bool
each_pair test ts us = all_pass (λ t. all_pass (test t) us) ts

-- what two operations ask beside the order, with what stands between them
abbrev pub visible : List VkOp → VkOp → VkOp → Bool
visible mid (op.Command c) (op.Command d) = each_pair (commands_visible mid c d) (touches c) (touches d)
visible mid (op.Command c) (op.HostRead r call) = each_pair (host_visible mid) (touches c) (op_touches (op.HostRead r call))
visible mid x y = true

-- the same at two places, if operations are there
abbrev pub visible_if : List VkOp → Option VkOp → Option VkOp → Bool
visible_if mid None o = true
visible_if mid (Some x) None = true
visible_if mid (Some x) (Some y) = visible mid x y

abbrev pub visible_at : List VkOp → ℕ → ℕ → Bool
visible_at ops x y = visible_if (between ops x y) (slice_get ops x) (slice_get ops y)

-- a hazard: the act at x conflicts with the one at y, which is listed later
abbrev pub is_hazard : List VkOp → ℕ → ℕ → Bool
is_hazard ops x y = nat_lt x y && lists_conflict (touches_at ops x) (touches_at ops y)

-- a hazard that is not covered: the two are not ordered, or what was written is not visible
abbrev pub uncovered : List VkOp → ℕ → ℕ → Bool
uncovered ops x y = is_hazard ops x y && not (before ops x y && visible_at ops x y)

-- no pair of acts is a hazard that is not covered
abbrev pub Covered : List VkOp → Type 0
Covered ops = (x y : ℕ) → uncovered ops x y ≡ false

-- the first break: the pair with the least second place, and among those with the least first
pub record IsFirstBreak (ops : List VkOp) (first second : ℕ) : Type 0 where
  pub here : uncovered ops first second ≡ true
  pub none_before : (x y : ℕ) → y < second → uncovered ops x y ≡ false
  pub least : (x : ℕ) → x < first → uncovered ops x second ≡ false

-- a relation on places that orders each hazard
abbrev pub OrdersHazards : (ℕ → ℕ → Bool) → List VkOp → Type 0
OrdersHazards ordered ops = (x y : ℕ) → is_hazard ops x y ≡ true → ordered x y ≡ true
