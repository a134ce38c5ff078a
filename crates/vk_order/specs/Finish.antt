-- Which fence finishes a command.
use Rattle.std.specs.Prelude.{◌≡◌, ◌≢◌, ℕ, ◌<◌, ◌≤◌, ◌⊎◌, List, length, drop, Option, Some, None, slice_get, slice_index}
use Rattle.vk_types.specs.declared.command.Command.{Command}
use Rattle.vk_types.specs.declared.op.VkOp.{VkOp}
use Rattle.vk_types.specs.declared.op.VkOp.TheVariants as op
use Rattle.vk_types.specs.Listing.{first_submit, submission_of}
use Rattle.vk_order.specs.declared.finish.TheConstants.{NEVER}
use Rattle.vk_order.specs.declared.finish.FenceAt.{FenceAt}
use Rattle.vk_order.specs.declared.finish.Finishes.{Finishes}

-- one of the fences, which finishes the submission, stands there
pub record HasFence (fences : List FenceAt) (number place : ℕ) : Type 0 where
  pub index : ℕ
  pub fence : FenceAt
  pub there : slice_get fences index ≡ Some fence
  pub enough : number ≤ fence.number
  pub place_is : place ≡ fence.place

abbrev pub IsFinish : List FenceAt → ℕ → ℕ → Type 0
IsFinish fences number place = (place ≡ NEVER) ⊎ HasFence fences number place

abbrev pub IsFinishIf : List FenceAt → Option ℕ → ℕ → Type 0
IsFinishIf fences None place = place ≡ NEVER
IsFinishIf fences (Some number) place = IsFinish fences number place

-- the first submission, with this operation before the others
abbrev pub submitted_after : Option ℕ → VkOp → Option ℕ
submitted_after s (op.HostWrite r call) = s
submitted_after s (op.Pipeline shader) = s
submitted_after s (op.Barrier barrier) = s
submitted_after s (op.Command command) = s
submitted_after s (op.Submit k) = Some k
submitted_after s (op.Fence k) = s
submitted_after s (op.HostRead r call) = s

-- the operation is this fence, at this place
abbrev pub is_fence_if : VkOp → ℕ → FenceAt → Type 0
is_fence_if o at f = (o ≡ op.Fence f.number) × (f.place ≡ at)

-- what is known of a listing's end, with one operation more before it
pub record IsFinishStep (old new : Finishes) (at : ℕ) (o : VkOp) : Type 0 where
  pub submitted : new.submitted ≡ submitted_after old.submitted o
  pub fences : (i : ℕ) (f : FenceAt) → slice_get new.fences.items i ≡ Some f → is_fence_if o at f ⊎ ((j : ℕ) × (slice_get old.fences.items j ≡ Some f))
  pub len : length new.places.items ≡ length old.places.items
  pub here : (c : Command) → o ≡ op.Command c → at < length old.places.items → IsFinishIf old.fences.items old.submitted (slice_index new.places.items at)
  pub others : (x : ℕ) → x ≢ at → slice_index new.places.items x ≡ slice_index old.places.items x

-- a fence behind the command finishes it
pub record Finished (ops : List VkOp) (x place : ℕ) : Type 0 where
  pub submission : ℕ
  pub number : ℕ
  pub submitted : submission_of ops x ≡ Some submission
  pub behind : x < place
  pub fence : slice_get ops place ≡ Some (op.Fence number)
  pub enough : submission ≤ number

abbrev pub IsFinishedBy : List VkOp → ℕ → ℕ → Type 0
IsFinishedBy ops x place = (place ≡ NEVER) ⊎ Finished ops x place

-- the same of each command
pub record AreFinished (ops : List VkOp) (places : List ℕ) : Type 0 where
  pub len : length places ≡ length ops
  pub each : (x : ℕ) (c : Command) → slice_get ops x ≡ Some (op.Command c) → IsFinishedBy ops x (slice_index places x)

-- what is known of a listing's end from a place on
pub record FinishesHold (ops : List VkOp) (from : ℕ) (f : Finishes) : Type 0 where
  pub submitted : f.submitted ≡ first_submit (drop from ops)
  pub fences : (i : ℕ) (g : FenceAt) → slice_get f.fences.items i ≡ Some g → (from ≤ g.place) × (slice_get ops g.place ≡ Some (op.Fence g.number))
  pub len : length f.places.items ≡ length ops
  pub places : (x : ℕ) (c : Command) → from ≤ x → slice_get ops x ≡ Some (op.Command c) → IsFinishedBy ops x (slice_index f.places.items x)
