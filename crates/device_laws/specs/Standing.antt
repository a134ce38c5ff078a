-- What a device stands for once it accepted some batches, one after another, and completed the first of them.
use Rattle.std.specs.Prelude.{◌≡◌, ℕ, suc, ◌≤◌, List, [], ◌∷◌, ◌++◌, length, map, drop}
use Rattle.base_lemmas.specs.Lists.{IsReordering}
use Rattle.lifetime.specs.declared.holds.Mark.{Mark}
use Rattle.vk_types.specs.declared.command.Command as c
use Rattle.vk_types.specs.declared.message.Batch.{Batch}
use Rattle.vk_types.specs.declared.message.Completion.{Completion}
use Rattle.vk_types.specs.declared.op.VkOp.{VkOp}
use Rattle.core_model.specs.Batching.{batch_ops}
use Rattle.core_model.specs.Succession.{FollowsBatch, FollowsHead, Log, batch_head, completion_head, made_by}
use Rattle.command_queue.specs.Left.{left}
use Rattle.command_queue.specs.Readiness.{fresh, ops_of}
use Rattle.vk_device.specs.declared.accepted.Accepted.{Accepted}
use Rattle.vk_device.specs.Accepting.{IsKept, marks_by}
use Rattle.vk_device.specs.State.{State}

-- the operations of batches, one batch after another
abbrev pub ops_in : List Batch → List VkOp
ops_in [] = []
ops_in (b ∷ bs) = b.ops.items ++ ops_in bs

-- the blocks that batches give up, with the batches' numbers
abbrev pub marks_in : List Batch → List Mark
marks_in [] = []
marks_in (b ∷ bs) = marks_by b.number b.marks.items ++ marks_in bs

-- the commands among operations
abbrev pub commands_in : List VkOp → List c.Command
commands_in ops = left (map fresh ops)

abbrev pub numbers : List c.Command → List ℕ
numbers ds = map (λ (d : c.Command). d.number) ds

-- what is kept is of these batches
abbrev pub AreKept : List Batch → List Accepted → Type 0
AreKept [] kept = kept ≡ []
AreKept (b ∷ bs) kept = (a : Accepted) × (others : List Accepted) × (kept ≡ a ∷ others) × IsKept b a × AreKept bs others

-- the batches have these numbers, one after another
abbrev pub AreNumbered : ℕ → List Batch → Type 0
AreNumbered n [] = Unit {0}
AreNumbered n (b ∷ bs) = (b.number ≡ n) × AreNumbered (suc n) bs

-- it accepted these batches, in order, and completed so many of the first
pub record Stands (accepted : List Batch) (completed : ℕ) (d : State) : Type 0 where
  pub within : completed ≤ length accepted
  pub numbered : AreNumbered 1 accepted
  pub newest : d.newest ≡ length accepted
  -- what it holds of the others
  pub batches : AreKept (drop completed accepted) d.batches
  pub steps : ops_of d.steps ≡ ops_in (drop completed accepted)
  pub marks : d.marks ≡ marks_in (drop completed accepted)
  -- the commands that were run, in the order in which they were, and those that are left, are the commands of all, each once
  pub each_once : IsReordering (numbers (commands_in (ops_in accepted))) (d.order ++ numbers (left d.steps))

-- each batch may stand behind those before it
abbrev pub AllFollow : Log → List Batch → Type 0
AllFollow log batches = (front : List Batch) (b : Batch) (back : List Batch) → batches ≡ front ++ b ∷ back → FollowsBatch log front b

-- the completion is of the batch that stands behind so many: it has its number, its last call, its places and its operations
pub record IsOf (accepted : List Batch) (completed : ℕ) (done : Completion) : Type 0 where
  pub front : List Batch
  pub batch : Batch
  pub back : List Batch
  pub split : accepted ≡ front ++ batch ∷ back
  pub place : length front ≡ completed
  pub head : completion_head done ≡ batch_head batch
  pub ops : done.ops.items ≡ batch.ops.items

-- the completion's number, last call, places and operations are those of a completion that comes behind these batches
pub record MayFollow (log : Log) (front : List Batch) (done : Completion) : Type 0 where
  pub head : FollowsHead log (map batch_head front) (completion_head done)
  pub ops : done.ops.items ≡ batch_ops (made_by log (map batch_head front) (completion_head done)) done.number
