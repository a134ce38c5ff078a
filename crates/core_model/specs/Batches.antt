-- The batches that stand in a listing.
use Rattle.std.specs.Prelude.{Bool, true, false, List, [], ◌∷◌, ◌++◌}
use Rattle.vk_types.specs.declared.op.VkOp.{VkOp}
use Rattle.vk_types.specs.declared.op.VkOp.TheVariants as op

-- barriers, commands and submits are a batch's
abbrev pub is_of_batch : VkOp → Bool
is_of_batch (op.HostWrite r call) = false
is_of_batch (op.Pipeline shader) = false
is_of_batch (op.Barrier barrier) = true
is_of_batch (op.Command command) = true
is_of_batch (op.Submit k) = true
is_of_batch (op.Fence k) = false
is_of_batch (op.HostRead r call) = false

-- the batches that a listing has, where these operations of the first were listed already: each with its barriers,
-- commands and submit. What is behind the last submit is no batch yet
abbrev pub batches_from : List VkOp → List VkOp → List (List VkOp)
batches_from begun [] = []
batches_from begun (op.HostWrite r call ∷ ops) = batches_from begun ops
batches_from begun (op.Pipeline shader ∷ ops) = batches_from begun ops
batches_from begun (op.Barrier barrier ∷ ops) = batches_from (begun ++ op.Barrier barrier ∷ []) ops
batches_from begun (op.Command command ∷ ops) = batches_from (begun ++ op.Command command ∷ []) ops
batches_from begun (op.Submit k ∷ ops) = (begun ++ op.Submit k ∷ []) ∷ batches_from [] ops
batches_from begun (op.Fence k ∷ ops) = batches_from begun ops
batches_from begun (op.HostRead r call ∷ ops) = batches_from begun ops

abbrev pub batches : List VkOp → List (List VkOp)
batches ops = batches_from [] ops
