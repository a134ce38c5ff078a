-- The batches of messages behind one another, read as one listing.
use Rattle.std.specs.Prelude.{◌≡◌, ℕ, suc, Bool, false, List, [], ◌∷◌, ◌++◌, take}
use Rattle.vk_types.specs.declared.command.Command.{Command}
use Rattle.vk_types.specs.declared.message.Placed.{Placed}
use Rattle.vk_types.specs.declared.message.QueryMark.{QueryMark}
use Rattle.vk_types.specs.declared.op.VkOp.{VkOp}
use Rattle.vk_types.specs.declared.op.VkOp.TheVariants as op
use Rattle.vk_types.specs.BarrierCauses.{barrier_before, recent_after, least_writer, host_barrier, maybe_barrier}
use Rattle.vk_types.specs.RunListing.{IsNumbered, IsWhole}
use Rattle.core_model.specs.Script.{Script}
use Rattle.core_model.specs.Chunking.{chunk_turns}
use Rattle.core_model.specs.Batching.{Made, nothing_made, next_chunk, make_turns, made, batch_ops}

-- the operations with the barriers that they need and no others, where each batch, by its number, has staging blocks of
-- its own: a block may go from a staging buffer to another one
abbrev pub barriers_by : (ℕ → ℕ → Bool) → List Command → List Command → List VkOp → List VkOp
barriers_by staging recent batch [] = []
barriers_by staging recent batch (op.HostWrite r call ∷ ops) =
    op.HostWrite r call ∷ barriers_by staging recent batch ops
barriers_by staging recent batch (op.Pipeline shader ∷ ops) = op.Pipeline shader ∷ barriers_by staging recent batch ops
barriers_by staging recent batch (op.Barrier barrier ∷ ops) = barriers_by staging recent batch ops
barriers_by staging recent batch (op.Command c ∷ ops) =
    maybe_barrier (barrier_before recent c) ++ op.Command c ∷ barriers_by staging (recent_after recent c)
    (batch ++ c ∷ []) ops
barriers_by staging recent batch (op.Submit k ∷ ops) =
    host_barrier (least_writer (staging k) batch) ++ op.Submit k ∷ barriers_by staging recent [] ops
barriers_by staging recent batch (op.Fence k ∷ ops) = op.Fence k ∷ barriers_by staging recent batch ops
barriers_by staging recent batch (op.HostRead r call ∷ ops) = op.HostRead r call ∷ barriers_by staging recent batch ops

-- a listing of batches has the barriers that its hazards cause, to take all barriers out and to put in those that are
-- needed changes nothing; it numbers its submits and fences, and keeps each batch whole
pub record IsBatchListing (staging : ℕ → ℕ → Bool) (ops : List VkOp) : Type 0 where
  pub barriers : ops ≡ barriers_by staging [] [] ops
  pub numbers : IsNumbered 1 ops
  pub whole : IsWhole false ops

-- the operations of the chunks from number k on, with the places of their items, behind what was made before
abbrev pub ops_from : Script → ℕ → List (List Placed) → Made → List VkOp
ops_from script k [] m = []
ops_from script k (ps ∷ pss) m =
    batch_ops (make_turns script (chunk_turns script k) ps (next_chunk m)) k
    ++ ops_from script (suc k) pss (make_turns script (chunk_turns script k) ps (next_chunk m))

-- the operations of the first chunks, batch behind batch
abbrev pub ops_of : Script → List (List Placed) → List VkOp
ops_of script pss = ops_from script 1 pss nothing_made

-- the blocks of staging buffers as batch k is made
abbrev pub staging_at : Script → List (List Placed) → ℕ → ℕ → Bool
staging_at script pss k = (made script (take k pss)).is_staging

-- the marks of queries of the chunks from number k on, and of the first chunks, message behind message
abbrev pub queries_from : Script → ℕ → List (List Placed) → Made → List QueryMark
queries_from script k [] m = []
queries_from script k (ps ∷ pss) m =
    (make_turns script (chunk_turns script k) ps (next_chunk m)).queries
    ++ queries_from script (suc k) pss (make_turns script (chunk_turns script k) ps (next_chunk m))

abbrev pub queries_of : Script → List (List Placed) → List QueryMark
queries_of script pss = queries_from script 1 pss nothing_made
