-- The recorder's part of the listing: its own operations, and the places of the batches.
use Rattle.std.specs.Prelude.{Bool, cond, List, [], ◌∷◌, ◌++◌, Option, Some, None}
use Rattle.std.specs.Global.{Vec}
use Rattle.vk_types.specs.declared.op.VkOp.{VkOp}
use Rattle.immediate_ctx.specs.declared.listing.Own.{Own}
use Rattle.immediate_ctx.specs.declared.listing.Own.TheVariants.{Op, Handed}

-- what is kept of the listing: nothing where it isn't traced
pub record Kept : Type 0 where
  pub traced : Bool
  pub own : List Own
  pub batches : List (List VkOp)

-- the k-th chunk's operations stand where it was handed over; nothing stands there yet where they are not known
abbrev pub expand : List (List VkOp) → List Own → List VkOp
expand batches [] = []
expand batches (Op o ∷ os) = o ∷ expand batches os
expand [] (Handed ∷ os) = expand [] os
expand (b ∷ bs) (Handed ∷ os) = b ++ expand bs os

-- one more operation of the recorder
abbrev pub with_own : Own → Kept → Kept
with_own o k = cond k.traced (record k { own = k.own ++ o ∷ [] }) k

-- one more batch's operations
abbrev pub with_batch : List VkOp → Kept → Kept
with_batch ops k = cond k.traced (record k { batches = k.batches ++ ops ∷ [] }) k

abbrev pub option_items : Option (Vec VkOp) → List VkOp
option_items None = []
option_items (Some ops) = ops.items
