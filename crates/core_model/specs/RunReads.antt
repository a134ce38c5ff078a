-- What the host reads in a run's listing: blocks of staging buffers alone.
use Rattle.std.specs.Prelude.{◌≡◌, ℕ, Bool, true, List, [], ◌∷◌, map}
use Rattle.vk_types.specs.declared.op.VkOp.{VkOp}
use Rattle.vk_types.specs.declared.op.VkOp.TheVariants as op
use Rattle.vk_types.specs.Entries.{Entry, placed_entries}

-- each host read is of one of the blocks
abbrev pub ReadsStaging : (ℕ → Bool) → List VkOp → Type 0
ReadsStaging staging [] = Unit {0}
ReadsStaging staging (op.HostWrite r call ∷ ops) = ReadsStaging staging ops
ReadsStaging staging (op.Pipeline shader ∷ ops) = ReadsStaging staging ops
ReadsStaging staging (op.Barrier barrier ∷ ops) = ReadsStaging staging ops
ReadsStaging staging (op.Command command ∷ ops) = ReadsStaging staging ops
ReadsStaging staging (op.Submit k ∷ ops) = ReadsStaging staging ops
ReadsStaging staging (op.Fence k ∷ ops) = ReadsStaging staging ops
ReadsStaging staging (op.HostRead r call ∷ ops) = (staging r.block ≡ true) × ReadsStaging staging ops

-- the acts of a listing with their counts
abbrev pub listed_entries : List (List ℕ) → List VkOp → List Entry
listed_entries contents ops = map (λ p. p.entry) (placed_entries contents ops)
