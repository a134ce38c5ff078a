-- Which blocks a device holds, by the batches that it accepted and completed.
use Rattle.std.specs.Prelude.{◌≡◌, ℕ, zero, suc, Bool, true, false, not, ◌&&◌, ◌||◌, ◌==◌, List, [], ◌∷◌, take, drop, is_some}
use Rattle.std.specs.List.{list_any}
use Rattle.buffer_blocks.specs.declared.block.Block.{Block}
use Rattle.vk_types.specs.declared.message.Batch.{Batch}
use Rattle.device_memory.specs.Held.{block_of}
use Rattle.vk_device.specs.State.{State}

-- one of these blocks has the number
abbrev pub names : ℕ → List Block → Bool
names n bs = list_any (λ (b : Block). n == b.number) bs

-- it is one of these numbers
abbrev pub is_among : ℕ → List ℕ → Bool
is_among n ns = list_any (λ (m : ℕ). n == m) ns

-- a batch takes the block, or brings it as a page
abbrev pub brings : ℕ → Batch → Bool
brings n b = names n b.blocks.items || names n b.pages.items

-- a batch gives the block up
abbrev pub gives_up : ℕ → Batch → Bool
gives_up n b = is_among n b.marks.items

-- Which numbers are held after batches, where so many of the first were completed, if these were held before. A batch takes its
-- blocks, and brings its pages until it is completed. Then the blocks that it gives up go.
abbrev pub held_by : ℕ → List Batch → (ℕ → Bool) → ℕ → Bool
held_by completed [] held = held
held_by zero (b ∷ bs) held = held_by zero bs (λ n. held n || brings n b)
held_by (suc completed) (b ∷ bs) held = held_by completed bs (λ n. (held n || names n b.blocks.items) && not (gives_up n b))

abbrev pub none_held : ℕ → Bool
none_held n = false

-- those that the completed batches left
abbrev pub left_by : ℕ → List Batch → ℕ → Bool
left_by completed batches = held_by completed (take completed batches) none_held

-- each batch brings numbers that aren't held then, its pages and its blocks apart
abbrev pub BringNew : (ℕ → Bool) → List Batch → Type 0
BringNew held [] = Unit {0}
BringNew held (b ∷ bs) =
    ((n : ℕ) → brings n b ≡ true → held n ≡ false) × ((n : ℕ) → names n b.pages.items ≡ true → names n b.blocks.items ≡ false)
    × BringNew (λ n. held n || brings n b) bs

-- each batch gives up blocks that were taken, itself or before it, and that no other gives up
abbrev pub GiveUpTaken : (ℕ → Bool) → List Batch → Type 0
GiveUpTaken taken [] = Unit {0}
GiveUpTaken taken (b ∷ bs) =
    ((n : ℕ) → gives_up n b ≡ true → ((taken n || names n b.blocks.items) ≡ true) × (list_any (gives_up n) bs ≡ false))
    × GiveUpTaken (λ n. taken n || names n b.blocks.items) bs

-- those that batches took, if these were taken before
abbrev pub taken_by : List Batch → (ℕ → Bool) → ℕ → Bool
taken_by [] taken = taken
taken_by (b ∷ bs) taken = taken_by bs (λ n. taken n || names n b.blocks.items)

-- a batch that is accepted next gives up blocks that are taken then, and that no batch gives up which isn't completed
abbrev pub MayGiveUp : List Batch → ℕ → Batch → Type 0
MayGiveUp batches completed b =
    (n : ℕ) → gives_up n b ≡ true
    → ((taken_by (drop completed batches) (left_by completed batches) n || names n b.blocks.items) ≡ true)
    × (list_any (gives_up n) (drop completed batches) ≡ false)

-- the blocks that are held are those that were taken or brought, and not given up
pub record Holds (batches : List Batch) (completed : ℕ) (d : State) : Type 0 where
  pub held : (n : ℕ) → is_some (block_of d.held n) ≡ held_by completed batches none_held n
  pub new : BringNew (left_by completed batches) (drop completed batches)
  pub taken : GiveUpTaken (left_by completed batches) (drop completed batches)
