-- What a device does as it completes its oldest batch: it gives the batch's operations and pages back, the blocks of a class that
-- were given up, copies of staging buffers, and the values of queries that ended.
use Rattle.std.specs.Prelude.{◌≡◌, ℕ, Bool, false, cond, not, ◌&&◌, ◌||◌, ◌==◌, nat_le, nat_lt, List, [], ◌∷◌, ◌++◌, length, map, take, drop, slice_range, Option, Some, None}
use Rattle.std.specs.List.{list_any, filter_map}
use Rattle.std.specs.Option.{option_to_list}
use Rattle.dx_types.specs.declared.range.Range.{Range}
use Rattle.buffer_blocks.specs.declared.block.Block.{Block}
use Rattle.buffer_blocks.specs.Block.{bytes_of}
use Rattle.lifetime.specs.declared.holds.Mark.{Mark}
use Rattle.query_pool.specs.Asked.{invocations_between}
use Rattle.query_pool.specs.declared.queries.Ended.{Ended}
use Rattle.vk_types.specs.declared.message.Completion.{Completion}
use Rattle.vk_types.specs.declared.message.QueryValue.{QueryValue}
use Rattle.vk_types.specs.declared.message.Snap.{Snap}
use Rattle.device_memory.specs.Held.{block_of}
use Rattle.command_queue.specs.declared.queue.Listed.{Listed}
use Rattle.command_queue.specs.Readiness.{is_left, ops_of, touches_block}
use Rattle.vk_device.specs.declared.accepted.Accepted.{Accepted}
use Rattle.vk_device.specs.Accepting.{Blocks}
use Rattle.vk_device.specs.State.{State}

-- When -----------------------------------------------------------------------------------------------------------------------

-- there is a batch, and no command of the oldest is left
abbrev pub can_complete_first : List Accepted → List Listed → Bool
can_complete_first [] steps = false
can_complete_first (a ∷ others) steps = not (list_any is_left (take a.count steps))

abbrev pub can_complete : State → Bool
can_complete d = can_complete_first d.batches d.steps

-- Blocks that go -------------------------------------------------------------------------------------------------------------

-- the blocks but for one
abbrev pub without : ℕ → Blocks → Blocks
without number blocks = λ n. cond (n == number) None (blocks n)

abbrev pub without_all : List ℕ → Blocks → Blocks
without_all [] blocks = blocks
without_all (n ∷ ns) blocks = without_all ns (without n blocks)

-- the blocks of these numbers, as far as they are held
abbrev pub taken_out : List ℕ → Blocks → List Block
taken_out [] blocks = []
taken_out (n ∷ ns) blocks = option_to_list (blocks n) ++ taken_out ns (without n blocks)

-- the blocks that batches up to this one gave up
abbrev pub released : ℕ → List Mark → List ℕ
released k [] = []
released k (m ∷ ms) = cond (nat_le m.chunk k) (m.block ∷ released k ms) []

-- the marks of later batches
abbrev pub still_marked : ℕ → List Mark → List Mark
still_marked k [] = []
still_marked k (m ∷ ms) = cond (nat_le m.chunk k) (still_marked k ms) (m ∷ ms)

-- a block of a class goes home, retired by this batch. Others are dropped
abbrev pub home : ℕ → Option Block → List Block
home k None = []
home k (Some b) = cond (nat_lt b.number 512) (record b { retired = k } ∷ []) []

abbrev pub homes : ℕ → List ℕ → Blocks → List Block
homes k [] blocks = []
homes k (n ∷ ns) blocks = home k (blocks n) ++ homes k ns (without n blocks)

-- Copies ---------------------------------------------------------------------------------------------------------------------

-- a batch names the block as a staging buffer's, or the host writes to it for the batch
abbrev pub names_block : ℕ → Accepted → Bool
names_block block a = list_any (λ (r : Range). r.block == block) a.staging.items || list_any (λ h. h.range.block == block) a.writes.items

-- a later batch uses the block
abbrev pub is_used : ℕ → List Accepted → List Listed → Bool
is_used block batches steps = list_any (names_block block) batches || list_any (touches_block block) steps

abbrev pub copy_of : Range → Option Block → Option Snap
copy_of r None = None
copy_of r (Some b) = cond (nat_le r.from r.to && nat_le r.to (length (bytes_of b))) (Some (record { block = r.block; bytes = slice_range (bytes_of b) r.from r.to })) None

-- the copy of a staging range, where no later batch uses the block
abbrev pub snap_of : Blocks → List Accepted → List Listed → Range → Option Snap
snap_of blocks batches steps r = cond (is_used r.block batches steps) None (copy_of r (blocks r.block))

-- Values ---------------------------------------------------------------------------------------------------------------------

-- the ended queries whose Ends are calls up to this one
abbrev pub ended_by : ℕ → List Ended → List Ended
ended_by upto [] = []
ended_by upto (e ∷ es) = cond (nat_le e.call upto) (e ∷ ended_by upto es) []

abbrev pub ended_after : ℕ → List Ended → List Ended
ended_after upto [] = []
ended_after upto (e ∷ es) = cond (nat_le e.call upto) (ended_after upto es) (e ∷ es)

-- what an ended query counted
abbrev pub value_in : List (ℕ × ℕ) → Ended → QueryValue
value_in counts e = record { call = e.call; query = e.query; value = invocations_between e.from e.to counts }

-- A completion ---------------------------------------------------------------------------------------------------------------

pub record Completes (old : State) (done : Completion) (new : State) : Type 0 where
  pub batch : Accepted
  pub batches : old.batches ≡ batch ∷ new.batches
  pub all_ran : list_any is_left (take batch.count old.steps) ≡ false
  pub number : done.number ≡ batch.number
  pub upto : done.upto ≡ batch.upto
  pub placed : done.placed.items ≡ batch.placed.items
  pub ops : done.ops.items ≡ ops_of (take batch.count old.steps)
  pub steps : new.steps ≡ drop batch.count old.steps
  pub snaps : done.snaps.items ≡ filter_map (snap_of (block_of old.held) new.batches new.steps) batch.staging.items
  pub pages : done.pages.items ≡ taken_out batch.pages.items (block_of old.held)
  pub homes : done.homes.items ≡ homes batch.number (released batch.number old.marks) (without_all batch.pages.items (block_of old.held))
  pub held : block_of new.held ≡ without_all (released batch.number old.marks) (without_all batch.pages.items (block_of old.held))
  pub marks : new.marks ≡ still_marked batch.number old.marks
  pub values : done.values.items ≡ map (value_in old.asked.counts) (ended_by batch.upto old.asked.ended)
  pub asked : new.asked ≡ record old.asked { ended = ended_after batch.upto old.asked.ended }
  pub newest : new.newest ≡ old.newest
  pub order : new.order ≡ old.order
  pub modules : new.modules ≡ old.modules
