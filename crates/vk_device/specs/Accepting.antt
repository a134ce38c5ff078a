-- What a device does as it accepts a batch: it takes its blocks and pages, sets the blocks to 0, writes the log's bytes, and keeps
-- its operations and marks.
use Rattle.std.specs.Prelude.{◌≡◌, ℕ, ◌+◌, ◌-◌, ◌≤◌, Bool, not, cond, ◌&&◌, ◌==◌, nat_lt, List, [], ◌∷◌, ◌++◌, length, map, replicate, Option, Some, None, is_some, IsTrue, ◌↔◌, All}
use Rattle.std.specs.List.{AllByRecursion, list_any}
use Rattle.base_lemmas.specs.Lists.{Pairwise}
use Rattle.dx_types.specs.declared.range.Range.{Range}
use Rattle.buffer_blocks.specs.declared.block.Block.{Block}
use Rattle.buffer_blocks.specs.Block.{bytes_of, with_bytes}
use Rattle.call_log.specs.Grammar.{part_of}
use Rattle.lifetime.specs.declared.holds.Mark.{Mark}
use Rattle.query_pool.specs.Asked.{Asked, Marks, begun_at}
use Rattle.vk_types.specs.declared.message.Batch.{Batch}
use Rattle.vk_types.specs.declared.message.HostPart.{HostPart}
use Rattle.vk_types.specs.declared.message.QueryMark.{QueryMark}
use Rattle.vk_types.specs.Listing.{or_empty}
use Rattle.vk_types.specs.Memory.{Memory, number_at, put}
use Rattle.device_memory.specs.Held.{AreAlike, HasPart, Held, block_of, memory_of}
use Rattle.command_queue.specs.Readiness.{fresh}
use Rattle.vk_device.specs.declared.accepted.Accepted.{Accepted}
use Rattle.vk_device.specs.State.{State}

-- Room -----------------------------------------------------------------------------------------------------------------------

-- a block of one of these numbers is held
abbrev pub holds_any : Held → List Block → Bool
holds_any held bs = list_any (λ (b : Block). is_some (block_of held b.number)) bs

-- fewer than four batches are there, and no block that has the number of one of these
abbrev pub can_accept : State → List Block → List Block → Bool
can_accept d blocks pages = nat_lt (length d.batches) 4 && (not (holds_any d.held blocks) && not (holds_any d.held pages))

-- no two blocks have one number
abbrev pub AreApart : List Block → Type 0
AreApart bs = Pairwise (λ (a b : Block). a.number ≡ b.number → ⊥) bs

-- Blocks ---------------------------------------------------------------------------------------------------------------------

abbrev pub Blocks : Type 0
Blocks = ℕ → Option Block

-- the blocks with one more
abbrev pub with_block : Block → Blocks → Blocks
with_block b blocks = λ n. cond (n == b.number) (Some b) (blocks n)

abbrev pub with_blocks : List Block → Blocks → Blocks
with_blocks [] blocks = blocks
with_blocks (b ∷ bs) blocks = with_blocks bs (with_block b blocks)

-- none of these is held, and each number comes once
abbrev pub NoneHeld : List Block → Blocks → Type 0
NoneHeld [] blocks = Unit {0}
NoneHeld (b ∷ bs) blocks = (blocks b.number ≡ None) × NoneHeld bs (with_block b blocks)

-- a block whose bytes are all 0
abbrev pub zeroed : Block → Block
zeroed b = with_bytes b (replicate (length (bytes_of b)) 0)

-- the blocks that are held once a batch brought its own
abbrev pub brought : List Block → List Block → Blocks → Blocks
brought blocks pages before = with_blocks pages (with_blocks (map zeroed blocks) before)

-- Writes ---------------------------------------------------------------------------------------------------------------------

abbrev pub LiesIn : Blocks → Range → Type 0
LiesIn blocks r = HasPart (blocks r.block) r.from r.to

-- the log has the part, as long as its range, which lies in a block that is held
abbrev pub CanWrite : List ℕ → Blocks → HostPart → Type 0
CanWrite log blocks h =
    LiesIn blocks h.range × ((bytes : List ℕ) × (part_of log h.span.start h.span.len ≡ Some bytes) × (length bytes ≡ h.range.to - h.range.from))

-- the parts of the log are written one after another
abbrev pub written : List ℕ → List HostPart → Memory → Memory
written log [] m = m
written log (h ∷ hs) m = written log hs (put h.range (number_at (or_empty (part_of log h.span.start h.span.len))) m)

-- how long a block is, if there is one
abbrev pub length_if : Option Block → Option ℕ
length_if None = None
length_if (Some b) = Some (length (bytes_of b))

-- the batch has the next number, no two of its blocks and pages have one number, and each part that the host writes for it is in
-- the log, and goes to a block that is held then
pub record IsNext (log : List ℕ) (b : Batch) (d : State) : Type 0 where
  pub number : b.number ≡ d.newest + 1
  pub apart : AreApart (b.blocks.items ++ b.pages.items)
  pub writes : AllByRecursion (CanWrite log (brought b.blocks.items b.pages.items (block_of d.held))) b.writes.items

-- Queries --------------------------------------------------------------------------------------------------------------------

-- the marks, one after another
abbrev pub MarksAll : List QueryMark → Asked → Asked → Type 0
MarksAll [] old new = new ≡ old
MarksAll (m ∷ ms) old new = (next : Asked) × Marks m old next × MarksAll ms next new

-- the marks of one query are a Begin and an End in turn, and the calls of Ends never fall
abbrev pub CanMark : List QueryMark → Asked → Type 0
CanMark [] q = Unit {0}
CanMark (m ∷ ms) q =
    (IsTrue m.begins ↔ (begun_at m.query q.begun ≡ None)) × All (λ e. e.call ≤ m.call) q.ended × ((next : Asked) → Marks m q next → CanMark ms next)

-- A batch --------------------------------------------------------------------------------------------------------------------

abbrev pub marks_by : ℕ → List ℕ → List Mark
marks_by k blocks = map (λ (b : ℕ). record { chunk = k; block = b }) blocks

-- what is kept of a batch beside its operations and marks
pub record IsKept (b : Batch) (a : Accepted) : Type 0 where
  pub number : a.number ≡ b.number
  pub upto : a.upto ≡ b.upto
  pub placed : a.placed.items ≡ b.placed.items
  pub pages : a.pages.items ≡ map (λ (p : Block). p.number) b.pages.items
  pub writes : a.writes.items ≡ b.writes.items
  pub staging : a.staging.items ≡ b.staging.items
  pub count : a.count ≡ length b.ops.items

pub record Accepts (log : List ℕ) (b : Batch) (old new : State) : Type 0 where
  -- the blocks that are held before the writes, and what these do
  pub before : Held
  pub blocks : block_of before ≡ brought b.blocks.items b.pages.items (block_of old.held)
  pub memory : memory_of new.held ≡ written log b.writes.items (memory_of before)
  pub alike : AreAlike before new.held
  pub kept : Accepted
  pub is_kept : IsKept b kept
  pub batches : new.batches ≡ old.batches ++ kept ∷ []
  pub steps : new.steps ≡ old.steps ++ map fresh b.ops.items
  pub newest : new.newest ≡ b.number
  pub order : new.order ≡ old.order
  pub marks : new.marks ≡ old.marks ++ marks_by b.number b.marks.items
  pub asked : MarksAll b.queries.items old.asked new.asked
  pub modules : new.modules ≡ old.modules
