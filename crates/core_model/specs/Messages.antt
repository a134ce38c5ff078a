-- Which messages stand for the chunks of a state: a message's number and its last call are its chunk's, and its parts
-- are what the state has of it.
use Rattle.std.specs.Prelude.{◌≡◌, ℕ, suc, ◌-◌, cond, List, [], ◌∷◌, ◌++◌, length, map, Some, slice_get}
use Rattle.std.specs.List.{AllByRecursion}
use Rattle.dx_types.specs.declared.range.Range.{Range}
use Rattle.dx_types.specs.declared.limits.TheConstants.{CLASSES}
use Rattle.dx_types.specs.Classes.{class_length}
use Rattle.buffer_blocks.specs.declared.block.Block.{Block}
use Rattle.buffer_blocks.specs.Block.{bytes_of}
use Rattle.vk_types.specs.declared.message.Snap.{Snap}
use Rattle.vk_types.specs.declared.message.Batch.{Batch}
use Rattle.vk_types.specs.declared.message.Completion.{Completion}
use Rattle.vk_types.specs.declared.message.Post.{Post}
use Rattle.vk_types.specs.declared.op.VkOp.{VkOp}
use Rattle.base_lemmas.specs.Lists.{numbers_from}
use Rattle.core_model.specs.Script.{Create, Discard, No_overwrite, Stage, Command, Destroy, Create_shader, Mark_query}
use Rattle.core_model.specs.Script.{Set_state, Turn, Refused, Passed, Flushed, Asked, Item, Script}
use Rattle.core_model.specs.Chunking.{last_call}
use Rattle.core_model.specs.CoreState.{Page, Segment, Message, marks, taken_blocks, has_class}
use Rattle.core_model.specs.Batching.{made}
use Rattle.core_model.specs.Batches.{batches}
use Rattle.core_model.specs.Succession.{Head, batch_head, completion_head, post_head, writes_as, only_class, class_of}
use Rattle.core_model.specs.Succession.{Log, ChunkView}

-- what the message of a chunk has that stands behind these
abbrev pub head_behind : List Segment → Segment → Head
head_behind front s = record { number = suc (length front); upto = last_call s.turns; placed = s.placed }

abbrev pub heads_behind : List Segment → List Segment → List Head
heads_behind front [] = []
heads_behind front (s ∷ ss) = head_behind front s ∷ heads_behind (front ++ s ∷ []) ss

-- the first messages, of these chunks
abbrev pub heads : List Segment → List Head
heads ss = heads_behind [] ss

-- Blocks and pages --------------------------------------------------------------------------------------------------

abbrev pub page_of : Block → Page
page_of b = record { block = b.number; len = length (bytes_of b) }

-- a block of a class has its class's length, by its number, and another that of the buffer that took it
abbrev pub block_length : Script → ℕ → ℕ → ℕ
block_length script buffer block = cond (has_class block) (class_length (class_of CLASSES block)) (script.size buffer)

-- the buffers that take blocks, in order
abbrev pub takers_of : Turn → List ℕ
takers_of (Refused call) = []
takers_of (Passed call) = []
takers_of (Flushed call) = []
takers_of (Asked call ask used may_pend) = []
takers_of (Item call item ends (Create buffer bytes) bound) = buffer ∷ []
takers_of (Item call item ends (Discard buffer from bytes) bound) = buffer ∷ []
takers_of (Item call item ends (No_overwrite buffer from bytes) bound) = []
takers_of (Item call item ends (Stage bytes target skip) bound) = []
takers_of (Item call item ends (Command w skip) bound) = []
takers_of (Item call item ends (Destroy buffer) bound) = []
takers_of (Item call item ends Create_shader bound) = []
takers_of (Item call item ends (Mark_query query begins) bound) = []
takers_of (Item call item ends Set_state bound) = []

abbrev pub takers : List Turn → List ℕ
takers [] = []
takers (t ∷ ts) = takers_of t ++ takers ts

abbrev pub AreAsLong : Script → List ℕ → List Block → Type 0
AreAsLong script [] bs = bs ≡ []
AreAsLong script (r ∷ rs) bs =
    (b : Block) × (others : List Block) × (bs ≡ b ∷ others) × (length (bytes_of b) ≡ block_length script r b.number)
    × AreAsLong script rs others

-- the blocks that the chunk's items took, in order
pub record AreTaken (script : Script) (s : Segment) (blocks : List Block) : Type 0 where
  pub numbers : map (λ b. b.number) blocks ≡ taken_blocks s
  pub lengths : AreAsLong script (takers s.turns) blocks

-- Messages ----------------------------------------------------------------------------------------------------------

pub record IsChunk (script : Script) (front : List Segment) (s : Segment) (m : ChunkView) : Type 0 where
  pub head : m.head ≡ head_behind front s
  pub pages : map page_of m.pages ≡ s.pages
  pub blocks : AreTaken script s m.blocks

-- the batch's operations are those that stand in the listing; what the host writes are the parts that the items have
-- in the log
pub record IsBatch (log : Log) (listing : List VkOp) (front : List Segment) (s : Segment) (m : Batch) : Type 0 where
  pub head : batch_head m ≡ head_behind front s
  pub pages : map page_of m.pages.items ≡ s.pages
  pub blocks : AreTaken log.script s m.blocks.items
  pub ops : slice_get (batches listing) (length front) ≡ Some m.ops.items
  pub marks : m.marks.items ≡ marks s
  pub staging : m.staging.items ≡ s.staging
  pub queries : m.queries.items ≡ s.queries
  pub writes : map (writes_as log.part) m.writes.items
      ≡ (made log.script (map (λ s. s.placed) (front ++ s ∷ []))).writes

-- a copy is the message's of a block of which the chunk names a staging range, as far as that goes
abbrev pub IsCopy : Message → Snap → Type 0
IsCopy m s =
    (before : List Range) × (r : Range) × (after : List Range) × (m.segment.staging ≡ before ++ r ∷ after)
    × (r.block ≡ s.block)
    × (bytes : ℕ → ℕ) × (m.snaps s.block ≡ Some bytes) × (s.bytes ≡ map bytes (numbers_from r.from (r.to - r.from)))

-- the blocks of a class that the chunk gave up, retired by it
pub record AreHomes (n : ℕ) (s : Segment) (homes : List Block) : Type 0 where
  pub numbers : map (λ b. b.number) homes ≡ only_class (marks s)
  pub lengths : AllByRecursion (λ b. length (bytes_of b) ≡ class_length (class_of CLASSES b.number)) homes
  pub retired : AllByRecursion (λ b. b.retired ≡ n) homes

pub record IsCompletion (listing : List VkOp) (front : List Segment) (m : Message) (c : Completion) : Type 0 where
  pub head : completion_head c ≡ head_behind front m.segment
  pub pages : map page_of c.pages.items ≡ m.segment.pages
  pub ops : slice_get (batches listing) (length front) ≡ Some c.ops.items
  pub homes : AreHomes (suc (length front)) m.segment c.homes.items
  pub snaps : AllByRecursion (IsCopy m) c.snaps.items
  pub values : c.values.items ≡ m.values

pub record IsPost (listing : List VkOp) (front : List Segment) (m : Message) (p : Post) : Type 0 where
  pub head : post_head p ≡ head_behind front m.segment
  pub pages : map page_of p.pages.items ≡ m.segment.pages
  pub ops : slice_get (batches listing) (length front) ≡ Some p.ops.items
  pub snaps : AllByRecursion (IsCopy m) p.snaps.items
  pub values : p.values.items ≡ m.values
