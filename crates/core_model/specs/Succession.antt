-- When a message may come after those before it: chunks, batches, submissions, completions and posts.
use Rattle.std.specs.Prelude.{◌≡◌, ℕ, zero, suc, ◌+◌, ◌-◌, ◌*◌, ◌<◌, ◌≤◌, Bool, true, false, cond, ◌&&◌, ◌==◌, nat_lt}
use Rattle.std.specs.Prelude.{nat_le, List, [], ◌∷◌, ◌++◌, length, map, Option, Some, None, ◌⊎◌}
use Rattle.std.specs.List.{list_any, AllByRecursion}
use Rattle.dx_types.specs.declared.range.Range.{Range}
use Rattle.dx_types.specs.declared.range.Span.{Span}
use Rattle.dx_types.specs.declared.limits.TheConstants.{CLASSES, CLASS_BLOCKS}
use Rattle.dx_types.specs.Classes.{class_length}
use Rattle.buffer_blocks.specs.declared.block.Block.{Block}
use Rattle.buffer_blocks.specs.Block.{bytes_of}
use Rattle.vk_types.specs.declared.message.Placed.{Placed}
use Rattle.vk_types.specs.declared.message.HostPart.{HostPart}
use Rattle.vk_types.specs.declared.message.Snap.{Snap}
use Rattle.vk_types.specs.declared.message.QueryValue.{QueryValue}
use Rattle.vk_types.specs.declared.message.Batch.{Batch}
use Rattle.vk_types.specs.declared.message.Submission.{Submission}
use Rattle.vk_types.specs.declared.message.Completion.{Completion}
use Rattle.vk_types.specs.declared.message.Post.{Post}
use Rattle.base_lemmas.specs.Lists.{Pairwise, numbers_from}
use Rattle.vk_types.specs.Memory.{meets}
use Rattle.vk_types.specs.Effects.{Meaning}
use Rattle.core_model.specs.Script.{Play, Create, Discard, No_overwrite, Stage, Command, Destroy, Create_shader}
use Rattle.core_model.specs.Script.{Mark_query, Set_state, Turn, Refused, Passed, Flushed, Asked, Item, Script}
use Rattle.core_model.specs.Script.{InOrder, at_start, turn_in_order, updated}
use Rattle.core_model.specs.Chunking.{ItemNo, items, chunks, chunk_turns, upto, joined, after_chunk}
use Rattle.core_model.specs.Renaming.{BlockMap}
use Rattle.core_model.specs.CoreState.{has_class, somes}
use Rattle.core_model.specs.Owners.{is_block}
use Rattle.core_model.specs.Adding.{length_of}
use Rattle.core_model.specs.OtherParts.{is_among}
use Rattle.core_model.specs.Batching.{Written, Made, made, batch_ops}

-- what every message has
pub record Head : Type 0 where
  pub number : ℕ
  pub upto : ℕ
  pub placed : List Placed

abbrev pub batch_head : Batch → Head
batch_head m = record { number = m.number; upto = m.upto; placed = m.placed.items }

abbrev pub completion_head : Completion → Head
completion_head m = record { number = m.number; upto = m.upto; placed = m.placed.items }

abbrev pub post_head : Post → Head
post_head m = record { number = m.number; upto = m.upto; placed = m.placed.items }

-- Numbers and items -------------------------------------------------------------------------------------------------

abbrev pub item_of : Placed → ItemNo
item_of p = record { call = p.call; item = p.item }

-- the message is number n, the log has a chunk n, and the message has one place for each item of it
pub record IsOfChunk (script : Script) (n : ℕ) (m : Head) : Type 0 where
  pub there : n ≤ length (chunks script)
  pub number : m.number ≡ n
  pub upto : m.upto ≡ upto script n
  pub items : map item_of m.placed ≡ items (chunk_turns script n)

-- Blocks ------------------------------------------------------------------------------------------------------------

-- the block is of the buffer's class, or of none
abbrev pub IsOfClass : Option ℕ → ℕ → Type 0
IsOfClass None b = has_class b ≡ false
IsOfClass (Some class) b = (class * CLASS_BLOCKS ≤ b) × (b < class * CLASS_BLOCKS + CLASS_BLOCKS) × (has_class b ≡ true)

-- the range of staged bytes has their length. No bytes have no range
abbrev pub IsStagedRange : List ℕ → Option Range → Type 0
IsStagedRange [] staged = staged ≡ None
IsStagedRange (b ∷ bs) staged = (r : Range) × (staged ≡ Some r) × (r.to ≡ r.from + length (b ∷ bs))

-- the item takes no block, retires none and stages nothing
abbrev pub PlacesNothing : Placed → Type 0
PlacesNothing p = (p.block ≡ None) × (p.mark ≡ None) × (p.staged ≡ None)

-- a play with its place: the block that it takes is the buffer's from now on, the block that it marks was the buffer's
abbrev pub PlacesPlay : Script → Play → Placed → BlockMap → BlockMap → Type 0
PlacesPlay script (Create buffer bytes) p old new =
    (b : ℕ) × (p.block ≡ Some b) × (p.mark ≡ None) × (p.staged ≡ None) × IsOfClass (script.class buffer) b
    × (new ≡ updated buffer (Some b) old)
PlacesPlay script (Discard buffer from bytes) p old new =
    (b : ℕ) × (p.block ≡ Some b) × (p.mark ≡ old buffer) × (p.staged ≡ None) × IsOfClass (script.class buffer) b
    × (new ≡ updated buffer (Some b) old)
PlacesPlay script (Destroy buffer) p old new = (p.block ≡ None) × (p.mark ≡ old buffer) × (p.staged ≡ None)
    × (new ≡ updated buffer None old)
PlacesPlay script (No_overwrite buffer from bytes) p old new = PlacesNothing p × (new ≡ old)
PlacesPlay script (Stage bytes target skip) p old new = (p.block ≡ None) × (p.mark ≡ None)
    × IsStagedRange bytes p.staged × (new ≡ old)
PlacesPlay script (Command w skip) p old new = PlacesNothing p × (new ≡ old)
PlacesPlay script Create_shader p old new = PlacesNothing p × (new ≡ old)
PlacesPlay script (Mark_query query begins) p old new = PlacesNothing p × (new ≡ old)
PlacesPlay script Set_state p old new = PlacesNothing p × (new ≡ old)

-- the places give each buffer its block after each item
abbrev pub GivesBlocks : Script → List Turn → List Placed → BlockMap → Type 0
GivesBlocks script [] ps blocks = ps ≡ []
GivesBlocks script (Refused call ∷ ts) ps blocks = GivesBlocks script ts ps blocks
GivesBlocks script (Passed call ∷ ts) ps blocks = GivesBlocks script ts ps blocks
GivesBlocks script (Flushed call ∷ ts) ps blocks = GivesBlocks script ts ps blocks
GivesBlocks script (Asked call ask used may_pend ∷ ts) ps blocks = GivesBlocks script ts ps blocks
GivesBlocks script (Item call item ends play bound ∷ ts) ps blocks =
    (p : Placed) × (others : List Placed) × (ps ≡ p ∷ others) × (after : BlockMap)
    × PlacesPlay script play p blocks after × GivesBlocks script ts others after

-- the turns of chunks 1 to n
abbrev pub turns_upto : Script → ℕ → List Turn
turns_upto script n = joined (map (chunk_turns script) (numbers_from 1 n))

-- some item among these took the block
abbrev pub takes : ℕ → List Placed → Bool
takes b ps = list_any (λ p. is_block p.block b) ps

-- the places of several messages
abbrev pub all_places : List (List Placed) → List Placed
all_places [] = []
all_places (ps ∷ pss) = ps ++ all_places pss

-- an item staged bytes in the block
abbrev pub is_staged_in : ℕ → Option Range → Bool
is_staged_in b None = false
is_staged_in b (Some r) = r.block == b

abbrev pub stages_in : ℕ → List Placed → Bool
stages_in b ps = list_any (λ p. is_staged_in b p.staged) ps

-- a block that an item takes was never placed, by an item that took it or staged bytes in it, or an earlier message
-- marked it and no item took it since
abbrev pub MayTake : List (List Placed) → List Placed → ℕ → Type 0
MayTake earlier here b =
    ((takes b (all_places earlier ++ here) ≡ false) × (stages_in b (all_places earlier ++ here) ≡ false))
    ⊎ ((front : List Placed) × (q : Placed) × (back : List Placed) × (all_places earlier ≡ front ++ q ∷ back)
    × (q.mark ≡ Some b) × (takes b (back ++ here) ≡ false))

abbrev pub TakesLawfully : List (List Placed) → List Placed → Type 0
TakesLawfully earlier here =
    (front : List Placed) (p : Placed) (back : List Placed) (b : ℕ) → here ≡ front ++ p ∷ back → p.block ≡ Some b
    → MayTake earlier front b

-- Pages -------------------------------------------------------------------------------------------------------------

abbrev pub staged_range_of : Option Range → List Range
staged_range_of None = []
staged_range_of (Some r) = r ∷ []

abbrev pub staged_ranges : List Placed → List Range
staged_ranges [] = []
staged_ranges (p ∷ ps) = staged_range_of p.staged ++ staged_ranges ps

-- the staged ranges of a message share no byte, and lie in no block that an item took
pub record StagesApart (earlier : List (List Placed)) (here : List Placed) : Type 0 where
  pub apart : Pairwise (λ r s. meets r s ≡ false) (staged_ranges here)
  pub outside : AllByRecursion (λ r. takes r.block (all_places earlier ++ here) ≡ false) (staged_ranges here)

-- each number once, in the order in which it comes first
abbrev pub once : List ℕ → List ℕ → List ℕ
once seen [] = []
once seen (n ∷ ns) = cond (is_among n seen) (once seen ns) (n ∷ once (n ∷ seen) ns)

-- the pages are those that the staged ranges name, each long enough
pub record HasPages (pages : List Block) (here : List Placed) : Type 0 where
  pub numbers : map (λ p. p.number) pages ≡ once [] (map (λ r. r.block) (staged_ranges here))
  pub long : AllByRecursion (λ p. AllByRecursion (λ r. p.number ≡ r.block
      → r.to ≤ length (bytes_of p)) (staged_ranges here)) pages

-- The blocks of a chunk, batch or submission ------------------------------------------------------------------------

-- the lengths of the blocks that the items take
abbrev pub lengths_of : Script → Turn → List ℕ
lengths_of script (Refused call) = []
lengths_of script (Passed call) = []
lengths_of script (Flushed call) = []
lengths_of script (Asked call ask used may_pend) = []
lengths_of script (Item call item ends (Create buffer bytes) bound) = length_of script buffer ∷ []
lengths_of script (Item call item ends (Discard buffer from bytes) bound) = length_of script buffer ∷ []
lengths_of script (Item call item ends (No_overwrite buffer from bytes) bound) = []
lengths_of script (Item call item ends (Stage bytes target skip) bound) = []
lengths_of script (Item call item ends (Command w skip) bound) = []
lengths_of script (Item call item ends (Destroy buffer) bound) = []
lengths_of script (Item call item ends Create_shader bound) = []
lengths_of script (Item call item ends (Mark_query query begins) bound) = []
lengths_of script (Item call item ends Set_state bound) = []

abbrev pub taken_lengths : Script → List Turn → List ℕ
taken_lengths script [] = []
taken_lengths script (t ∷ ts) = lengths_of script t ++ taken_lengths script ts

pub record HasBlocks (script : Script) (n : ℕ) (blocks : List Block) (here : List Placed) : Type 0 where
  pub numbers : map (λ b. b.number) blocks ≡ somes (map (λ p. p.block) here)
  pub lengths : map (λ b. length (bytes_of b)) blocks ≡ taken_lengths script (chunk_turns script n)

-- What a batch does -------------------------------------------------------------------------------------------------

-- the parts of the log that these spans name have these bytes
abbrev pub writes_as : (Span → List ℕ) → HostPart → Written
writes_as part h = record { range = h.range; bytes = part h.span }

-- writes, operations, marks, staging ranges and query marks are those of the chunk on its blocks
pub record DoesChunk (script : Script) (part : Span → List ℕ) (places : List (List Placed)) (m : Batch) : Type 0 where
  pub writes : map (writes_as part) m.writes.items ≡ (made script places).writes
  pub ops : m.ops.items ≡ batch_ops (made script places) m.number
  pub marks : m.marks.items ≡ somes (map (λ p. p.mark) m.placed.items)
  pub staging : m.staging.items ≡ (made script places).staging
  pub queries : m.queries.items ≡ (made script places).queries

-- What a completion or a post has -----------------------------------------------------------------------------------

abbrev pub only_class : List ℕ → List ℕ
only_class [] = []
only_class (b ∷ bs) = cond (has_class b) (b ∷ only_class bs) (only_class bs)

abbrev pub class_of : ℕ → ℕ → ℕ
class_of zero b = 0
class_of (suc fuel) b = cond (nat_lt b CLASS_BLOCKS) 0 (suc (class_of fuel (b - CLASS_BLOCKS)))

-- a completion's homes are the blocks of a class that its marks name, retired by it
pub record HasHomes (n : ℕ) (homes : List Block) (here : List Placed) : Type 0 where
  pub numbers : map (λ b. b.number) homes ≡ only_class (somes (map (λ p. p.mark) here))
  pub lengths : AllByRecursion (λ b. length (bytes_of b) ≡ class_length (class_of CLASSES b.number)) homes
  pub retired : AllByRecursion (λ b. b.retired ≡ n) homes

-- a copy is of a staging buffer's block, with the bytes that the buffer has in order after chunk n
abbrev pub IsSnap : Meaning → Script → ℕ → BlockMap → Snap → Type 0
IsSnap meaning script n blocks s =
    (buffer : ℕ) × (blocks buffer ≡ Some s.block) × (script.is_staging buffer ≡ true)
    × (s.bytes ≡ map ((after_chunk meaning script n).bytes buffer) (numbers_from 0 (script.size buffer)))

-- the counts that Ends leave whose calls lie above one number and up to another, one after another
abbrev pub end_of : ℕ → ℕ → Turn → InOrder → List QueryValue
end_of low high (Refused call) s = []
end_of low high (Passed call) s = []
end_of low high (Flushed call) s = []
end_of low high (Asked call ask used may_pend) s = []
end_of low high (Item call item ends (Create buffer bytes) bound) s = []
end_of low high (Item call item ends (Discard buffer from bytes) bound) s = []
end_of low high (Item call item ends (No_overwrite buffer from bytes) bound) s = []
end_of low high (Item call item ends (Stage bytes target skip) bound) s = []
end_of low high (Item call item ends (Command w skip) bound) s = []
end_of low high (Item call item ends (Destroy buffer) bound) s = []
end_of low high (Item call item ends Create_shader bound) s = []
end_of low high (Item call item ends (Mark_query query true) bound) s = []
end_of low high (Item call item ends (Mark_query query false) bound) s =
    cond (nat_lt low call && nat_le call high) (record { call = call; query = query; value = s.count query } ∷ []) []
end_of low high (Item call item ends Set_state bound) s = []

abbrev pub end_values : Meaning → Script → ℕ → ℕ → List Turn → InOrder → List QueryValue
end_values meaning script low high [] s = []
end_values meaning script low high (t ∷ ts) s =
    end_of low high t (turn_in_order meaning script t s) ++ end_values meaning script low high ts
    (turn_in_order meaning script t s)

abbrev pub values_after : Meaning → Script → ℕ → List QueryValue
values_after meaning script zero = []
values_after meaning script (suc n) = end_values meaning script (upto script n) (upto script (suc n))
    (turns_upto script (suc n)) at_start

-- The succession ----------------------------------------------------------------------------------------------------

-- what the log gives: the script, what its shaders mean, and its bytes
pub record Log : Type 0 where
  pub script : Script
  pub meaning : Meaning
  pub part : Span → List ℕ

-- the points that speak of every kind
pub record FollowsHead (log : Log) (before : List Head) (m : Head) : Type 0 where
  pub of_chunk : IsOfChunk log.script (suc (length before)) m
  pub gives_blocks : GivesBlocks log.script (turns_upto log.script (suc (length before)))
      (all_places (map (λ h. h.placed) before) ++ m.placed) (λ r. None)
  pub takes_lawfully : TakesLawfully (map (λ h. h.placed) before) m.placed
  pub stages_apart : StagesApart (map (λ h. h.placed) before) m.placed

-- a chunk as its crate's model has it
pub record ChunkView : Type 0 where
  pub head : Head
  pub blocks : List Block
  pub pages : List Block

-- the places of messages, and what is made of them when one more comes behind them
abbrev pub places_in : List Head → List (List Placed)
places_in hs = map (λ h. h.placed) hs

abbrev pub made_by : Log → List Head → Head → Made
made_by log front m = made log.script (places_in front ++ m.placed ∷ [])

-- A message of each kind may stand behind messages with these heads, of whatever kinds those are

pub record ChunkBy (log : Log) (front : List Head) (m : ChunkView) : Type 0 where
  pub head : FollowsHead log front m.head
  pub pages : HasPages m.pages m.head.placed
  pub blocks : HasBlocks log.script (suc (length front)) m.blocks m.head.placed

pub record BatchBy (log : Log) (front : List Head) (m : Batch) : Type 0 where
  pub head : FollowsHead log front (batch_head m)
  pub pages : HasPages m.pages.items m.placed.items
  pub blocks : HasBlocks log.script (suc (length front)) m.blocks.items m.placed.items
  pub does : DoesChunk log.script log.part (places_in front ++ m.placed.items ∷ []) m

abbrev pub SubmissionBy : Log → List Head → Submission → Type 0
SubmissionBy log front m = BatchBy log front m.batch

pub record CompletionBy (log : Log) (front : List Head) (m : Completion) : Type 0 where
  pub head : FollowsHead log front (completion_head m)
  pub pages : HasPages m.pages.items m.placed.items
  pub ops : m.ops.items ≡ batch_ops (made_by log front (completion_head m)) m.number
  pub homes : HasHomes (suc (length front)) m.homes.items m.placed.items
  pub snaps : AllByRecursion (IsSnap log.meaning log.script (suc (length front))
      (made_by log front (completion_head m)).blocks) m.snaps.items
  pub values : m.values.items ≡ values_after log.meaning log.script (suc (length front))

pub record PostBy (log : Log) (front : List Head) (m : Post) : Type 0 where
  pub head : FollowsHead log front (post_head m)
  pub pages : HasPages m.pages.items m.placed.items
  pub ops : m.ops.items ≡ batch_ops (made_by log front (post_head m)) m.number
  pub snaps : AllByRecursion (IsSnap log.meaning log.script (suc (length front))
      (made_by log front (post_head m)).blocks) m.snaps.items
  pub values : m.values.items ≡ values_after log.meaning log.script (suc (length front))

-- A message comes after those of its own kind before it

abbrev pub FollowsChunk : Log → List ChunkView → ChunkView → Type 0
FollowsChunk log before m = ChunkBy log (map (λ h. h.head) before) m

abbrev pub FollowsBatch : Log → List Batch → Batch → Type 0
FollowsBatch log before m = BatchBy log (map batch_head before) m

abbrev pub FollowsSubmission : Log → List Submission → Submission → Type 0
FollowsSubmission log before m = SubmissionBy log (map (λ s. batch_head s.batch) before) m

abbrev pub FollowsCompletion : Log → List Completion → Completion → Type 0
FollowsCompletion log before m = CompletionBy log (map completion_head before) m

abbrev pub FollowsPost : Log → List Post → Post → Type 0
FollowsPost log before m = PostBy log (map post_head before) m
