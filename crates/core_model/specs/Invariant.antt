-- The invariant of the core, at full size.
use Rattle.std.specs.Prelude.{◌≡◌, ℕ, suc, ◌+◌, ◌-◌, ◌<◌, ◌≤◌, Bool, true, false, List, [], ◌∷◌, ◌++◌, map, length}
use Rattle.std.specs.Prelude.{◌⊎◌, Option, Some, None}
use Rattle.std.specs.List.{list_any, AllByRecursion}
use Rattle.vk_types.specs.declared.command.Command as c
use Rattle.vk_types.specs.declared.touch.Touch.{Touch}
use Rattle.base_lemmas.specs.Lists.{Pairwise, IsReordering, Sublist, numbers_from}
use Rattle.vk_types.specs.Memory.{zeros}
use Rattle.vk_types.specs.Hazards.{touches, is_touched, lists_conflict}
use Rattle.vk_types.specs.Effects.{Meaning, act_touches, is_host}
use Rattle.vk_types.specs.Entries.{Entry, EntriesCovered, EntriesKeep, run_entries}
use Rattle.core_model.specs.Script.{Ask, Bytes, Count, Constant, Turn, Refused, Asked, Script, InOrder, at_start}
use Rattle.core_model.specs.Script.{in_order}
use Rattle.core_model.specs.Chunking.{chunks, cut}
use Rattle.core_model.specs.CoreState.{Segment, entries, flat, Message, Owner, Unmade, Home, Returning, Spare, Live}
use Rattle.core_model.specs.CoreState.{Retired, Paged, Dropped, Core, of_messages, of_running, rests, segments, later}
use Rattle.core_model.specs.CoreState.{on_device, listed, taken_count, finished_count, handed_count, open_number}
use Rattle.core_model.specs.CoreState.{Said, Bytes_said, Value_said, Still_said, Refused_said, End_said}
use Rattle.core_model.specs.Readings.{Reading, has_place}
use Rattle.core_model.specs.Adding.{has_block}
use Rattle.core_model.specs.OtherParts.{used_in, needed_in, sum_from}
use Rattle.core_model.specs.Stands.{Stands, touches_block, is_host_write, is_host_read}
use Rattle.core_model.specs.Listed.{IsListed, IsCounted}
use Rattle.core_model.specs.Worlds.{empty, run_world}

-- what a block's owner says of the chunks whose commands touch a byte of the block. t and f are the counts of posts
-- taken and of chunks finished
abbrev pub Allows : ℕ → ℕ → Owner → ℕ → ℕ → Type 0
Allows t f Unmade i chunk = ⊥
Allows t f (Home k) i chunk = chunk ≤ k
Allows t f (Returning k) i chunk = chunk ≤ k
Allows t f Spare i chunk = chunk ≤ t
Allows t f (Live buffer since bound) i chunk = (chunk ≤ since) ⊎ (bound i ≡ true)
Allows t f (Retired k since bound) i chunk = (chunk ≤ k) × ((chunk ≤ since) ⊎ (bound i ≡ true))
Allows t f (Paged k since bound) i chunk = (chunk ≤ k) × ((chunk ≤ since) ⊎ (bound i ≡ true))
Allows t f Dropped i chunk = chunk ≤ f

-- a block came home, or was taken, when this many chunks at most were finished
abbrev pub IsSince : ℕ → Owner → Type 0
IsSince f Unmade = Unit {0}
IsSince f (Home k) = k ≤ f
IsSince f (Returning k) = k ≤ f
IsSince f Spare = Unit {0}
IsSince f (Live buffer since bound) = since ≤ f
IsSince f (Retired k since bound) = since ≤ f
IsSince f (Paged k since bound) = since ≤ f
IsSince f Dropped = Unit {0}

abbrev pub IsLive : ℕ → Owner → Type 0
IsLive r Unmade = ⊥
IsLive r (Home k) = ⊥
IsLive r (Returning k) = ⊥
IsLive r Spare = ⊥
IsLive r (Live buffer since bound) = buffer ≡ r
IsLive r (Retired k since bound) = ⊥
IsLive r (Paged k since bound) = ⊥
IsLive r Dropped = ⊥

-- what is known of an entry of the listing. t, f and h are the counts of chunks taken, finished and handed over, w of
-- acts of the host, and e of barriers; rs are the commands since the last barrier
pub record Known (t f h w e : ℕ) (rs : List c.Command) (own : ℕ → Owner) (x : Entry) : Type 0 where
  pub in_chunk : x.chunk ≤ suc h
  pub fenced : is_host x.act ≡ true → x.fence ≤ f
  pub counted : is_host x.act ≡ true → x.number < w
  pub below : is_host x.act ≡ false → x.epoch ≤ e
  pub recent : is_host x.act ≡ false → x.epoch ≡ e → (ts : List Touch) → lists_conflict (act_touches x.act) ts ≡ true
      → list_any (λ y. lists_conflict (touches y) ts) rs ≡ true
  pub owned : is_host x.act ≡ false → (block i : ℕ) → is_touched (act_touches x.act) block i ≡ true
      → Allows t f (own block) i x.chunk

abbrev pub KnownIn : Core → Entry → Type 0
KnownIn core x = Known (taken_count core) (finished_count core) (handed_count core) core.host_acts core.epoch
    core.recent core.owner x

-- the entries of each segment have its number, one more than k for the first
abbrev pub Numbered : ℕ → List Segment → Type 0
Numbered k [] = Unit {0}
Numbered k (s ∷ ss) = AllByRecursion (λ x. x.chunk ≡ suc k) (entries s) × Numbered (suc k) ss

-- host reads, then host writes, then commands
abbrev pub IsShaped : Segment → Type 0
IsShaped s = AllByRecursion (λ x. is_host_read x.act ≡ true) s.reads
    × AllByRecursion (λ x. is_host_write x.act ≡ true) s.writes
    × AllByRecursion (λ x. is_host x.act ≡ false) s.commands

-- each block that a segment's commands touch is bound there, and each that it names as a staging buffer's
abbrev pub BindsUses : Segment → Type 0
BindsUses s =
    AllByRecursion (λ x. is_host x.act ≡ false → (b i : ℕ) → is_touched (act_touches x.act) b i ≡ true
    → has_block b s.bound ≡ true) s.commands
    × ((b : ℕ) → has_block b s.staging ≡ true → has_block b s.bound ≡ true)

-- an act touches ranges that have a byte
abbrev pub IsFilled : Entry → Type 0
IsFilled x = AllByRecursion (λ t. t.range.from < t.range.to) (act_touches x.act)

-- a copy of a block is the block as the listing up to here leaves it. It is there where the chunk names the staging
-- buffer's block and no chunk after it names or touches it
pub record SnapRight (meaning : Meaning) (upto : List Entry) (m : Message) (after : List Segment) : Type 0 where
  pub right : (b : ℕ) (bytes : ℕ → ℕ) → m.snaps b ≡ Some bytes → (i : ℕ) → bytes i ≡ run_entries meaning upto zeros b i
  pub there : (b : ℕ) → has_block b m.segment.staging ≡ true → needed_in after b ≡ false → (bytes : ℕ → ℕ)
      × (m.snaps b ≡ Some bytes)
  pub none : (b : ℕ) → has_block b m.segment.staging ≡ false → m.snaps b ≡ None

abbrev pub SnapsRight : Meaning → List Entry → List Message → List Segment → Type 0
SnapsRight meaning earlier [] after = Unit {0}
SnapsRight meaning earlier (m ∷ ms) after =
    SnapRight meaning (earlier ++ entries m.segment) m (of_messages ms ++ after)
    × SnapsRight meaning (earlier ++ entries m.segment) ms after

-- the newest copy of a live staging buffer's block is as the listing leaves it, where neither a chunk whose post was
-- not taken nor the open one uses it
abbrev pub CopiesRight : Meaning → Script → List Entry → List Segment → (ℕ → ℕ → ℕ) → (ℕ → Option ℕ) → Type 0
CopiesRight meaning script es after copies blocks =
    (r b : ℕ) → script.is_staging r ≡ true → blocks r ≡ Some b → used_in after b ≡ false → (i : ℕ)
    → i < script.size r → copies b i ≡ run_entries meaning es zeros b i

-- a segment names the whole of each live staging buffer that it binds
abbrev pub NamesStaging : Script → (ℕ → Option ℕ) → Segment → Type 0
NamesStaging script blocks s = (r b : ℕ) → script.is_staging r ≡ true → blocks r ≡ Some b
    → has_block b s.bound ≡ true → has_block b s.staging ≡ true

-- the host writes to no staging block that an earlier segment names
abbrev pub WritesElsewhere : List Segment → Type 0
WritesElsewhere ss = Pairwise (λ s t. (b : ℕ) → has_block b s.staging ≡ true
    → AllByRecursion (λ x. touches_block x.act b ≡ false) t.writes) ss

-- the commands of these segments
abbrev pub commands_of : List Segment → List Entry
commands_of [] = []
commands_of (s ∷ ss) = s.commands ++ commands_of ss

abbrev pub turns_of : List Segment → List (List Turn)
turns_of ss = map (λ s. s.turns) ss

-- the chunks that were handed over
abbrev pub handed : Core → List Segment
handed core =
    core.taken ++
    (of_messages core.posts ++ (of_messages core.completions
    ++ (of_running core.accepted ++ (core.submissions ++ (core.batches ++ core.chunks)))))

-- the queues and the device have at most four
abbrev pub IsSized : Reading → Core → Type 0
IsSized reading core = has_place reading 4 ≡ false
    → (length core.posts ≤ 4) × (length core.completions ≤ 4) × (length core.accepted ≤ 4)
    × (length core.submissions ≤ 4) × (length core.batches ≤ 4) × (length core.chunks ≤ 4)

-- in threads, where queues have no places to count, at most 32 chunks are on their way
abbrev pub IsBounded : Reading → Core → Type 0
IsBounded reading core = has_place reading 4 ≡ true → handed_count core ≤ taken_count core + 32

-- the acts that stand in the listing: all but the open chunk's commands
abbrev pub listed_acts : Core → List Entry
listed_acts core = flat (core.taken ++ later core) ++ (core.open_chunk.reads ++ core.open_chunk.writes)

-- what is known of a state and says nothing of the calls' meaning
pub record Sound (meaning : Meaning) (reading : Reading) (script : Script) (core : Core) : Type 0 where
  -- the position
  pub position : core.past ++ core.future ≡ script.turns
  -- the chunks are the log's: those that were handed over, and what is cut of the rest
  pub cut : chunks script ≡ turns_of (handed core) ++ cut script core.open_chunk.turns core.future
  pub sizes : IsSized reading core
  pub bounded : IsBounded reading core
  pub grows : IsListed core.is_staging core.listing core.open_chunk.ops core.contents core.recent
      core.open_chunk.commands (open_number core) (listed_acts core)
  pub counted : IsCounted core.listing core.open_chunk.ops core.fence core.host_acts core.epoch
  pub fence : core.fence ≤ finished_count core
  pub covered : EntriesCovered (listed core)
  pub known : AllByRecursion (KnownIn core) (listed core)
  pub since : (b : ℕ) → IsSince (finished_count core) (core.owner b)
  pub numbered : Numbered 0 (segments core)
  pub shaped : AllByRecursion IsShaped (segments core)
  pub binds : AllByRecursion BindsUses (segments core)
  pub filled : AllByRecursion IsFilled (listed core)
  pub within : AllByRecursion (λ r. Sublist r.rest r.segment.commands) core.accepted
  -- the commands that are not run, run in the listing's order, complete what the device holds
  pub device : run_world meaning (rests core.accepted) (record { memory = core.memory; counts = core.counts })
      ≡ run_world meaning (flat (on_device core)) empty
  -- the commands that were run, and those that are not behind them, are those that the device accepted, each once,
  -- and keep what is ordered
  pub whole : IsReordering (commands_of (on_device core)) (core.ran ++ rests core.accepted)
  pub order : EntriesKeep (core.ran ++ rests core.accepted)
  pub snaps : SnapsRight meaning (flat core.taken) (core.posts ++ core.completions) (of_running core.accepted)
  pub copies : CopiesRight meaning script (listed core) (later core ++ core.open_chunk ∷ []) core.copies core.blocks
  pub names : AllByRecursion (NamesStaging script core.blocks) (segments core)
  pub elsewhere : WritesElsewhere (segments core)

-- the invocations so far are those of the listing's commands, which have the numbers up to this one
pub record Totals (counts : ℕ → ℕ) (commands : ℕ) (state : InOrder) : Type 0 where
  pub total : state.total ≡ sum_from counts 1 commands
  pub above : (n : ℕ) → commands < n → counts n ≡ 0

-- the call is asked at this place of the script
pub record IsAsked (script : Script) (call : ℕ) (ask : Ask) (used : Option ℕ) : Type 0 where
  pub front : List Turn
  pub may_pend : Bool
  pub back : List Turn
  pub here : script.turns ≡ front ++ Asked call ask used may_pend ∷ back

-- what an ask gives in order
abbrev pub answered : Ask → InOrder → Said → Type 0
answered (Bytes source) s (Bytes_said call bytes) = bytes ≡ map (λ i. s.bytes source.block i)
    (numbers_from source.from (source.to - source.from))
answered (Count query) s (Value_said call value) = value ≡ s.count query
answered (Constant v) s (Value_said call value) = value ≡ v
answered ask s said = ⊥

-- an answer is what the calls before it give; a call that is answered as pending has a use that is not finished
abbrev pub IsRight : Meaning → Script → Said → Type 0
IsRight meaning script (Bytes_said call bytes) =
    (ask : Ask) × (used : Option ℕ) × (at : IsAsked script call ask used)
    × answered ask (in_order meaning script at.front at_start) (Bytes_said call bytes)
IsRight meaning script (Value_said call value) =
    (ask : Ask) × (used : Option ℕ) × (at : IsAsked script call ask used)
    × answered ask (in_order meaning script at.front at_start) (Value_said call value)
IsRight meaning script (Still_said call used finished) = (ask : Ask) × IsAsked script call ask (Some used)
    × (finished < used)
IsRight meaning script (Refused_said call) = (front : List Turn) × (back : List Turn)
    × (script.turns ≡ front ++ Refused call ∷ back)
IsRight meaning script End_said = Unit {0}

pub record Good (meaning : Meaning) (reading : Reading) (script : Script) (core : Core) : Type 0 where
  pub sound : Sound meaning reading script core
  pub stands : Stands script (run_entries meaning (listed core) zeros) core.blocks
      (in_order meaning script core.past at_start)
  pub live : (r b : ℕ) → core.blocks r ≡ Some b → IsLive r (core.owner b)
  pub totals : Totals (run_world meaning (listed core) empty).counts core.commands
      (in_order meaning script core.past at_start)
  pub replies : AllByRecursion (IsRight meaning script) core.replies
