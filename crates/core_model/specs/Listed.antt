-- The listing of a run as it grows: what of it decides how it may go on, and the entries of its acts.
use Rattle.std.specs.Prelude.{◌≡◌, ℕ, suc, Bool, true, false, cond, List, [], ◌∷◌, ◌++◌, map}
use Rattle.std.specs.List.{AllByRecursion}
use Rattle.vk_types.specs.declared.command.Command as c
use Rattle.vk_types.specs.declared.op.VkOp.{VkOp}
use Rattle.vk_types.specs.declared.op.VkOp.TheVariants as op
use Rattle.vk_types.specs.Effects.{is_host}
use Rattle.vk_types.specs.Listing.{AreContents}
use Rattle.vk_types.specs.BarrierCauses.{recent_after, barriers_from}
use Rattle.vk_types.specs.Entries.{Entry, Counts, next, after_host, after_barrier, after_submit, after_fence, rest_of}
use Rattle.vk_types.specs.Entries.{entries_from, start_counts}
use Rattle.vk_types.specs.RunListing.{IsNumbered, IsWhole}
use Rattle.core_model.specs.AppActs.{device_commands}
use Rattle.core_model.specs.RunReads.{ReadsStaging}

-- what was listed so far: the commands since the last barrier before a command, those since the last submit, the number
-- of the next submit, and whether a batch was begun
pub record ListState : Type 0 where
  pub recent : List c.Command
  pub batch : List c.Command
  pub chunk : ℕ
  pub inside : Bool

abbrev pub nothing_listed : ListState
nothing_listed = record { recent = []; batch = []; chunk = 1; inside = false }

abbrev pub after_op : ListState → VkOp → ListState
after_op s (op.HostWrite r call) = s
after_op s (op.Pipeline shader) = s
after_op s (op.Barrier barrier) = s
after_op s (op.Command d) = record {
  recent = recent_after s.recent d;
  batch = s.batch ++ d ∷ [];
  chunk =
      s.chunk;
  inside = true;
}
after_op s (op.Submit k) = record { recent = s.recent; batch = []; chunk = suc s.chunk; inside = false }
after_op s (op.Fence k) = s
after_op s (op.HostRead r call) = s

abbrev pub after_ops : ListState → List VkOp → ListState
after_ops s [] = s
after_ops s (o ∷ ops) = after_ops (after_op s o) ops

-- behind what was listed so far these operations have the barriers that their hazards cause, number their submits,
-- and keep each batch whole
pub record GoesOn (staging : ℕ → Bool) (s : ListState) (ops : List VkOp) : Type 0 where
  pub barriers : ops ≡ barriers_from staging s.recent s.batch ops
  pub numbers : IsNumbered s.chunk ops
  pub whole : IsWhole s.inside ops

-- an entry without the counts that order nothing: the barriers before an act of the host, and the fences and acts of
-- the host before a command
abbrev pub plain : Entry → Entry
plain x = record {
  act = x.act;
  chunk = x.chunk;
  epoch = cond (is_host x.act) 0 x.epoch;
  fence = cond (is_host x.act) x.fence 0;
  number = cond (is_host x.act) x.number 0;
}

abbrev pub plain_entries : Counts → List (List ℕ) → List VkOp → List Entry
plain_entries c contents ops = map (λ p. plain p.entry) (entries_from c contents ops)

-- the counts behind one operation more, and behind several
abbrev pub after_count : Counts → VkOp → Counts
after_count c (op.HostWrite r call) = after_host c
after_count c (op.Pipeline shader) = next c
after_count c (op.Barrier barrier) = after_barrier c barrier
after_count c (op.Command command) = next c
after_count c (op.Submit k) = after_submit c k
after_count c (op.Fence k) = after_fence c k
after_count c (op.HostRead r call) = after_host c

abbrev pub after_counts : Counts → List VkOp → Counts
after_counts c [] = c
after_counts c (o ∷ ops) = after_counts (after_count c o) ops

-- the bytes that the host has still to write behind these operations
abbrev pub contents_after : List (List ℕ) → List VkOp → List (List ℕ)
contents_after contents [] = contents
contents_after contents (op.HostWrite r call ∷ ops) = contents_after (rest_of contents) ops
contents_after contents (op.Pipeline shader ∷ ops) = contents_after contents ops
contents_after contents (op.Barrier barrier ∷ ops) = contents_after contents ops
contents_after contents (op.Command command ∷ ops) = contents_after contents ops
contents_after contents (op.Submit k ∷ ops) = contents_after contents ops
contents_after contents (op.Fence k ∷ ops) = contents_after contents ops
contents_after contents (op.HostRead r call ∷ ops) = contents_after contents ops

-- the greatest fence of a listing and its acts of the host, and the barriers before commands with the open chunk's
-- operations
pub record IsCounted (listing ops : List VkOp) (greatest acts barriers : ℕ) : Type 0 where
  pub fence : (after_counts start_counts listing).fence ≡ greatest
  pub number : (after_counts start_counts listing).number ≡ acts
  pub epoch : (after_counts (after_counts start_counts listing) ops).epoch ≡ barriers

-- a command or a barrier
abbrev pub is_of_device : VkOp → Bool
is_of_device (op.HostWrite r call) = false
is_of_device (op.Pipeline shader) = false
is_of_device (op.Barrier barrier) = true
is_of_device (op.Command command) = true
is_of_device (op.Submit k) = false
is_of_device (op.Fence k) = false
is_of_device (op.HostRead r call) = false

-- a listing with its acts, and the open chunk's operations that will stand behind it with its commands
pub record IsListed (staging : ℕ → Bool) (listing ops : List VkOp) (contents : List (List ℕ))
    (recent : List c.Command) (commands : List Entry)
    (number : ℕ) (acts : List Entry) : Type 0 where
  pub closed : GoesOn staging nothing_listed listing
  pub opened : GoesOn staging (after_ops nothing_listed listing) ops
  -- no batch was begun, and this is the number of the next
  pub none_begun : (after_ops nothing_listed listing).batch ≡ []
  pub ended : (after_ops nothing_listed listing).inside ≡ false
  pub next : (after_ops nothing_listed listing).chunk ≡ number
  -- the operations are commands and barriers, and these are the commands, and those since the last barrier
  pub of_device : AllByRecursion (λ o. is_of_device o ≡ true) ops
  pub since : (after_ops (after_ops nothing_listed listing) ops).recent ≡ recent
  pub lists : (after_ops (after_ops nothing_listed listing) ops).batch ≡ device_commands commands
  pub reads : ReadsStaging staging listing
  -- the host wrote all its bytes, as long as their ranges, and the entries are these
  pub filled : AreContents listing contents
  pub used : contents_after contents listing ≡ []
  pub entries : plain_entries start_counts contents listing ≡ acts
  pub works : plain_entries (after_counts start_counts listing) [] ops ≡ commands
