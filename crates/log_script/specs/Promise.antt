-- What the core keeps of a log at its end, by any schedule and any choices.
use Rattle.std.specs.Prelude.{◌≡◌, ℕ, ◌-◌, ◌<◌, List, map, Some, slice_get}
use Rattle.std.specs.List.{flat_map}
use Rattle.dx_types.specs.declared.range.Range.{Range}
use Rattle.dx_types.specs.declared.reply.Reply.TheVariants as said
use Rattle.vk_types.specs.declared.op.VkOp.TheVariants as op
use Rattle.vk_types.specs.Allowed.{IsAllowed, outcome}
use Rattle.vk_types.specs.Covered.{Covered}
use Rattle.vk_types.specs.Entries.{EntriesKeep, run_entries}
use Rattle.vk_types.specs.Listing.{acts}
use Rattle.base_lemmas.specs.Lists.{IsReordering, numbers_from}
use Rattle.vk_types.specs.Memory.{zeros}
use Rattle.vk_types.specs.RunListing.{IsRunListing}
use Rattle.call_log.specs.Call.{Issued}
use Rattle.d3d_model.specs.InOrder.{call_at}
use Rattle.d3d_model.specs.Uses.{last_use}
use Rattle.d3d_model.specs.ReplyText.{none_pending, reply_at, lines, text}
use Rattle.core_model.specs.Chunking.{chunks}
use Rattle.core_model.specs.CoreState.{Core, Bytes_said, flat}
use Rattle.core_model.specs.HostReads.{IsSaid}
use Rattle.core_model.specs.Invariant.{turns_of, commands_of}
use Rattle.core_model.specs.Runs.{pending}
use Rattle.core_model.specs.Stands.{FreeIsIdle}
use Rattle.log_script.specs.Answered.{IsNoWait}
use Rattle.log_script.specs.LogScript.{meaning_of, script_of}
use Rattle.log_script.specs.RunText.{reply_said, pending_map}

-- a call that does not wait was pending, as its last use was not finished
pub record WasPending (log : List Issued) (call finished : ℕ) : Type 0 where
  pub used : ℕ
  pub last : last_use log call ≡ Some used
  pub unfinished : finished < used
  pub no_wait : IsNoWait (call_at log call)

pub record KeepsPromise (log : List Issued) (core : Core) : Type 0 where
  -- what was said is what Direct3D says, where these calls are pending
  pub says : lines (flat_map (reply_said log) core.replies) ≡ text log (pending_map core.replies)
  pub pending : (call finished : ℕ) → pending core call ≡ Some finished → WasPending log call finished
  -- the listing is a run's, and covered, so that each order that it allows leaves what its own order does
  pub listing : IsRunListing core.is_staging core.listing
  pub covered : Covered core.listing
  pub orders : (order : List ℕ) → IsAllowed core.listing order
      → outcome (meaning_of log) core.contents core.listing order
      ≡ outcome (meaning_of log) core.contents core.listing (acts core.listing)
  -- under each allowed order each host read gives the bytes that Direct3D answers to its call
  pub reads : (call : ℕ) (r : Range) (place : ℕ) → slice_get core.listing place ≡ Some (op.HostRead r call)
      → (order : List ℕ) → IsAllowed core.listing order
      → reply_at log none_pending call
      ≡ Some (said.Bytes call (map ((outcome (meaning_of log) core.contents core.listing order).answers place)
      (numbers_from 0 (r.to - r.from))))
  -- and each answer in bytes to a call that has a last use has its host read
  pub reads_stand : (call : ℕ) (bytes : List ℕ) → IsSaid core (Bytes_said call bytes) → (used : ℕ)
      → last_use log call ≡ Some used
      → (r : Range) × (place : ℕ) × (slice_get core.listing place ≡ Some (op.HostRead r call))
  -- no command that is not finished touches a block that may be handed out
  pub idle : FreeIsIdle core
  -- the chunks are the log's, each of their commands was run once, in an order that keeps what is ordered, and memory
  -- is what the listing's order leaves
  pub chunks : turns_of core.taken ≡ chunks (script_of log)
  pub each_once : IsReordering (commands_of core.taken) core.ran
  pub order : EntriesKeep core.ran
  pub memory : core.memory ≡ run_entries (meaning_of log) (flat core.taken) zeros
