-- Each step of a part other than App keeps the invariant, and what the invariant says of a state.
use Rattle.std.proofs.Common.{◌≡◌, false, [], ◌++◌, sym, ap, ◌∙◌, subst}
use Rattle.vk_types.specs.Covered.{Covered}
use Rattle.vk_types.specs.Effects.{Meaning}
use Rattle.vk_types.specs.RunListing.{IsRunListing}
use Rattle.vk_types.specs.Memory.{zeros}
use Rattle.vk_types.specs.Entries.{EntriesCovered, run_entries, start_counts}
use Rattle.core_model.specs.Listed.{plain_entries}
use Rattle.core_model.specs.Script.{Script}
use Rattle.core_model.specs.CoreState.{Core, open_number, flat, rests, on_device, listed}
use Rattle.core_model.specs.Worlds.{World, empty, run_world}
use Rattle.core_model.proofs.Listing.Worlds.{world_memory}
use Rattle.core_model.specs.Readings.{Reading}
use Rattle.core_model.specs.CoreStep.{Event, App, Cs, Pipe, Submit, Accept, Run, Complete, Finish, Come_home}
use Rattle.core_model.specs.CoreStep.{is_of_app, Step}
use Rattle.core_model.specs.Invariant.{listed_acts, Good}
use Rattle.core_model.proofs.Steps.Segments.{listed_split}
use Rattle.core_model.proofs.Listing.CoreListing.{is_run, both_entries, listed_covered}
use Rattle.core_model.proofs.Steps.QueueHeads.{cs_good, pipe_good, submit_good}
use Rattle.core_model.proofs.Steps.Running.{run_good}
use Rattle.core_model.proofs.Steps.Accepting.{accept_good}
use Rattle.core_model.proofs.Steps.Completing.{complete_good}
use Rattle.core_model.proofs.Steps.Finishing.{finish_good, come_home_good}

pub others_good : (meaning : Meaning) (reading : Reading) (script : Script) (old : Core) (e : Event) (new : Core)
    → is_of_app e ≡ false → Step meaning reading script old e new → Good meaning reading script old
    → Good meaning reading script new
others_good meaning reading script old (App posts) new h p g = absurd (cc h)
others_good meaning reading script old Cs new h p g = cs_good meaning reading script old new p g
others_good meaning reading script old (Pipe j) new h p g = pipe_good meaning reading script old j new p g
others_good meaning reading script old Submit new h p g = submit_good meaning reading script old new p g
others_good meaning reading script old Accept new h p g = accept_good meaning reading script old new p g
others_good meaning reading script old (Run j) new h p g = run_good meaning reading script old j new p g
others_good meaning reading script old Complete new h p g = complete_good meaning reading script old new p g
others_good meaning reading script old Finish new h p g = finish_good meaning reading script old new p g
others_good meaning reading script old (Come_home block place) new h p g =
    come_home_good meaning reading script old block place new p g

pub listing_is_run : (meaning : Meaning) (reading : Reading) (script : Script) (core : Core)
    → Good meaning reading script core → IsRunListing core.is_staging (core.listing ++ core.open_chunk.ops)
listing_is_run meaning reading script core g =
    is_run core.is_staging core.listing core.open_chunk.ops core.contents core.recent core.open_chunk.commands
    (open_number core) (listed_acts core) g.sound.grows

pub listing_is_covered : (meaning : Meaning) (reading : Reading) (script : Script) (core : Core)
    → Good meaning reading script core → Covered (core.listing ++ core.open_chunk.ops)
listing_is_covered meaning reading script core g =
    listed_covered core.is_staging core.listing core.open_chunk.ops core.contents core.recent
    core.open_chunk.commands (open_number core) (listed_acts core) g.sound.grows
    (subst EntriesCovered (listed_split core) g.sound.covered)

-- where no accepted command is left, the device holds what the listing's order leaves
pub memory_is_listed : (meaning : Meaning) (reading : Reading) (script : Script) (core : Core)
    → Good meaning reading script core → rests core.accepted ≡ []
    → core.memory ≡ run_entries meaning (flat (on_device core)) zeros
memory_is_listed meaning reading script core g e =
    let w : World = record { memory = core.memory; counts = core.counts } in
    ap (λ l. (run_world meaning l w).memory) (sym e) ∙ ap (λ w. w.memory) g.sound.device
    ∙ world_memory meaning (flat (on_device core)) empty

pub entries_are_listed : (meaning : Meaning) (reading : Reading) (script : Script) (core : Core)
    → Good meaning reading script core → plain_entries start_counts core.contents
    (core.listing ++ core.open_chunk.ops) ≡ listed core
entries_are_listed meaning reading script core g =
    both_entries core.is_staging core.listing core.open_chunk.ops core.contents core.recent core.open_chunk.commands
    (open_number core) (listed_acts core) g.sound.grows
    ∙ sym (listed_split core)
