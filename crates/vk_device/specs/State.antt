-- What a device holds and has still to do.
use Rattle.std.specs.Prelude.{ℕ, List, [], Option, Some, None, slice_get}
use Rattle.lifetime.specs.declared.holds.Mark.{Mark}
use Rattle.query_pool.specs.Asked.{Asked}
use Rattle.device_memory.specs.Held.{Held}
use Rattle.vk_types.specs.declared.command.Work.{Work}
use Rattle.vk_types.specs.declared.command.Work.TheVariants as work
use Rattle.vk_types.specs.declared.command.Command as c
use Rattle.command_queue.specs.declared.queue.Listed.{Listed}
use Rattle.command_queue.specs.Readiness.{ready_places, step_command}
use Rattle.vk_device.specs.declared.accepted.Accepted.{Accepted}
use Rattle.vk_device.specs.Modules.{Modules}

pub record State : Type 0 where
  -- the blocks that it holds
  pub held : Held
  -- the batches that were accepted and not completed, the oldest first
  pub batches : List Accepted
  -- their operations, of all batches one after another, each with whether it is a command that was run
  pub steps : List Listed
  -- the number of the batch that was accepted last, 0 before the first
  pub newest : ℕ
  -- the numbers of the commands that were run, in the order in which they were
  pub order : List ℕ
  -- the blocks that accepted batches gave up, with the batches' numbers
  pub marks : List Mark
  -- the queries, and how many invocations each command ran
  pub asked : Asked
  -- the modules of the shaders that were dispatched
  pub modules : Modules

abbrev pub no_state : State
no_state = record {
  held = [];
  batches = [];
  steps = [];
  newest = 0;
  order = [];
  marks = [];
  asked = record { begun = []; ended = []; counts = [] };
  modules = [];
}

abbrev pub place_command : List Listed → Option ℕ → Option c.Command
place_command steps None = None
place_command steps (Some place) = step_command (slice_get steps place)

-- the ready command number j, from 0
abbrev pub ready_command : State → ℕ → Option c.Command
ready_command d j = place_command d.steps (slice_get (ready_places d.steps) j)

abbrev pub number_of : Option c.Command → Option ℕ
number_of None = None
number_of (Some e) = Some e.number

-- the shader that a command runs, if it is a dispatch
abbrev pub work_shader : Work → Option ℕ
work_shader (work.Copy source target) = None
work_shader (work.Fill target word) = None
work_shader (work.Clear target words unit) = None
work_shader (work.Dispatch shader counts slots) = Some shader

abbrev pub shader_of : Option c.Command → Option ℕ
shader_of None = None
shader_of (Some e) = work_shader e.work
