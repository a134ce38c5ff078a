use Rattle.std.proofs.Common.{take}
use Rattle.command_queue.specs.StageSets.{Stands}
use Rattle.command_queue.proofs.Ready.{Passes}
use Rattle.command_queue.proofs.queue.CommandQueue.ready.Given as goal

abbrev pub invariant-steps : goal.invariant-steps
invariant-steps l =
    Stands (take l.at l.self-inside.steps.items) l.before.waiting l.before.held × Passes l.self-inside.steps.items l.j l.at l.behind
