use Rattle.std.proofs.Common.{◌≡◌, ◌≤◌, false, length, take}
use Rattle.std.specs.List.{list_any}
use Rattle.command_queue.specs.Readiness.{is_left}
use Rattle.command_queue.proofs.queue.first_left.Given as goal

abbrev pub invariant-steps : goal.invariant-steps
invariant-steps l = (l.at ≤ length l.steps.items) × (list_any is_left (take l.at l.steps.items) ≡ false)
