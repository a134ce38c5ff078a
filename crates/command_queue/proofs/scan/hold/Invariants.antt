use Rattle.command_queue.proofs.Passing.{HoldsBelow}
use Rattle.command_queue.proofs.scan.hold.Given as goal

abbrev pub invariant-sets : goal.invariant-sets
invariant-sets l = HoldsBelow l.m l.fn.held l.set l.held
