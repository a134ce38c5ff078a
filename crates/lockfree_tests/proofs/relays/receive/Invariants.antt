use Rattle.std.proofs.Common.{◌≡◌, length}
use Rattle.lockfree_tests.proofs.relays.receive.Given as goal

abbrev pub invariant-loop-i : goal.invariant-loop-i
invariant-loop-i g l = (l.pass.queue ≡ l.relay.queue) × (length l.pass.messages ≡ l.i)
