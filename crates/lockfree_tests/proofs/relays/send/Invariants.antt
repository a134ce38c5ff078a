use Rattle.std.proofs.Common.{◌≡◌, length}
use Rattle.lockfree_tests.proofs.relays.send.Given as goal

abbrev pub invariant-loop-byte : goal.invariant-loop-byte
invariant-loop-byte g l = (l.pass.queue ≡ l.relay.queue) × (length l.pass.messages ≡ l.byte-index) × (l.number ≡ l.byte-index)
