use Rattle.std.proofs.Common.{◌≡◌}
use Rattle.lockfree_tests.proofs.relays.send_one.Given as goal

abbrev pub invariant-tries : goal.invariant-tries
invariant-tries g l = (l.pass ≡ l.initial.pass) × (l.next ≡ l.fn.m)
