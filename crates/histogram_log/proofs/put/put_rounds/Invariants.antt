use Rattle.std.proofs.Common.{◌≡◌, ◌++◌}
use Rattle.histogram_log.specs.Histogram.{rounds}
use Rattle.histogram_log.specs.Logged.{spelled}
use Rattle.histogram_log.proofs.put.put_rounds.Given as goal

abbrev pub invariant-rounds : goal.invariant-rounds
invariant-rounds l = l.log.items ≡ l.fn.log.items ++ spelled (rounds l.i)
