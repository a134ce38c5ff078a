use Rattle.std.proofs.Common.{◌-◌, ◌≤◌, length}
use Rattle.query_pool.specs.Running.{below}
use Rattle.query_pool.proofs.sums.below.Given as goal

abbrev pub invariant-halves : goal.invariant-halves
invariant-halves l = (l.low ≤ below l.command l.sums) × (below l.command l.sums ≤ l.high) × (l.high ≤ length l.sums)

abbrev pub decreases-halves : goal.decreases-halves
decreases-halves l = l.high - l.low
