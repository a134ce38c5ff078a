use Rattle.std.proofs.Common.{◌-◌, ◌≤◌}
use Rattle.barrier_track.specs.Bytes.{Forgets}
use Rattle.barrier_track.proofs.ranges.forget.Given as goal

abbrev pub invariant-walk : goal.invariant-walk
invariant-walk l = record {
  from : l.from ≤ l.at;
  to : l.at ≤ l.to;
  forgets : Forgets l.initial.starts.entries l.from l.at l.starts.entries;
}

abbrev pub decreases-walk : goal.decreases-walk
decreases-walk l = l.to - l.at
