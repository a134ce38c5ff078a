use Rattle.std.proofs.Common.{◌-◌, ◌≤◌, ◌<◌}
use Rattle.barrier_track.proofs.Bytes.{NoneUntil}
use Rattle.barrier_track.proofs.ranges.meets.Given as goal

abbrev pub invariant-walk : goal.invariant-walk
invariant-walk l = record {
  from : l.from < l.at;
  to : l.at ≤ l.to;
  none : NoneUntil l.starts.entries l.from l.at;
}

abbrev pub decreases-walk : goal.decreases-walk
decreases-walk l = l.to - l.at
