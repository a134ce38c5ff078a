use Rattle.std.proofs.Common.{◌-◌, ◌≤◌, length}
use Rattle.barrier_track.specs.Touched.{NoneClashes}
use Rattle.barrier_track.proofs.touches.clashes_from.Given as goal

abbrev pub invariant-walk : goal.invariant-walk
invariant-walk l = record {
  within : l.at ≤ length l.seen;
  none : NoneClashes l.c l.seen l.from l.at;
}

abbrev pub decreases-walk : goal.decreases-walk
decreases-walk l = length l.seen - l.at
