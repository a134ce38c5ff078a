use Rattle.std.proofs.Common.{◌≡◌, ◌-◌, length}
use Rattle.barrier_track.specs.Touched.{HaveBytes}
use Rattle.barrier_track.proofs.touches.Touches.settle.Given as goal

abbrev pub invariant-walk : goal.invariant-walk
invariant-walk l = record {
  seen : l.self-inside.seen ≡ l.initial.self-inside.seen;
  bytes : HaveBytes l.self-inside.seen.items l.self-inside.settled l.self-inside.touched l.self-inside.written;
}

abbrev pub decreases-walk : goal.decreases-walk
decreases-walk l = length l.self-inside.seen.items - l.self-inside.settled
