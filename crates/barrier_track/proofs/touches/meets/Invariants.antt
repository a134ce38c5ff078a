use Rattle.barrier_track.specs.Touched.{AllMiss}
use Rattle.barrier_track.proofs.touches.meets.Given as goal

abbrev pub invariant-loop-i : goal.invariant-loop-i
invariant-loop-i l = AllMiss l.touched l.written l.c l.i
