use Rattle.std.proofs.Common.{◌≡◌, drop}
use Rattle.vk_types.specs.BarrierCauses.{lesser}
use Rattle.barrier_track.specs.Since.{least_seen}
use Rattle.barrier_track.proofs.touches.least.Given as goal

abbrev pub invariant-loop-s : goal.invariant-loop-s
invariant-loop-s l = lesser l.least (least_seen l.c (drop l.s-index l.seen)) ≡ least_seen l.c l.seen
