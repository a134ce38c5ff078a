use Rattle.std.proofs.Common.{◌≡◌, ◌+◌, ◌-◌, ◌≤◌, ◌++◌, length, take, vec_len, vec_capacity}
use Rattle.vk_types.specs.Hazards.{touches}
use Rattle.barrier_track.specs.Since.{seen_by}
use Rattle.barrier_track.proofs.touches.add.Given as goal

abbrev pub invariant-loop-i : goal.invariant-loop-i
invariant-loop-i l = record {
  room : length (touches l.c) - l.i + vec_len l.seen ≤ vec_capacity l.seen;
  items : l.seen.items ≡ l.initial.seen.items ++ take l.i (seen_by l.c);
}
