use Rattle.std.proofs.Common.{◌≡◌, false, ◌&&◌, take}
use Rattle.std.specs.List.{list_any}
use Rattle.vk_types.specs.Hazards.{touches, same_stage, has_write}
use Rattle.barrier_track.proofs.stages.writes_at.Given as goal

abbrev pub invariant-loop-i : goal.invariant-loop-i
invariant-loop-i l = list_any (λ t. same_stage t.stage l.stage && has_write t.access) (take l.i (touches l.c)) ≡ false
