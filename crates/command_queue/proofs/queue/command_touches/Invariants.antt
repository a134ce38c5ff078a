use Rattle.std.proofs.Common.{◌≡◌, false, take}
use Rattle.std.specs.Prelude.{◌==◌}
use Rattle.std.specs.List.{list_any}
use Rattle.vk_types.specs.Hazards.{touches}
use Rattle.command_queue.proofs.queue.command_touches.Given as goal

abbrev pub invariant-loop-i : goal.invariant-loop-i
invariant-loop-i l = list_any (λ t. t.range.block == l.block) (take l.i (touches l.c)) ≡ false
