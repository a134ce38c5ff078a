use Rattle.std.proofs.Common.{◌≡◌, false, take}
use Rattle.std.specs.List.{list_any}
use Rattle.vk_types.specs.Hazards.{touches, same_stage}
use Rattle.vk_types.proofs.command.Command.touches_at.Given as goal

abbrev pub invariant-loop-i : goal.invariant-loop-i
invariant-loop-i l = list_any (λ t. same_stage t.stage l.stage) (take l.i (touches l.self)) ≡ false
