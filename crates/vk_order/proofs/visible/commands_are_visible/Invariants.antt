use Rattle.std.proofs.Common.{◌≡◌, true, take}
use Rattle.base_lemmas.specs.Lists.{all_pass}
use Rattle.vk_types.specs.Hazards.{touches}
use Rattle.vk_types.specs.Covered.{commands_visible}
use Rattle.vk_order.proofs.visible.commands_are_visible.Given as goal

abbrev pub invariant-loop-i : goal.invariant-loop-i
invariant-loop-i l = all_pass (λ t. all_pass (commands_visible l.mid l.c l.d t) (touches l.d)) (take l.i (touches l.c)) ≡ true
