use Rattle.std.proofs.Common.{◌≡◌, true, take}
use Rattle.base_lemmas.specs.Lists.{all_pass}
use Rattle.vk_types.specs.Hazards.{touches}
use Rattle.vk_types.specs.Covered.{commands_visible}
use Rattle.vk_order.proofs.visible.touch_is_visible.Given as goal

abbrev pub invariant-loop-i : goal.invariant-loop-i
invariant-loop-i l = all_pass (commands_visible l.mid l.c l.d l.t) (take l.i (touches l.d)) ≡ true
