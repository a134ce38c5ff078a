use Rattle.std.proofs.Common.{◌≡◌, true, take}
use Rattle.base_lemmas.specs.Lists.{all_pass}
use Rattle.vk_types.specs.Hazards.{touches}
use Rattle.vk_order.specs.Asks.{is_available}
use Rattle.vk_order.proofs.visible.all_available.Given as goal

abbrev pub invariant-loop-i : goal.invariant-loop-i
invariant-loop-i l = all_pass (is_available l.source) (take l.i (touches l.c)) ≡ true
