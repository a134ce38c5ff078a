use Rattle.std.proofs.Common.{◌≡◌, true, take}
use Rattle.base_lemmas.specs.Lists.{all_pass}
use Rattle.vk_types.specs.Hazards.{touches}
use Rattle.vk_types.specs.Covered.{host_visible}
use Rattle.vk_order.proofs.visible.command_is_visible_to_host.Given as goal

abbrev pub invariant-loop-i : goal.invariant-loop-i
invariant-loop-i l = all_pass (λ t. host_visible l.mid t l.u) (take l.i (touches l.c)) ≡ true
