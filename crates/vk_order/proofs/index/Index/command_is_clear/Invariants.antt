use Rattle.std.proofs.Common.{◌≡◌, ℕ, ◌<◌, Some, slice_get}
use Rattle.vk_types.specs.declared.touch.Touch.{Touch}
use Rattle.vk_types.specs.Hazards.{touches}
use Rattle.vk_order.specs.Index.{IsTouchClear}
use Rattle.vk_order.proofs.index.Index.command_is_clear.Given as goal

abbrev pub invariant-loop-i : goal.invariant-loop-i
invariant-loop-i l = (j : ℕ) (u : Touch) → j < l.i → slice_get (touches l.d) j ≡ Some u → IsTouchClear l.self l.stages u
