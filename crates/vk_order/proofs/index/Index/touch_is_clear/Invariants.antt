use Rattle.std.proofs.Common.{◌≡◌, ℕ, ◌<◌, Some, slice_get}
use Rattle.vk_order.specs.declared.layers.Layer.{Layer}
use Rattle.vk_order.specs.Layers.{AreMarksBelow}
use Rattle.vk_order.proofs.index.Index.touch_is_clear.Given as goal

abbrev pub invariant-loop-n : goal.invariant-loop-n
invariant-loop-n l = (n : ℕ) (m : Layer) → n < l.n → slice_get l.self.layers.items n ≡ Some m → AreMarksBelow m l.u l.reach l.second
