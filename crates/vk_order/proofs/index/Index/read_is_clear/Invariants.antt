use Rattle.std.proofs.Common.{◌≡◌, ℕ, ◌<◌, Some, slice_get}
use Rattle.vk_order.specs.declared.layers.Layer.{Layer}
use Rattle.vk_order.specs.Layers.{AreHostMarksBelow}
use Rattle.vk_order.proofs.index.Index.read_is_clear.Given as goal

abbrev pub invariant-loop-n : goal.invariant-loop-n
invariant-loop-n l = (n : ℕ) (m : Layer) → n < l.n → slice_get l.self.layers.items n ≡ Some m → AreHostMarksBelow m l.reach
