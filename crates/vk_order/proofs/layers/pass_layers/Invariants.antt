use Rattle.std.proofs.Common.{◌≡◌, ℕ, ◌<◌, ◌≤◌, Some, slice_get}
use Rattle.vk_order.specs.declared.layers.Layer.{Layer}
use Rattle.vk_order.specs.Layers.{WasPassed}
use Rattle.vk_order.proofs.layers.pass_layers.Given as goal

abbrev pub invariant-loop-n : goal.invariant-loop-n
invariant-loop-n l = record {
  passed : (n : ℕ) (m : Layer) → n < l.n → slice_get l.layers n ≡ Some m → WasPassed l.seconds l.b l.past l.initial.layers n m;
  rest : (n : ℕ) → l.n ≤ n → slice_get l.layers n ≡ slice_get l.initial.layers n;
}
