use Rattle.std.proofs.Common.{◌≡◌, ℕ, ◌<◌, ◌≤◌, Some, slice_get, slice_index}
use Rattle.vk_order.specs.declared.classes.Second.{Second}
use Rattle.vk_order.specs.Classes.{covers}
use Rattle.vk_order.specs.Layers.{HasPassed}
use Rattle.vk_order.proofs.layers.pass_lasts.Given as goal

abbrev pub invariant-loop-k : goal.invariant-loop-k
invariant-loop-k l = record {
  passed : (k : ℕ) (s : Second) → k < l.k → slice_get l.seconds k ≡ Some s → HasPassed (covers l.first s) l.b l.past (slice_index l.initial.lasts k) (slice_index l.lasts k);
  rest : (k : ℕ) → l.k ≤ k → slice_index l.lasts k ≡ slice_index l.initial.lasts k;
}
