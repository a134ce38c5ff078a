use Rattle.std.proofs.Common.{◌<◌, take}
use Rattle.base_lemmas.specs.Lists.{Pairwise}
use Rattle.vk_order.proofs.Rising.{AreBelow}
use Rattle.vk_order.proofs.order.rises.Given as goal

abbrev pub invariant-loop-place : goal.invariant-loop-place
invariant-loop-place l = record {
  rising : Pairwise (λ p q. p < q) (take l.place-index l.order);
  below : AreBelow l.past (take l.place-index l.order);
}
