use Rattle.std.proofs.Common.{◌≡◌, ℕ, ◌<◌, false}
use Rattle.vk_order.specs.Order.{is_broken}
use Rattle.vk_order.specs.Turns.{TurnsHold}
use Rattle.vk_order.proofs.order_by_index.first_turned.Given as goal

abbrev pub invariant-seconds : goal.invariant-seconds
invariant-seconds l = record {
  none : (x y : ℕ) → y < l.second → is_broken l.ops l.order x y ≡ false;
  holds : TurnsHold l.ops l.ranks l.turns l.second;
}
