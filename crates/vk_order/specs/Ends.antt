-- What an answer on an order says.
use Rattle.std.specs.Prelude.{ℕ, List}
use Rattle.vk_types.specs.declared.op.VkOp.{VkOp}
use Rattle.vk_order.specs.declared.order.OrderEnd.{OrderEnd}
use Rattle.vk_order.specs.declared.order.OrderEnd.TheVariants as end
use Rattle.vk_order.specs.Order.{IsFirstOdd, IsFirstBroken}

abbrev pub IsOrderEnd : List VkOp → List ℕ → OrderEnd → Type 0
IsOrderEnd ops order (end.NotAll at) = IsFirstOdd ops order at
IsOrderEnd ops order (end.Broken first second) = IsFirstBroken ops order first second
