use Rattle.std.proofs.Common.{ℕ, List}
use Rattle.std.proofs.lemmas.Bool.{both_ways}
use Rattle.vk_types.specs.declared.op.VkOp.{VkOp}
use Rattle.vk_types.specs.Allowed.{IsAllowed}
use Rattle.vk_order.specs.declared.order.OrderEnd.{OrderEnd}
use Rattle.vk_order.specs.declared.order.OrderEnd.TheVariants.{NotAll, Broken}
use Rattle.vk_order.specs.Ends.{IsOrderEnd}
use Rattle.vk_order.specs.Order.{is_broken}
use Rattle.vk_order.proofs.Broken.{kept_whole}
use Rattle.vk_order.proofs.order_by_index.allowed_by_index.Goals as goal

-- an order with such an end isn't allowed
refuted : (ops : List VkOp) (order : List ℕ) (end : OrderEnd) → IsOrderEnd ops order end → IsAllowed ops order → ⊥
refuted ops order (NotAll at) e all = e.2 all.0
refuted ops order (Broken first second) e all = both_ways (is_broken ops order first second) (kept_whole ops order all.1 first second) e.here

pub returns-in-Some-clause-ok : goal.returns-in-Some-clause-ok
returns-in-Some-clause-ok c = (λ e. absurd (cc e), λ all. absurd (refuted c.args.ops.now c.args.order.now c.in-Some.end c.in-Some.ensures all))
