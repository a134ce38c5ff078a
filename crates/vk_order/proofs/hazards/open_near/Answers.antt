use Rattle.std.proofs.Common.{sym, ◌∙◌, arith, below_more}
use Rattle.vk_order.proofs.Open.{backward}
use Rattle.vk_order.proofs.hazards.open_near.Goals as goal

pub loop-y-init : goal.loop-y-init
loop-y-init c y l = backward c.args.ops.now c.args.x y (omega (arith, l))

pub loop-y-preserved : goal.loop-y-preserved
loop-y-preserved c = below_more _ _ c.loop-y.invariant (sym c.is_open.ensures ∙ c.if-is_open.false)
