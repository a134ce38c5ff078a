use Rattle.std.proofs.Common.{◌∙◌, sym, below_more}
use Rattle.vk_order.proofs.by_index.least_open.Goals as goal

pub loop-first-preserved : goal.loop-first-preserved
loop-first-preserved c = below_more _ _ c.loop-first.invariant (sym c.is_open.ensures ∙ c.if-is_open.false)

pub returns-then-is_open : goal.returns-then-is_open
returns-then-is_open c = (c.loop-first-test.true, sym c.is_open.ensures ∙ c.if-is_open.true, c.loop-first.invariant)
