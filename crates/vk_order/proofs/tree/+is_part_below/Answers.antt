use Rattle.std.proofs.Common.{arith}
use Rattle.vk_order.proofs.Trees.{halves_at_most, marked_top}
use Rattle.vk_order.proofs.tree.+is_part_below.Goals as goal

pub returns-then-is_apart : goal.returns-then-is_apart
returns-then-is_apart t c = λ is i n from to low high m. absurd (c.is_apart.ensures c.if-is_apart.true i from to low high)

pub returns-then-bests-part : goal.returns-then-bests-part
returns-then-bests-part t c = λ is i n from to low high m.
    let top = marked_top c.args.marks.now c.args.bests.now n i c.args.part c.requires.tops c.requires.node.from m in
    omega (arith, top, c.if-bests-part.true)

pub returns : goal.returns
returns t c = λ is.
    halves_at_most c.args.marks.now c.args.part c.left-left.result c.right-right.result c.args.reach c.args.bound c.args.bound c.args.bound
    c.left-left.ensures c.right-right.ensures (omega (arith, c.if-marks-part.false)) (omega arith) (omega arith)
    (c.is_part_below.ensures c.if-not-is_part_below.false) (c.is_part_below-2.ensures is)
