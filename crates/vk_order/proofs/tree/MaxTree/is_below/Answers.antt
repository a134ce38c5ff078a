use Rattle.std.proofs.Common.{arith}
use Rattle.vk_order.proofs.tree.MaxTree.is_below.Goals as goal

pub is_part_below-requires-clause-node : goal.is_part_below-requires-clause-node
is_part_below-requires-clause-node c =
    let n = c.requires.nodes in let l = c.deref.ensures.len in let s = c.requires.small in
    record { from = omega arith; to = omega (arith, n, l); places = omega (arith, s) }
