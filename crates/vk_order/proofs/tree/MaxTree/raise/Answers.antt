use Rattle.std.proofs.Common.{arith}
use Rattle.vk_order.proofs.tree.MaxTree.raise.Goals as goal

pub raise_part-requires-clause-node : goal.raise_part-requires-clause-node
raise_part-requires-clause-node c =
    let n = c.requires.nodes in let l = c.deref_mut.ensures.len in let s = c.requires.small in
    record { from = omega arith; to = omega (arith, n, l); places = omega (arith, s) }
