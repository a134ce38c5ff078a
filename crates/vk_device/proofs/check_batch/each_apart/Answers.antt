use Rattle.std.proofs.Common.{◌≡◌, ◌+◌, List, drop, subst, arith}
use Rattle.std.specs.List.{AllByRecursion}
use Rattle.std.proofs.lemmas.List.{get_or_default}
use Rattle.buffer_blocks.specs.declared.block.Block.{Block}
use Rattle.vk_device.proofs.Checks.{both_more, slice_rest}
use Rattle.vk_device.proofs.check_batch.each_apart.Goals as goal

pub each-preserved : goal.each-preserved
each-preserved c =
    let bs = c.args.blocks.now in
    let behind = subst (λ (l : List Block). AllByRecursion (λ (b : Block). c.index-blocks-i.result.number ≡ b.number → ⊥) l) (slice_rest (c.each.i + 1) bs)
    (c.is_apart_from.ensures c.if-not-is_apart_from.false) in
    let others = subst (λ (a : Block). AllByRecursion (λ (b : Block). a.number ≡ b.number → ⊥) c.args.others.now) c.index-blocks-i-in-each.is (c.is_apart_from-in-each.ensures c.if-not-is_apart_from-2.false) in
    both_more (λ (a b : Block). a.number ≡ b.number → ⊥) bs c.args.others.now c.each.i c.index-blocks-i.result (omega arith)
    (subst (λ (a : Block). AllByRecursion (λ (b : Block). a.number ≡ b.number → ⊥) (drop (c.each.i + 1) bs)) c.index-blocks-i.is behind)
    (subst (λ (a : Block). AllByRecursion (λ (b : Block). a.number ≡ b.number → ⊥) c.args.others.now)
    (get_or_default bs c.each.i c.index-blocks-i-in-each.result c.index-blocks-i.result (omega arith)) others)
    c.each.invariant
