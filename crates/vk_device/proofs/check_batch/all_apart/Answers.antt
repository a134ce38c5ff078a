use Rattle.std.proofs.Common.{◌≡◌, ◌+◌, List, drop, subst, arith}
use Rattle.std.specs.List.{AllByRecursion}
use Rattle.buffer_blocks.specs.declared.block.Block.{Block}
use Rattle.vk_device.proofs.Checks.{pairs_more, slice_rest}
use Rattle.vk_device.proofs.check_batch.all_apart.Goals as goal

pub each-preserved : goal.each-preserved
each-preserved c =
    let bs = c.args.blocks.now in
    let behind = subst (λ (l : List Block). AllByRecursion (λ (b : Block). c.index-blocks-i.result.number ≡ b.number → ⊥) l) (slice_rest (c.each.i + 1) bs)
    (c.is_apart_from.ensures c.if-not-is_apart_from.false) in
    pairs_more (λ (a b : Block). a.number ≡ b.number → ⊥) bs c.each.i c.index-blocks-i.result (omega arith)
    (subst (λ (a : Block). AllByRecursion (λ (b : Block). a.number ≡ b.number → ⊥) (drop (c.each.i + 1) bs)) c.index-blocks-i.is behind)
    c.each.invariant
