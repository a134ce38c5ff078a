use Rattle.std.proofs.Common.{◌≡◌, length, cond, Some, ap, subst, ◌∙◌, arith}
use Rattle.std.specs.Prelude.{◌==◌}
use Rattle.std.proofs.lemmas.List.{take_all}
use Rattle.buffer_blocks.specs.declared.block.Block.{Block}
use Rattle.buffer_blocks.specs.Block.{bytes_of}
use Rattle.vk_device.specs.Accepting.{length_if, with_blocks}
use Rattle.vk_device.proofs.Lengths.{found_more}
use Rattle.vk_device.proofs.check_batch.length_with.Goals as goal

pub each-init : goal.each-init
each-init c = λ held e. e

pub each-preserved : goal.each-preserved
each-preserved c =
    found_more c.args.before c.args.number c.args.blocks.now c.each.block-index c.block-item.result c.each.found c.length_after-found.result (omega arith)
    (subst (λ (b : Block). c.length_after-found.result ≡ cond (c.args.number == b.number) (Some (length (bytes_of b))) c.each.found) c.block-item.is c.length_after-found.ensures)
    c.each.invariant

pub returns : goal.returns
returns c = λ held e.
    c.each.invariant held e
    ∙ ap (λ l. length_if (with_blocks l held c.args.number)) (take_all c.each.block-index c.args.blocks.now (omega arith))
