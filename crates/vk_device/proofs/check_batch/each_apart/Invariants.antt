use Rattle.std.proofs.Common.{◌≡◌}
use Rattle.buffer_blocks.specs.declared.block.Block.{Block}
use Rattle.vk_device.proofs.Checks.{BothOn}
use Rattle.vk_device.proofs.check_batch.each_apart.Given as goal

abbrev pub invariant-each : goal.invariant-each
invariant-each l = BothOn (λ (a b : Block). a.number ≡ b.number → ⊥) l.blocks l.others l.i
