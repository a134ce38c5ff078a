use Rattle.std.proofs.Common.{◌≡◌}
use Rattle.buffer_blocks.specs.declared.block.Block.{Block}
use Rattle.vk_device.proofs.Checks.{PairsOn}
use Rattle.vk_device.proofs.check_batch.all_apart.Given as goal

abbrev pub invariant-each : goal.invariant-each
invariant-each l = PairsOn (λ (a b : Block). a.number ≡ b.number → ⊥) l.blocks l.i
