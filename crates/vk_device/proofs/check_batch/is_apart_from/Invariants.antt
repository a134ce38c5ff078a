use Rattle.std.proofs.Common.{◌≡◌}
use Rattle.buffer_blocks.specs.declared.block.Block.{Block}
use Rattle.vk_device.proofs.Checks.{AllOn}
use Rattle.vk_device.proofs.check_batch.is_apart_from.Given as goal

abbrev pub invariant-each : goal.invariant-each
invariant-each l = AllOn (λ (b : Block). l.block.number ≡ b.number → ⊥) l.others l.other-index
