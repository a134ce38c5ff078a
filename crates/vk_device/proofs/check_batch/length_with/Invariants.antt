use Rattle.vk_device.proofs.Lengths.{FoundOn}
use Rattle.vk_device.proofs.check_batch.length_with.Given as goal

abbrev pub invariant-each : goal.invariant-each
invariant-each l = FoundOn l.fn.before l.number l.blocks l.block-index l.found
