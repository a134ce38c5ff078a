use Rattle.device_memory.specs.Held.{block_of}
use Rattle.vk_device.specs.Accepting.{CanWrite, brought}
use Rattle.vk_device.proofs.Checks.{AllOn}
use Rattle.vk_device.proofs.check_batch.can_write_all.Given as goal

abbrev pub invariant-each : goal.invariant-each
invariant-each l = AllOn (CanWrite l.log.bytes (brought l.blocks l.pages (block_of l.memory))) l.parts l.part-index
