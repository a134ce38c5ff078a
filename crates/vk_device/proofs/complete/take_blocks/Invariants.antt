use Rattle.std.proofs.Common.{drop}
use Rattle.device_memory.specs.Held.{block_of}
use Rattle.vk_device.proofs.Giving.{BlocksOn}
use Rattle.vk_device.proofs.complete.take_blocks.Given as goal

abbrev pub invariant-each : goal.invariant-each
invariant-each l = BlocksOn (block_of l.fn.memory) l.numbers (drop l.number-index l.numbers) l.blocks.items (block_of l.memory)
