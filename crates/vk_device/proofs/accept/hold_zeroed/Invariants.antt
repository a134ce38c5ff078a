use Rattle.std.proofs.Common.{length, map}
use Rattle.device_memory.specs.Held.{block_of}
use Rattle.vk_device.specs.Accepting.{zeroed}
use Rattle.vk_device.proofs.Taking.{HoldsOn}
use Rattle.vk_device.proofs.accept.hold_zeroed.Given as goal

abbrev pub invariant-each : goal.invariant-each
invariant-each l = HoldsOn (block_of l.fn.memory) (map zeroed l.fn.blocks.items) (map zeroed l.rest.items) (block_of l.memory)

abbrev pub decreases-each : goal.decreases-each
decreases-each l = length l.rest.items
