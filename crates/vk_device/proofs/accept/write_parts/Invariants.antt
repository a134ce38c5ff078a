use Rattle.std.proofs.Common.{◌≡◌, drop}
use Rattle.std.specs.List.{AllByRecursion}
use Rattle.device_memory.specs.Held.{AreAlike, block_of, memory_of}
use Rattle.vk_device.specs.Accepting.{CanWrite, written}
use Rattle.vk_device.proofs.accept.write_parts.Given as goal

abbrev pub invariant-each : goal.invariant-each
invariant-each l =
    AllByRecursion (CanWrite l.log.bytes (block_of l.memory)) (drop l.part-index l.parts)
    × (written l.log.bytes (drop l.part-index l.parts) (memory_of l.memory) ≡ written l.log.bytes l.parts (memory_of l.fn.memory))
    × AreAlike l.fn.memory l.memory
