use Rattle.device_memory.specs.Ranges.{AreApart}
use Rattle.vk_device.proofs.Checks.{PairsOn}
use Rattle.vk_device.proofs.check.are_apart.Given as goal

abbrev pub invariant-each : goal.invariant-each
invariant-each l = PairsOn AreApart l.slots l.i
