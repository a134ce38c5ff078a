use Rattle.device_memory.specs.Ranges.{AreApart}
use Rattle.vk_device.proofs.Checks.{AllOn}
use Rattle.vk_device.proofs.check.is_apart_from.Given as goal

abbrev pub invariant-each : goal.invariant-each
invariant-each l = AllOn (AreApart l.s) l.others l.t-index
