use Rattle.device_memory.specs.Ranges.{CanBind}
use Rattle.vk_device.proofs.Checks.{AllOn}
use Rattle.vk_device.proofs.check.can_bind_all.Given as goal

abbrev pub invariant-each : goal.invariant-each
invariant-each l = AllOn (CanBind l.memory) l.slots l.s-index
