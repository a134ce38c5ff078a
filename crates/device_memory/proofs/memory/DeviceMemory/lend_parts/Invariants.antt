use Rattle.std.proofs.Common.{◌≡◌, drop}
use Rattle.device_memory.specs.Binding.{lent}
use Rattle.device_memory.proofs.memory.DeviceMemory.lend_parts.Given as goal

abbrev pub invariant-slots : goal.invariant-slots
invariant-slots l = lent l.self (drop l.s-index l.slots) l.bound ≡ lent l.self l.slots l.initial.bound
