use Rattle.std.proofs.Common.{drop}
use Rattle.device_memory.proofs.Steps.{TakesOn}
use Rattle.device_memory.proofs.memory.DeviceMemory.take_parts.Given as goal

abbrev pub invariant-slots : goal.invariant-slots
invariant-slots l = TakesOn l.initial.self l.initial.bound l.slots (drop l.s-index l.slots) l.self l.bound
