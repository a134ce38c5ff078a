use Rattle.std.proofs.Common.{◌≡◌, drop}
use Rattle.device_memory.specs.Binding.{returned}
use Rattle.device_memory.proofs.memory.DeviceMemory.return_parts.Given as goal

abbrev pub invariant-slots : goal.invariant-slots
invariant-slots l = returned (drop l.s-index l.slots) l.parts l.self ≡ returned l.slots l.initial.parts l.initial.self
