use Rattle.std.proofs.Common.{sym, ◌∙◌}
use Rattle.device_memory.specs.Held.{memory_of}
use Rattle.device_memory.proofs.Commands.{ran_dispatch}
use Rattle.device_memory.proofs.memory.DeviceMemory.dispatch.Goals as goal

pub returns-clause-memory : goal.returns-clause-memory
returns-clause-memory c =
    ran_dispatch c.args.c.now (memory_of c.args.self.now) (memory_of c.dispatch_groups.new.self) c.args.machine.now c.in-Dispatch.shader c.in-Dispatch.groups c.in-Dispatch.slots
    c.as_slice.result.now c.in-Dispatch.is (sym c.is_skipped.ensures ∙ c.if-is_skipped.false) c.as_slice.ensures c.dispatch_groups.ensures.memory
