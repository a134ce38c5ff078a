use Rattle.device_memory.proofs.Moves.{numbered_ref}
use Rattle.device_memory.proofs.memory.DeviceMemory.block.Goals as goal

pub returns-clause-number : goal.returns-clause-number
returns-clause-number c = numbered_ref c.self.inside.blocks.entries c.args.number c.get.result c.get.ensures.value c.self.invariant
