use Rattle.std.proofs.Common.{sym, subst}
use Rattle.std.specs.List.{AllByRecursion}
use Rattle.device_memory.specs.Held.{Held, IsNumbered}
use Rattle.device_memory.proofs.Exchanges.{under}
use Rattle.device_memory.proofs.Moves.{numbered_removed}
use Rattle.device_memory.proofs.memory.DeviceMemory.take.Goals as goal

pub invariant_of-self : goal.invariant_of-self
invariant_of-self c =
    subst (λ (l : Held). AllByRecursion IsNumbered l) (sym c.remove.ensures.entries) (numbered_removed (under c.args.number) c.self.inside.blocks.entries c.self.invariant)
