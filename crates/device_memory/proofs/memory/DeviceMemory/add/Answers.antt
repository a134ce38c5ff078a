use Rattle.std.proofs.Common.{sym, subst}
use Rattle.std.specs.List.{AllByRecursion}
use Rattle.device_memory.specs.Held.{Held, IsNumbered}
use Rattle.device_memory.proofs.Moves.{numbered_inserted}
use Rattle.device_memory.proofs.memory.DeviceMemory.add.Goals as goal

pub invariant_of-self-2 : goal.invariant_of-self-2
invariant_of-self-2 c =
    subst (λ (l : Held). AllByRecursion IsNumbered l) (sym c.in_ok-insert.ensures.entries) (numbered_inserted c.args.block c.self.inside.blocks.entries c.self.invariant)
