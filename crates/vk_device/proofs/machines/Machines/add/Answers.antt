use Rattle.std.proofs.Common.{sym, subst}
use Rattle.std.specs.List.{AllByRecursion}
use Rattle.vk_device.specs.Modules.{HasOutcome, Modules}
use Rattle.vk_device.proofs.Kept.{all_defined}
use Rattle.vk_device.proofs.machines.Machines.add.Goals as goal

pub invariant_of-self-2 : goal.invariant_of-self-2
invariant_of-self-2 c =
    subst (λ (l : Modules). AllByRecursion HasOutcome l) (sym c.in_ok-insert.ensures.entries)
    (all_defined c.self.inside.machines.entries c.args.shader c.args.machine c.self.invariant c.requires)
