use Rattle.std.proofs.Common.{subst}
use Rattle.core_machine.specs.Machine.{IsFront}
use Rattle.core_machine.proofs.Advance.{front_at}
use Rattle.core_machine.proofs.machine.Core.run.Goals as goal
use Rattle.core_machine.specs.declared.events.Flight.TheVariants.{Ran}

pub returns-then-j-ne0-clause-front : goal.returns-then-j-ne0-clause-front
returns-then-j-ne0-clause-front c =
    subst IsFront c.self.view_is (front_at c.self.inside.log.now.frames c.self.inside.taken c.self.inside.flight c.self.inside.ended c.self.invariant.within c.self.invariant.full)

pub returns-in-Ok-clause-front : goal.returns-in-Ok-clause-front
returns-in-Ok-clause-front c = front_at c.self.inside.log.now.frames c.self.inside.taken Ran c.self.inside.ended c.self.invariant.within c.self.invariant.full

pub returns-in-Err-clause-front : goal.returns-in-Err-clause-front
returns-in-Err-clause-front c = front_at c.self.inside.log.now.frames c.self.inside.taken c.self.inside.flight c.self.inside.ended c.self.invariant.within c.self.invariant.full
