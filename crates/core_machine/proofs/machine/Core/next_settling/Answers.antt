use Rattle.std.proofs.Common.{subst}
use Rattle.core_machine.specs.Machine.{IsFront}
use Rattle.core_machine.proofs.Advance.{front_at}
use Rattle.core_machine.proofs.machine.Core.next_settling.Goals as goal

pub returns-in-Ran-clause-front : goal.returns-in-Ran-clause-front
returns-in-Ran-clause-front c = subst IsFront c.self.view_is (front_at c.self.inside.log.now.frames c.self.inside.taken c.self.inside.flight c.self.inside.ended c.self.invariant.within c.self.invariant.full)

pub returns-in-Waiting-clause-front : goal.returns-in-Waiting-clause-front
returns-in-Waiting-clause-front c = subst IsFront c.self.view_is (front_at c.self.inside.log.now.frames c.self.inside.taken c.self.inside.flight c.self.inside.ended c.self.invariant.within c.self.invariant.full)

pub returns-else-self-clause-front : goal.returns-else-self-clause-front
returns-else-self-clause-front c = subst IsFront c.self.view_is (front_at c.self.inside.log.now.frames c.self.inside.taken c.self.inside.flight c.self.inside.ended c.self.invariant.within c.self.invariant.full)
