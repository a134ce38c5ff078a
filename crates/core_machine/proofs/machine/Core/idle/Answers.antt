use Rattle.std.proofs.Common.{subst}
use Rattle.core_machine.specs.Machine.{IsFront}
use Rattle.core_machine.proofs.Advance.{front_at}
use Rattle.core_machine.proofs.machine.Core.idle.Goals as goal

pub returns-clause-front : goal.returns-clause-front
returns-clause-front c = subst IsFront c.self.view_is (front_at c.self.inside.log.now.frames c.self.inside.taken c.self.inside.flight c.self.inside.ended c.self.invariant.within c.self.invariant.full)
