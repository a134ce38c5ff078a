use Rattle.std.proofs.Common.{arith}
use Rattle.command_queue.proofs.Passing.{holds_begin, holds_more, holds_all}
use Rattle.command_queue.proofs.scan.hold.Goals as goal

pub sets-init : goal.sets-init
sets-init c = holds_begin c.args.m.now c.args.held.now c.requires

pub sets-preserved : goal.sets-preserved
sets-preserved c =
    holds_more c.args.m.now c.args.held.now c.sets.set c.sets.held c.hold_at.new.held (omega arith) c.hold_at.ensures c.sets.invariant

pub returns-clause-wide : goal.returns-clause-wide
returns-clause-wide c = c.sets.invariant.wide

pub returns-clause-held : goal.returns-clause-held
returns-clause-held c = holds_all c.args.m.now c.args.held.now c.sets.set c.sets.held (omega arith) c.sets.invariant
