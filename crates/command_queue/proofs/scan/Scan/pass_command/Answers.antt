use Rattle.std.proofs.Common.{◌∙◌}
use Rattle.command_queue.proofs.Passing.{command_ready, command_stands}
use Rattle.command_queue.proofs.scan.Scan.pass_command.Goals as goal

pub returns-clause-ready : goal.returns-clause-ready
returns-clause-ready c = λ front h.
    c.see_command.ensures.ready ∙ command_ready front c.args.step.now c.args.command.now c.args.self.now.waiting c.args.self.now.held c.requires h

pub returns-clause-stands : goal.returns-clause-stands
returns-clause-stands c = λ front h.
    command_stands front c.args.step.now c.args.command.now c.args.self.now.waiting c.args.self.now.held c.see_command.new.self.waiting c.see_command.new.self.held
    c.requires c.see_command.ensures.waiting c.see_command.ensures.held h
