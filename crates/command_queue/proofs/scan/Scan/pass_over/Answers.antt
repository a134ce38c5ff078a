use Rattle.command_queue.proofs.Passing.{other_ready, other_stands}
use Rattle.command_queue.proofs.scan.Scan.pass_over.Goals as goal

pub returns-clause-ready : goal.returns-clause-ready
returns-clause-ready c = λ front. other_ready front c.args.step.now c.requires.command

pub returns-clause-stands : goal.returns-clause-stands
returns-clause-stands c = λ front h. other_stands front c.args.step.now c.args.self.now.waiting c.args.self.now.held c.requires.command c.requires.barrier h
