use Rattle.command_queue.proofs.Passing.{barrier_ready, barrier_stands}
use Rattle.command_queue.proofs.scan.Scan.pass_barrier.Goals as goal

pub returns-clause-ready : goal.returns-clause-ready
returns-clause-ready c = λ front h. barrier_ready front c.args.step.now c.args.barrier.now c.requires.barrier

pub returns-clause-stands : goal.returns-clause-stands
returns-clause-stands c = λ front h.
    barrier_stands front c.args.step.now c.args.barrier.now c.args.self.now.waiting c.args.self.now.held c.see_barrier.new.self.waiting c.see_barrier.new.self.held
    c.requires.barrier c.see_barrier.ensures.waiting c.see_barrier.ensures.wide c.see_barrier.ensures.held h
