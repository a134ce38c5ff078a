use Rattle.command_queue.proofs.Ready.{left_popped}
use Rattle.command_queue.proofs.queue.CommandQueue.pop.Goals as goal

pub invariant_of-self-2 : goal.invariant_of-self-2
invariant_of-self-2 c =
    rw (c.pop_front.ensures.rest, c.saturating_sub-self-inside.ensures) (left_popped c.self.inside.steps.items c.self.inside.first c.self.invariant.0 c.self.invariant.1)
