use Rattle.vk_order.specs.Finish.{FinishesHold}
use Rattle.vk_order.proofs.finish.finish_places.Given as goal

abbrev pub invariant-backward : goal.invariant-backward
invariant-backward l = FinishesHold l.ops l.at l.finishes
