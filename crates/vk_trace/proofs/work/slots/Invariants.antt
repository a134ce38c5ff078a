use Rattle.std.proofs.Common.{length}
use Rattle.vk_trace.proofs.Works.{SoFar}
use Rattle.vk_trace.proofs.work.slots.Given as goal

abbrev pub invariant-slots : goal.invariant-slots
invariant-slots l = SoFar l.fn.words l.words l.slots.items l.least

abbrev pub decreases-slots : goal.decreases-slots
decreases-slots l = length l.words
