use Rattle.std.proofs.Common.{length}
use Rattle.vk_device.proofs.Giving.{ValuesOn}
use Rattle.vk_device.proofs.complete.take_values.Given as goal

abbrev pub invariant-ends : goal.invariant-ends
invariant-ends l = ValuesOn l.upto l.fn.queries l.queries l.values.items

abbrev pub decreases-ends : goal.decreases-ends
decreases-ends l = length l.queries.ended
