use Rattle.std.proofs.Common.{drop}
use Rattle.vk_device.proofs.Taking.{MarksOn}
use Rattle.vk_device.proofs.accept.mark_all.Given as goal

abbrev pub invariant-each : goal.invariant-each
invariant-each l = MarksOn l.marks (drop l.mark-index l.marks) l.fn.queries l.queries
