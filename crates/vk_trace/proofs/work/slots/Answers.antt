use Rattle.vk_trace.proofs.Results.{pushed}
use Rattle.vk_trace.proofs.Works.{so_far_bad, so_far_more, so_far_pushed}
use Rattle.vk_trace.proofs.work.slots.Goals as goal

pub returns-in_default-clause-bad : goal.returns-in_default-clause-bad
returns-in_default-clause-bad c = so_far_bad _ _ _ _ c.slots.invariant c.in_default.ensures

pub slots-preserved : goal.slots-preserved
slots-preserved c =
    let next = rw c.in-Some-next.is at c.in-Some.ensures in
    let more = so_far_more _ _ _ _ _ c.in-Some-next.slot c.slots.invariant next in
    so_far_pushed _ _ _ _ _ _ more (pushed _ _ _ _ c.push.ensures.items c.if-is_err.ensures.negation) c.rank-least.ensures.rank
