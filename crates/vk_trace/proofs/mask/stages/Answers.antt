use Rattle.vk_trace.proofs.Masks.{stages_read}
use Rattle.vk_trace.proofs.mask.stages.Goals as goal

pub returns : goal.returns
returns c = stages_read _ _ _ _ _ _ c.in_ok-part.ensures c.in_ok-part-2.ensures c.in_ok-part-3.ensures c.in_ok-part-4.ensures
