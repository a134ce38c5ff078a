use Rattle.vk_trace.proofs.Written.{stages_written}
use Rattle.vk_trace.proofs.write.push_stages.Goals as goal

pub returns : goal.returns
returns c =
    stages_written c.args.mask.now _ _ _ _ _ _ _ _ c.in_ok-mark.ensures.0 c.in_ok-mark.ensures.1 c.in_ok-mark-2.ensures.0 c.in_ok-mark-2.ensures.1 c.in_ok-mark-3.ensures.0 c.in_ok-mark-3.ensures.1 c.in_ok-push_part.ensures.0
