use Rattle.vk_trace.proofs.Results.{on_ok}
use Rattle.vk_trace.proofs.Written.{barrier_written}
use Rattle.vk_trace.proofs.write.push_barrier.Goals as goal

pub returns : goal.returns
returns c =
    on_ok c.push_cause.result _ _ (λ e. barrier_written c.args.barrier.now _ _ _ _ _ c.in_ok-push_str.ensures.bytes c.in_ok-push_mask.ensures c.in_ok-push_mask-2.ensures e) c.push_cause.ensures
