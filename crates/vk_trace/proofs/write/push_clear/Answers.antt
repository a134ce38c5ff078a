use Rattle.vk_trace.proofs.Results.{on_ok}
use Rattle.vk_trace.proofs.Written.{rest_step}
use Rattle.vk_trace.proofs.write.push_clear.Goals as goal

pub returns : goal.returns
returns c = on_ok c.push_unit.result _ _ (λ e. rest_step _ _ _ _ _ c.in_ok-push_memory.ensures e) c.push_unit.ensures
