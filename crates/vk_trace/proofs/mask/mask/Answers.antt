use Rattle.vk_trace.specs.ListText.{IsMask, listed, mask_word}
use Rattle.vk_trace.proofs.Masks.{all_bad, all_is, listed_accesses, mask_read}
use Rattle.vk_trace.proofs.Spelled.{none_read}
use Rattle.vk_trace.proofs.mask.mask.Goals as goal

pub returns-in_err-all : goal.returns-in_err-all
returns-in_err-all c = none_read IsMask mask_word _ _ c.from_residual.ensures (λ m good e. all_bad m _ _ c.new-parts.ensures c.in_err-all.ensures good e)

pub returns-in_err-stages : goal.returns-in_err-stages
returns-in_err-stages c =
    none_read IsMask mask_word _ _ c.from_residual-in_err-stages.ensures
    (λ m good e. c.in_err-stages.ensures (listed m) (listed_accesses m good) (all_is m _ _ _ _ c.new-parts.ensures c.in_ok-all.ensures good e).1)

pub returns-in_err-end : goal.returns-in_err-end
returns-in_err-end c =
    none_read IsMask mask_word _ _ c.from_residual-in_err-end.ensures
    (λ m good e. c.in_err-end.ensures (c.in_ok-stages.ensures.2 (listed m) (listed_accesses m good) (all_is m _ _ _ _ c.new-parts.ensures c.in_ok-all.ensures good e).1).1)

pub returns : goal.returns
returns c = mask_read _ _ _ _ _ _ c.whole.result c.new-parts.ensures c.in_ok-all.ensures c.in_ok-stages.ensures c.in_ok-end.ensures c.whole.ensures
