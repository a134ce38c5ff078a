use Rattle.std.proofs.Common.{sym, ap, drop, ◌∙◌}
use Rattle.vk_trace.specs.ListText.{barrier_words}
use Rattle.vk_trace.specs.Reading.{IsBarrier}
use Rattle.vk_trace.proofs.Ops.{none_ends}
use Rattle.vk_trace.proofs.read.barrier.Goals as goal

pub returns-in_err-source : goal.returns-in_err-source
returns-in_err-source c = none_ends IsBarrier barrier_words _ _ c.from_residual.ensures (λ b good e. c.in_err-source.ensures b.source _ good.source e)

pub returns-in_err-dest : goal.returns-in_err-dest
returns-in_err-dest c = none_ends IsBarrier barrier_words _ _ c.from_residual-in_err-dest.ensures (λ b good e. c.in_err-dest.ensures b.dest _ good.dest (ap (drop 1) (sym c.in_ok-source.ensures.1 ∙ e)))

pub returns-in_err-key : goal.returns-in_err-key
returns-in_err-key c =
    none_ends IsBarrier barrier_words _ _ c.from_residual-in_err-key.ensures (λ b good e. c.in_err-key.ensures _ (ap (drop 1) (sym c.in_ok-dest.ensures.1 ∙ ap (drop 1) (sym c.in_ok-source.ensures.1 ∙ e))))

pub returns-in_err-first : goal.returns-in_err-first
returns-in_err-first c =
    none_ends IsBarrier barrier_words _ _ c.from_residual-in_err-first.ensures
    (λ b good e. c.in_err-first.ensures b.first _ good.first (ap (drop 1) (sym c.in_ok-key.ensures ∙ ap (drop 1) (sym c.in_ok-dest.ensures.1 ∙ ap (drop 1) (sym c.in_ok-source.ensures.1 ∙ e)))))

pub returns-in_err-second : goal.returns-in_err-second
returns-in_err-second c =
    none_ends IsBarrier barrier_words _ _ c.from_residual-in_err-second.ensures
    (λ b good e.
    c.in_err-second.ensures b.second _ good.second
    (ap (drop 1) (sym c.in_ok-first.ensures.1 ∙ ap (drop 1) (sym c.in_ok-key.ensures ∙ ap (drop 1) (sym c.in_ok-dest.ensures.1 ∙ ap (drop 1) (sym c.in_ok-source.ensures.1 ∙ e))))))

pub returns-in_err-end : goal.returns-in_err-end
returns-in_err-end c =
    none_ends IsBarrier barrier_words _ _ c.from_residual-in_err-end.ensures
    (λ b good e.
    c.in_err-end.ensures
    (ap (drop 1) (sym c.in_ok-second.ensures.1 ∙ ap (drop 1) (sym c.in_ok-first.ensures.1 ∙ ap (drop 1) (sym c.in_ok-key.ensures ∙ ap (drop 1) (sym c.in_ok-dest.ensures.1 ∙ ap (drop 1) (sym c.in_ok-source.ensures.1 ∙ e)))))))
