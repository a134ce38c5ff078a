use Rattle.std.proofs.Common.{sym, ap, drop, ◌∙◌, arith}
use Rattle.vk_trace.specs.Reading.{IsHost, pair_words}
use Rattle.vk_trace.proofs.Ops.{none_ends}
use Rattle.vk_trace.proofs.Spelled.{same_number}
use Rattle.vk_trace.proofs.Works.{heads}
use Rattle.vk_trace.proofs.read.host.Goals as goal

pub returns-in_err-wide : goal.returns-in_err-wide
returns-in_err-wide c =
    none_ends IsHost pair_words _ _ c.from_residual-in_err-wide.ensures (λ h good e. c.in_err-wide.ensures h.0.from _ good.range.fits.from (ap (drop 1) (sym c.in_ok-block.ensures.1 ∙ e)))

pub returns-in_err-wide-2 : goal.returns-in_err-wide-2
returns-in_err-wide-2 c =
    none_ends IsHost pair_words _ _ c.from_residual-in_err-wide-2.ensures
    (λ h good e. c.in_err-wide-2.ensures h.0.to _ good.range.fits.to (ap (drop 1) (sym c.in_ok-wide.ensures.1 ∙ ap (drop 1) (sym c.in_ok-block.ensures.1 ∙ e))))

pub returns-then-range : goal.returns-then-range
returns-then-range c =
    λ h good e.
    let second = sym c.in_ok-wide.ensures.1 ∙ ap (drop 1) (sym c.in_ok-block.ensures.1 ∙ e) in
    let third = sym c.in_ok-wide-2.ensures.1 ∙ ap (drop 1) second in
    let from = same_number _ h.0.from c.in_ok-wide.ensures.0 good.range.fits.from (heads _ _ _ _ second) in
    let to = same_number _ h.0.to c.in_ok-wide-2.ensures.0 good.range.fits.to (heads _ _ _ _ third) in
    let some = good.range.listed in
    absurd (omega arith)
