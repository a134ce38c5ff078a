use Rattle.std.proofs.Common.{sym, ap, drop, ◌∙◌}
use Rattle.std.proofs.lemmas.Result.{err_from_is_err_and}
use Rattle.vk_trace.proofs.Results.{when_bad}
use Rattle.vk_trace.proofs.Ops.{tail_no_slot}
use Rattle.vk_trace.proofs.Works.{same_work}
use Rattle.vk_trace.proofs.read.command.Goals as goal

pub returns-in_err-work-clause-bad : goal.returns-in_err-work-clause-bad
returns-in_err-work-clause-bad c =
    let e = err_from_is_err_and c.from_residual.result c.from_residual.ensures.1 in
    rw (e.1, e.2) (
    when_bad c.in_err-work.field-0.0 _ _
    (λ none d listed cond fits named is. none d.work _ listed fits.work named (tail_no_slot d.cond d.call) (ap (drop 1) (sym c.in-Some.ensures.1 ∙ is)))
    c.in_err-work.ensures.bad)

pub returns-in_default-tail-clause-bad : goal.returns-in_default-tail-clause-bad
returns-in_default-tail-clause-bad c =
    λ d listed cond fits named is.
    let found = c.in_ok-work.ensures.found in
    c.in_default-tail.ensures (d.cond, d.call) (record { listed = cond; fits = fits.cond; call = fits.call })
    (same_work c.in_ok-work.work d.work _ _ found.listed found.fits listed fits.work (named ∙ sym found.named) (λ e. found.ended (sym found.named ∙ e)) (tail_no_slot d.cond d.call)
    (sym found.spelled ∙ ap (drop 1) (sym c.in-Some.ensures.1 ∙ is))).1
