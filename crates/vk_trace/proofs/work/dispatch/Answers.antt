use Rattle.std.proofs.Common.{sym, ap, drop, ◌∙◌}
use Rattle.std.proofs.lemmas.Result.{err_from_is_err_and}
use Rattle.vk_trace.proofs.Results.{when_bad}
use Rattle.vk_trace.proofs.Works.{dispatch_of, same_groups}
use Rattle.vk_trace.proofs.work.dispatch.Goals as goal

pub returns-in_err-slots-clause-bad : goal.returns-in_err-slots-clause-bad
returns-in_err-slots-clause-bad c =
    let e = err_from_is_err_and c.from_residual.result c.from_residual.ensures.1 in
    rw (e.1, e.2) (
    when_bad c.in_err-slots.field-0.0 _ _
    (λ none w more l f n s is.
    let p = dispatch_of w _ more l f n is in
    none p.slots more p.slots_good s
    (same_groups c.in-Some-groups.groups p.counts _ _ c.in-Some-groups.ensures.0 p.groups_good (sym c.in-Some-groups.ensures.1 ∙ ap (drop 1) (sym c.in-Some.ensures.1 ∙ p.spelled))).1)
    c.in_err-slots.ensures.bad)
