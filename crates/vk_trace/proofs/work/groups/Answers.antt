use Rattle.std.proofs.Common.{drop, sym, ap, ◌∙◌}
use Rattle.vk_trace.specs.ListText.{groups_words, size}
use Rattle.vk_trace.specs.Reading.{IsGroups}
use Rattle.vk_trace.proofs.Works.{none_all, groups_at, groups_counts, heads}
use Rattle.vk_trace.proofs.Spelled.{same_range}
use Rattle.vk_trace.proofs.work.groups.Goals as goal

pub returns-in_err-at : goal.returns-in_err-at
returns-in_err-at c = none_all IsGroups groups_words _ _ _ c.from_residual.ensures (λ g more good e. let p = groups_at g _ _ more good c.if-skip.ensures e in c.in_err-at.ensures p.at _ p.good p.spelled)

pub returns-then-size-ne12 : goal.returns-then-size-ne12
returns-then-size-ne12 c =
    λ g more good e.
    let p = groups_at g _ _ more good c.if-skip.ensures e in
    let same = same_range c.in_ok-at.at p.at c.in_ok-at.ensures.0.fits p.good.fits (heads _ _ _ _ (sym c.in_ok-at.ensures.1 ∙ p.spelled)) in
    c.if-size-ne12.true (c.size.ensures ∙ ap size same ∙ p.long)

pub returns-in_err-small : goal.returns-in_err-small
returns-in_err-small c = none_all IsGroups groups_words _ _ _ c.from_residual-in_err-small.ensures (λ g more good e. let p = groups_counts g _ more good c.if-skip.ensures.1 e in c.in_err-small.ensures p.x _ p.small_x (c.if-skip.ensures.0 ∙ p.spelled))

pub returns-in_err-small-2 : goal.returns-in_err-small-2
returns-in_err-small-2 c =
    none_all IsGroups groups_words _ _ _ c.from_residual-in_err-small-2.ensures
    (λ g more good e.
    let p = groups_counts g _ more good c.if-skip.ensures.1 e in
    c.in_err-small-2.ensures p.y _ p.small_y (ap (drop 1) (sym c.in_ok-small.ensures.1 ∙ c.if-skip.ensures.0 ∙ p.spelled)))

pub returns-in_err-small-3 : goal.returns-in_err-small-3
returns-in_err-small-3 c =
    none_all IsGroups groups_words _ _ _ c.from_residual-in_err-small-3.ensures
    (λ g more good e.
    let p = groups_counts g _ more good c.if-skip.ensures.1 e in
    c.in_err-small-3.ensures p.z _ p.small_z (ap (drop 1) (sym c.in_ok-small-2.ensures.1 ∙ ap (drop 1) (sym c.in_ok-small.ensures.1 ∙ c.if-skip.ensures.0 ∙ p.spelled))))
