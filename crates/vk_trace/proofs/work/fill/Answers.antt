use Rattle.std.proofs.Common.{◌≡◌, ℕ, ◌%◌, ap, ◌∙◌}
use Rattle.vk_trace.specs.ListText.{range_word, size}
use Rattle.vk_trace.proofs.Spelled.{same_range}
use Rattle.vk_trace.proofs.Works.{no_work, fill_of}
use Rattle.vk_trace.proofs.work.fill.Goals as goal

pub returns-in_err-word : goal.returns-in_err-word
returns-in_err-word c = no_work _ _ _ _ c.from_residual.ensures (λ w more l f n s e. let p = fill_of w _ more l f n e in c.in_err-word.ensures p.word _ p.small p.spelled)

pub returns-then-size-ne0 : goal.returns-then-size-ne0
returns-then-size-ne0 c =
    λ w more l f n s e.
    let p = fill_of w _ more l f n e in
    let word = c.in_ok-word.ensures.1 in
    let key = c.in_ok-key.ensures in
    let range = c.in_ok-target.ensures.1 in
    let spelled = p.spelled in
    let target : range_word c.in_ok-target.target ≡ range_word p.target = cc in
    let same = same_range c.in_ok-target.target p.target c.in_ok-target.ensures.0.fits p.to.fits target in
    c.if-size-ne0.true (ap (λ (n : ℕ). n % 4) (c.size.ensures ∙ ap size same) ∙ p.words)
