use Rattle.std.proofs.Common.{◌≡◌, sym, ap, ◌∙◌}
use Rattle.vk_trace.specs.ListText.{range_word, size}
use Rattle.vk_trace.proofs.Works.{copy_of}
use Rattle.vk_trace.proofs.Spelled.{same_range}
use Rattle.vk_trace.proofs.work.copy.Goals as goal

pub returns-then-size : goal.returns-then-size
returns-then-size c =
    λ w more l f n s e.
    let p = copy_of w _ more l f n e in
    let a = c.in_ok-key.ensures in
    let b = c.in_ok-source.ensures.1 in
    let d = c.in_ok-key-2.ensures in
    let g = c.in_ok-target.ensures.1 in
    let h = p.spelled in
    let source : range_word c.in_ok-source.source ≡ range_word p.source = cc in
    let target : range_word c.in_ok-target.target ≡ range_word p.target = cc in
    let one = same_range c.in_ok-source.source p.source c.in_ok-source.ensures.0.fits p.from.fits source in
    let two = same_range c.in_ok-target.target p.target c.in_ok-target.ensures.0.fits p.to.fits target in
    c.if-size.true (c.size.ensures ∙ ap size one ∙ p.same ∙ sym (ap size two) ∙ sym c.size-2.ensures)
