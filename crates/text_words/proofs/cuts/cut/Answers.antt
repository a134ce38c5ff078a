use Rattle.std.proofs.Common.{length, arith}
use Rattle.text_words.proofs.Cutting.{cut_at}
use Rattle.text_words.proofs.cuts.cut.Goals as goal

pub returns-in-Some : goal.returns-in-Some
returns-in-Some c =
    let a = c.in-Some.ensures in
    cut_at c.args.stop c.in-Some.at c.args.text.now _ _ c.split_at.ensures.front c.split_at.ensures.back
    (λ k lt inside is. a.0.before k (omega arith) lt is) (λ lt. a.1)

pub returns-in-None : goal.returns-in-None
returns-in-None c =
    let a = c.in-None.ensures in
    cut_at c.args.stop (length c.args.text.now) c.args.text.now _ _ c.split_at-in-None.ensures.front c.split_at-in-None.ensures.back
    (λ k lt inside is. a k (omega arith) lt is) (λ lt. absurd (omega arith))
