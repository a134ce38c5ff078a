use Rattle.std.proofs.Common.{◌≤◌, ℕ, List, length, sym, ap, subst, ◌∙◌}
use Rattle.std.specs.Prelude.{Err, IfErr}
use Rattle.call_log.specs.Grammar.{calls_of}
use Rattle.d3d_plan.specs.Ends.{EndsAt, IsPlayable}
use Rattle.histogram_log.specs.Histogram.{histogram}
use Rattle.histogram_log.proofs.Calls.{histogram_spelt}
use Rattle.histogram_log.proofs.Logs.{calls_back}
use Rattle.player.specs.Generated.{read_back}
use Rattle.player.proofs.LastCall.{short_last}
use Rattle.player.proofs.Playable.{playable, not_unsupported}
use Rattle.player.proofs.generate.last_sum.Goals as goal

pub sum_of_words-requires : goal.sum_of_words-requires
sum_of_words-requires c =
    let n = c.args.rounds in
    subst (λ (l : List ℕ). length l ≤ 1024) (sym (c.read_back.ensures ∙ ap read_back c.in_ok-reply-in-Ok.ensures))
    (short_last n (calls_of c.args.log.now.frames)
    (ap calls_of c.requires ∙ calls_back (histogram n) (histogram_spelt n)))

pub unreachable-requires : goal.unreachable-requires
unreachable-requires c =
    not_unsupported c.args.log.now.frames _ _ (subst IsPlayable (sym c.requires) (playable c.args.rounds))
    (subst (λ r. IfErr r (λ e. EndsAt c.args.log.now.frames e))
    (c.in-Err-Unsupported.is ∙ ap Err c.in-Err-Unsupported.field-0-is) c.make_plan.ensures.ends)
