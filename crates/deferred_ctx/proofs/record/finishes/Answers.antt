use Rattle.std.proofs.Common.{◌∙◌, sym, ap, arith}
use Rattle.call_log.specs.View.{frame_view}
use Rattle.d3d_plan.specs.Verdicts.{refusal_of}
use Rattle.deferred_ctx.specs.Lists.{finishes_unless}
use Rattle.deferred_ctx.proofs.Finishing.{as_long, finishing}
use Rattle.deferred_ctx.proofs.record.finishes.Goals as goal

pub verdict-requires-clause-last : goal.verdict-requires-clause-last
verdict-requires-clause-last c = omega (arith, as_long c.args.log.now.frames c.args.plan.now c.requires.plan, c.requires.last)

pub returns : goal.returns
returns c =
    c.finishes_by.ensures ∙ ap (λ k. finishes_unless k (refusal_of c.verdict.result)) c.call.ensures
    ∙ finishing c.args.log.now.frames c.args.plan.now c.args.n (frame_view c.in-Some.item) (refusal_of c.verdict.result) c.requires.plan c.requires.first c.requires.last
    c.in-Some.ensures.record c.verdict.ensures
