use Rattle.std.proofs.Common.{◌≡◌, ◌∙◌, sym, ap, arith, List, ℕ}
use Rattle.std.proofs.lemmas.Result.{IfOk-weaker}
use Rattle.deferred_ctx.specs.Lists.{CommandList}
use Rattle.deferred_ctx.proofs.Finishing.{as_long, calls_are, in_log}
use Rattle.deferred_ctx.proofs.record.record_list.Goals as goal

pub segment-requires-clause-last : goal.segment-requires-clause-last
segment-requires-clause-last c =
    omega (arith, as_long c.args.log.now.frames c.args.plan.now c.requires.plan, (in_log c.args.log.now.frames c.args.n c.requires.finishes).1)

pub returns : goal.returns
returns c =
    IfOk-weaker c.new.result _ _
    (λ list e. e ∙ ap (λ (calls : List ℕ). record { made_by = c.args.n; calls = calls })
    (calls_are c.args.log.now.frames c.args.plan.now c.args.n c.segment.result.now c.requires.plan c.requires.finishes c.segment.ensures))
    c.new.ensures
