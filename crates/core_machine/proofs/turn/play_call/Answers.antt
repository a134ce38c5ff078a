use Rattle.std.proofs.Common.{Some, ap, ◌∙◌, arith}
use Rattle.std.specs.Option.{option_copied}
use Rattle.core_machine.proofs.Verdicts.{created_at, plan_length, judged_at}
use Rattle.core_machine.proofs.turn.play_call.Goals as goal

pub verdict-requires-clause-last : goal.verdict-requires-clause-last
verdict-requires-clause-last c = omega (arith, c.requires.last, plan_length c.args.log.now.frames c.args.plan.now c.requires.plan)

pub play-requires-clause-judged : goal.play-requires-clause-judged
play-requires-clause-judged c =
    judged_at c.args.log.now.frames c.args.plan.now c.args.n c.refusal.result c.requires.plan c.requires.first c.requires.last (ap Some c.refusal.ensures ∙ c.verdict.ensures)

pub shader-requires-clause-last : goal.shader-requires-clause-last
shader-requires-clause-last c = omega (arith, c.requires.last, plan_length c.args.log.now.frames c.args.plan.now c.requires.plan)

pub play-requires-clause-shader : goal.play-requires-clause-shader
play-requires-clause-shader c =
    created_at c.args.log.now.frames c.args.plan.now c.args.n c.refusal.result (option_copied c.shader.result) c.requires.plan c.requires.first c.requires.last
    (judged_at c.args.log.now.frames c.args.plan.now c.args.n c.refusal.result c.requires.plan c.requires.first c.requires.last (ap Some c.refusal.ensures ∙ c.verdict.ensures))
    c.shader.ensures
