use Rattle.std.proofs.Common.{ap, ◌∙◌, arith}
use Rattle.call_log.specs.Grammar.{calls_of}
use Rattle.d3d_model.specs.ReplyText.{text, none_pending}
use Rattle.core_machine.specs.Machine.{Progress}
use Rattle.player.proofs.Writing.{begun, written_more, so_far, half_line, unsaid_tells}
use Rattle.player.proofs.run.play.Goals as goal

pub events-init : goal.events-init
events-init g c =
    record {
      later = omega arith;
      log = ap (λ (p : Progress). p.log) c.in-Ok.ensures;
      held = begun (calls_of c.args.log.now.frames) c.in-Ok.core _ c.in-Ok.ensures;
    }

pub returns-in-NoMemory-clause-plays : goal.returns-in-NoMemory-clause-plays
returns-in-NoMemory-clause-plays g c = so_far _ _ c.events.core (calls_of c.args.log.now.frames) c.events.invariant.log c.in-Some.ensures.front c.events.invariant.held

pub events-preserved-in-Ok-say : goal.events-preserved-in-Ok-say
events-preserved-in-Ok-say g c =
    let steps = c.in-Line.ensures.moves.2 in
    record {
      later = omega (arith, c.say.ensures.later, c.events.invariant.later);
      log = steps.log ∙ c.events.invariant.log;
      held = written_more _ _ _ c.events.core c.step.new.self _ c.events.invariant.held c.in-Ok-say.ensures.ok steps.given;
    }

pub events-preserved-in-Ok-say-3 : goal.events-preserved-in-Ok-say-3
events-preserved-in-Ok-say-3 g c =
    let steps = c.in-Line.ensures.moves.2 in
    record {
      later = omega (arith, c.say.ensures.later, c.events.invariant.later);
      log = steps.log ∙ c.events.invariant.log;
      held = written_more _ _ _ c.events.core c.step.new.self _ c.events.invariant.held c.in-Ok-say.ensures.ok steps.given;
    }

pub returns-in-Err-say-clause-plays : goal.returns-in-Err-say-clause-plays
returns-in-Err-say-clause-plays g c =
    let steps = c.in-Line.ensures.moves.2 in
    unsaid_tells _ _ (text (calls_of c.args.log.now.frames) none_pending) _ _ c.status_of.ensures (
    half_line _ _ _ c.events.core c.step.new.self (calls_of c.args.log.now.frames) _ (steps.log ∙ c.events.invariant.log) c.in-Line.ensures.front steps.given c.events.invariant.held c.in-Err-say.ensures.front
    )

pub events-preserved : goal.events-preserved
events-preserved g c =
    let steps = c.in-Ended.ensures.moves.3 in
    record {
      later = omega (arith, c.say-in-Ended.ensures.later, c.events.invariant.later);
      log = steps.log ∙ c.events.invariant.log;
      held = written_more _ _ _ c.events.core c.step.new.self _ c.events.invariant.held c.in-Ok-say-2.ensures.ok steps.given;
    }

pub returns-in-Err-say-2-clause-plays : goal.returns-in-Err-say-2-clause-plays
returns-in-Err-say-2-clause-plays g c =
    let steps = c.in-Ended.ensures.moves.3 in
    unsaid_tells _ _ (text (calls_of c.args.log.now.frames) none_pending) _ _ c.status_of-in-Err-say-2.ensures (
    half_line _ _ _ c.events.core c.step.new.self (calls_of c.args.log.now.frames) _ (steps.log ∙ c.events.invariant.log) c.in-Ended.ensures.front steps.given c.events.invariant.held c.in-Err-say-2.ensures.front
    )
