use Rattle.std.proofs.Common.{◌≡◌, ◌<◌, length, List, refl, ap, ◌∙◌, Some, arith}
use Rattle.std.proofs.lemmas.List.{length-map}
use Rattle.std.specs.Option.{option_copied}
use Rattle.call_log.specs.Grammar.{issued, calls_of}
use Rattle.d3d_model.specs.InOrder.{after_calls}
use Rattle.d3d_model.specs.ReplyText.{none_pending, reply_at}
use Rattle.d3d_plan.specs.Planned.{Planned}
use Rattle.d3d_state.specs.Meaning.{objects_of}
use Rattle.d3d_plan.proofs.Entries.{length-plan_of}
use Rattle.d3d_ref.proofs.Judgements.{created, judged, next_stands}
use Rattle.player.proofs.generate.last_reply.Goals as goal

pub calls-init : goal.calls-init
unfolding after_calls
calls-init c =
    record {
      stands = c.in_ok-machine.ensures;
      said = refl;
    }

pub verdict-requires-clause-last : goal.verdict-requires-clause-last
verdict-requires-clause-last c =
    omega (
      arith,
      ap (λ (l : List Planned). length l) c.requires.planned,
      length-plan_of (calls_of c.args.log.now.frames) (length c.args.log.now.frames),
      c.count-i-end.ensures.count,
      c.calls-test.true,
    )

pub shader-requires-clause-last : goal.shader-requires-clause-last
shader-requires-clause-last c =
    omega (
      arith,
      ap (λ (l : List Planned). length l) c.requires.planned,
      length-plan_of (calls_of c.args.log.now.frames) (length c.args.log.now.frames),
      c.count-i-end.ensures.count,
      c.calls-test.true,
    )

pub play-requires-clause-stands : goal.play-requires-clause-stands
play-requires-clause-stands c =
    next_stands (calls_of c.args.log.now.frames) c.calls.i (objects_of c.calls.machine.objects) c.calls.machine.memory
    c.calls.invariant.stands

pub play-requires-clause-judged : goal.play-requires-clause-judged
play-requires-clause-judged c =
    let within : c.calls.i < length c.args.log.now.frames =
    omega (arith, c.count-i-end.ensures.count, c.calls-test.true) in
    judged c.args.log.now.frames c.args.plan.now c.calls.i c.refusal.result c.requires.planned within
    c.requires.playable (ap Some c.refusal.ensures ∙ c.verdict.ensures)

pub play-requires-clause-shader : goal.play-requires-clause-shader
play-requires-clause-shader c =
    let within : c.calls.i < length c.args.log.now.frames =
    omega (arith, c.count-i-end.ensures.count, c.calls-test.true) in
    created c.args.log.now.frames c.args.plan.now c.calls.i c.refusal.result (option_copied c.shader.result)
    c.requires.planned within
    (judged c.args.log.now.frames c.args.plan.now c.calls.i c.refusal.result c.requires.planned within
    c.requires.playable (ap Some c.refusal.ensures ∙ c.verdict.ensures))
    c.shader.ensures

pub returns : goal.returns
returns c =
    let log = calls_of c.args.log.now.frames in
    let ended : c.calls.i ≡ length log =
    omega (
      arith,
      length-map c.args.log.now.frames issued,
      c.count-i-end.ensures.count,
      c.calls-test.false,
      c.calls.auto.i-end,
    ) in
    c.calls.invariant.said ∙ ap (reply_at log none_pending) ended
