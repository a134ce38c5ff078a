use Rattle.std.proofs.Common.{Some, None, refl, ◌∙◌, arith}
use Rattle.call_log.specs.Grammar.{calls_of}
use Rattle.call_log.specs.Call.{Issued}
use Rattle.call_log.specs.View.{call_view, frame_view}
use Rattle.call_log.specs.Body.{call_of}
use Rattle.d3d_model.proofs.Calls.{call_none, call_some}
use Rattle.core_machine.proofs.Verdicts.{plan_length, judged_at, no_command, is_command}
use Rattle.core_machine.proofs.commands.makes_command.Goals as goal

pub verdict-requires-clause-last : goal.verdict-requires-clause-last
verdict-requires-clause-last c = omega (arith, c.requires.last, plan_length c.args.log.now.frames c.args.plan.now c.requires.plan)

pub returns-in-None : goal.returns-in-None
returns-in-None c = no_command (calls_of c.args.log.now.frames) c.args.n (call_none c.args.log.now.frames c.args.n c.in-None.ensures.record)

pub returns-in-Refused : goal.returns-in-Refused
returns-in-Refused c =
    let f = frame_view c.in-Some.item in
    let i : Issued = record { context = f.context; call = call_of f.kind f.body } in
    let there = call_some c.args.log.now.frames c.args.n f (call_of f.kind f.body) c.in-Some.ensures.record refl in
    is_command (calls_of c.args.log.now.frames) c.args.n i (Some c.in-Refused.field-0) there
    (judged_at c.args.log.now.frames c.args.plan.now c.args.n (Some c.in-Refused.field-0) c.requires.plan c.requires.first c.requires.last c.in-Refused.ensures)

pub returns-in-Go : goal.returns-in-Go
returns-in-Go c =
    let f = frame_view c.in-Some.item in
    let i : Issued = record { context = f.context; call = call_view c.call.result } in
    let there = call_some c.args.log.now.frames c.args.n f (call_view c.call.result) c.in-Some.ensures.record c.call.ensures in
    c.writes.ensures ∙ is_command (calls_of c.args.log.now.frames) c.args.n i None there
    (judged_at c.args.log.now.frames c.args.plan.now c.args.n None c.requires.plan c.requires.first c.requires.last c.in-Go.ensures)
