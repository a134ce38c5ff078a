use Rattle.std.proofs.Common.{◌+◌, ◌≤◌, length, sym, subst, ◌∙◌, refl, arith}
use Rattle.d3d_model.specs.D3dState.{Memory, Objects, calls_of_list}
use Rattle.d3d_memory.specs.Limits.{HasRoom, InLimits}
use Rattle.d3d_memory.proofs.Bounded.{log_has_room, log_in_limits}
use Rattle.d3d_plan.proofs.Records.{numbered}
use Rattle.call_log.specs.Call.{Issued}
use Rattle.call_log.specs.View.{call_view, frame_view}
use Rattle.call_log.specs.Grammar.{calls_of}
use Rattle.call_log.specs.Body.{call_of}
use Rattle.d3d_model.proofs.Calls.{call_none, call_some}
use Rattle.d3d_model.specs.InOrder.{before_call}
use Rattle.d3d_state.specs.Meaning.{objects_of}
use Rattle.d3d_effects.specs.Slots.{AllFit}
use Rattle.d3d_effects.proofs.Fits.{before_fit}
use Rattle.d3d_ref.proofs.Steps as steps
use Rattle.d3d_ref.proofs.machine.Machine.play.Goals as goal

pub returns-in-None-clause-reply : goal.returns-in-None-clause-reply
returns-in-None-clause-reply c = steps.no_reply (calls_of c.args.log.now.frames) c.args.n (call_none c.args.log.now.frames c.args.n c.in-None.ensures.record)

pub returns-in-None-clause-stands : goal.returns-in-None-clause-stands
returns-in-None-clause-stands c =
    steps.stands_none (calls_of c.args.log.now.frames) c.args.n (objects_of c.args.self.now.objects) c.args.self.now.memory (call_none c.args.log.now.frames c.args.n c.in-None.ensures.record) c.requires.stands

pub returns-in-Some-refusal-clause-reply : goal.returns-in-Some-refusal-clause-reply
returns-in-Some-refusal-clause-reply c =
    let f = frame_view c.in-Some.item in
    let i : Issued = record { context = f.context; call = call_of f.kind f.body } in
    let there = call_some c.args.log.now.frames c.args.n f (call_of f.kind f.body) c.in-Some.ensures.record refl in
    steps.reply_refused (calls_of c.args.log.now.frames) c.args.n i c.in-Some-refusal.why there (sym c.in-Some-refusal.is ∙ c.requires.judged.verdict i there)

pub returns-in-Some-refusal-clause-stands : goal.returns-in-Some-refusal-clause-stands
returns-in-Some-refusal-clause-stands c =
    let f = frame_view c.in-Some.item in
    let i : Issued = record { context = f.context; call = call_of f.kind f.body } in
    let there = call_some c.args.log.now.frames c.args.n f (call_of f.kind f.body) c.in-Some.ensures.record refl in
    steps.stands_refused (calls_of c.args.log.now.frames) c.args.n i c.in-Some-refusal.why (objects_of c.args.self.now.objects) c.args.self.now.memory there
    (sym c.in-Some-refusal.is ∙ c.requires.judged.verdict i there) c.requires.stands

pub execute-requires-clause-accepted : goal.execute-requires-clause-accepted
execute-requires-clause-accepted c =
    let f = frame_view c.in-Some.item in
    let i : Issued = record { context = f.context; call = call_view c.call.result } in
    let there = call_some c.args.log.now.frames c.args.n f (call_view c.call.result) c.in-Some.ensures.record c.call.ensures in
    steps.is_accepted (before_call (calls_of c.args.log.now.frames) c.args.n) i (objects_of c.args.self.now.objects) c.args.self.now.memory c.requires.stands
    (c.requires.judged.no_draw i there) (sym c.in-None-refusal.is ∙ c.requires.judged.verdict i there)

pub returns-in_ok-reply-in-None-refusal-clause-reply : goal.returns-in_ok-reply-in-None-refusal-clause-reply
returns-in_ok-reply-in-None-refusal-clause-reply c =
    let f = frame_view c.in-Some.item in
    let i : Issued = record { context = f.context; call = call_view c.call.result } in
    let there = call_some c.args.log.now.frames c.args.n f (call_view c.call.result) c.in-Some.ensures.record c.call.ensures in
    steps.reply_accepted (calls_of c.args.log.now.frames) c.args.n i (objects_of c.args.self.now.objects) c.args.self.now.memory c.in_ok-reply-in-None-refusal.reply there
    (sym c.in-None-refusal.is ∙ c.requires.judged.verdict i there) c.requires.stands c.in_ok-reply-in-None-refusal.ensures.reply

pub returns-in_ok-reply-in-None-refusal-clause-stands : goal.returns-in_ok-reply-in-None-refusal-clause-stands
returns-in_ok-reply-in-None-refusal-clause-stands c =
    let f = frame_view c.in-Some.item in
    let i : Issued = record { context = f.context; call = call_view c.call.result } in
    let there = call_some c.args.log.now.frames c.args.n f (call_view c.call.result) c.in-Some.ensures.record c.call.ensures in
    steps.stands_accepted (calls_of c.args.log.now.frames) c.args.n i (objects_of c.args.self.now.objects) (objects_of c.execute.new.self.objects) c.args.self.now.memory c.execute.new.self.memory there
    (sym c.in-None-refusal.is ∙ c.requires.judged.verdict i there) c.requires.stands
    c.in_ok-reply-in-None-refusal.ensures.objects c.in_ok-reply-in-None-refusal.ensures.memory

pub execute-requires-clause-limits : goal.execute-requires-clause-limits
execute-requires-clause-limits c =
    let log = c.args.log.now in
    let within : c.args.n ≤ length log.frames + 1 = omega (arith, numbered log.frames c.args.n (frame_view c.in-Some.item) (sym c.in-Some.ensures.record)) in
    subst (λ (m : Memory). InLimits m) (sym c.requires.stands.memory) (log_in_limits log.bytes log.frames c.args.n c.count-count.ensures.log c.count-count.ensures.small within)

pub execute-requires-clause-shader : goal.execute-requires-clause-shader
execute-requires-clause-shader c =
    let f = frame_view c.in-Some.item in
    let i : Issued = record { context = f.context; call = call_view c.call.result } in
    let there = call_some c.args.log.now.frames c.args.n f (call_view c.call.result) c.in-Some.ensures.record c.call.ensures in
    c.requires.shader i there c.in-None-refusal.is

pub execute-requires-clause-room : goal.execute-requires-clause-room
execute-requires-clause-room c = λ list.
    let log = c.args.log.now in
    let within : c.args.n ≤ length log.frames + 1 = omega (arith, numbered log.frames c.args.n (frame_view c.in-Some.item) (sym c.in-Some.ensures.record)) in
    subst (λ (m : Memory). HasRoom m (length (calls_of_list (objects_of c.args.self.now.objects) list))) (sym c.requires.stands.memory)
    (subst (λ (o : Objects). HasRoom (before_call (calls_of log.frames) c.args.n).memory (length (calls_of_list o list))) (sym c.requires.stands.objects)
    (log_has_room log.bytes log.frames c.args.n c.count-count.ensures.log c.count-count.ensures.small within list))

pub execute-requires-clause-fit : goal.execute-requires-clause-fit
execute-requires-clause-fit c = λ list.
    subst (λ (o : Objects). AllFit (calls_of_list o list)) (sym c.requires.stands.objects) (before_fit (calls_of c.args.log.now.frames) c.args.n list)
