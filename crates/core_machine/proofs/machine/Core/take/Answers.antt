use Rattle.std.proofs.Common.{◌+◌, subst, sym, ◌∙◌, arith}
use Rattle.std.proofs.lemmas.List.{length-map}
use Rattle.call_log.specs.Grammar.{issued, calls_of}
use Rattle.core_machine.specs.declared.events.Flight.TheVariants.{Waiting}
use Rattle.core_machine.specs.Machine.{Progress, IsFront}
use Rattle.core_machine.proofs.Advance.{progress, Takes, Says, takes_command, takes_silent, says, front_at, ended_open}
use Rattle.core_machine.proofs.machine.Core.take.Goals as goal

pub returns-then-self-clause-front : goal.returns-then-self-clause-front
returns-then-self-clause-front c = subst IsFront c.self.view_is (front_at c.self.inside.log.now.frames c.self.inside.taken c.self.inside.flight c.self.inside.ended c.self.invariant.within c.self.invariant.full)

pub returns-then-makes_command-clause-moves : goal.returns-then-makes_command-clause-moves
returns-then-makes_command-clause-moves c =
    let s = c.self.inside in
    let log = calls_of s.log.now.frames in
    subst (λ (p : Progress). Takes p (progress log (s.taken + 1) Waiting s.ended)) c.self.view_is
    (takes_command log s.taken s.flight s.ended c.if-self.false (sym c.if-not-is_empty.ensures) (omega (arith, length-map s.log.now.frames issued)) c.if-makes_command.ensures)

pub returns-then-makes_command-clause-front : goal.returns-then-makes_command-clause-front
returns-then-makes_command-clause-front c =
    front_at c.self.inside.log.now.frames (c.self.inside.taken + 1) Waiting c.self.inside.ended (omega arith) (λ e. absurd (ended_open _ c.if-self.false e))

pub returns-in-Err-clause-front : goal.returns-in-Err-clause-front
returns-in-Err-clause-front c = front_at c.self.inside.log.now.frames c.self.inside.taken c.self.inside.flight c.self.inside.ended c.self.invariant.within c.self.invariant.full

pub returns-in-Ok-None-clause-moves : goal.returns-in-Ok-None-clause-moves
returns-in-Ok-None-clause-moves c =
    let s = c.self.inside in
    let log = calls_of s.log.now.frames in
    subst (λ (p : Progress). Takes p (progress log (s.taken + 1) s.flight s.ended)) c.self.view_is
    (takes_silent log s.taken s.flight s.ended c.if-self.false (sym c.if-not-is_empty.ensures) (omega (arith, length-map s.log.now.frames issued)) c.if-makes_command.ensures (sym c.in-Ok-None.field-0-is ∙ c.in-Ok-None.ensures.reply))

pub returns-in-Ok-None-clause-front : goal.returns-in-Ok-None-clause-front
returns-in-Ok-None-clause-front c =
    front_at c.self.inside.log.now.frames (c.self.inside.taken + 1) c.self.inside.flight c.self.inside.ended (omega arith) (λ e. absurd (ended_open _ c.if-self.false e))

pub returns-in-Ok-Some-clause-moves : goal.returns-in-Ok-Some-clause-moves
returns-in-Ok-Some-clause-moves c =
    let s = c.self.inside in
    let log = calls_of s.log.now.frames in
    subst (λ (p : Progress). Says p c.in-Ok-Some.reply (progress log (s.taken + 1) s.flight s.ended)) c.self.view_is
    (says log s.taken s.flight s.ended c.in-Ok-Some.reply c.if-self.false (sym c.if-not-is_empty.ensures) (omega (arith, length-map s.log.now.frames issued)) (sym c.in-Ok-Some.field-0-is ∙ c.in-Ok-Some.ensures.reply))

pub returns-in-Ok-Some-clause-front : goal.returns-in-Ok-Some-clause-front
returns-in-Ok-Some-clause-front c =
    front_at c.self.inside.log.now.frames (c.self.inside.taken + 1) c.self.inside.flight c.self.inside.ended (omega arith) (λ e. absurd (ended_open _ c.if-self.false e))
