use Rattle.std.proofs.Common.{◌≡◌, ◌<◌, List, length, take, ap, ◌∙◌, arith}
use Rattle.std.specs.List.{list_any}
use Rattle.command_queue.specs.declared.queue.Listed.{Listed}
use Rattle.command_queue.specs.Left.{marked}
use Rattle.command_queue.specs.Readiness.{is_left}
use Rattle.command_queue.proofs.Ready.{no_step, marked_set, marked_left, length-marked}
use Rattle.command_queue.proofs.queue.CommandQueue.mark.Goals as goal

pub first_left-self-inside-requires-clause-within : goal.first_left-self-inside-requires-clause-within
first_left-self-inside-requires-clause-within c =
    let xs = c.self.inside.steps.items in
    let lt : c.args.place < length xs = omega (arith, c.requires, ap (λ (l : List Listed). length l) c.self.view_is) in
    let now : c.mark_step.new.steps.items ≡ marked c.args.place xs = c.mark_step.ensures no_step ∙ marked_set xs c.args.place no_step lt in
    omega (arith, c.self.invariant.0, ap (λ (l : List Listed). length l) now, length-marked c.args.place xs)

pub first_left-self-inside-requires-clause-none : goal.first_left-self-inside-requires-clause-none
first_left-self-inside-requires-clause-none c =
    let xs = c.self.inside.steps.items in
    let lt : c.args.place < length xs = omega (arith, c.requires, ap (λ (l : List Listed). length l) c.self.view_is) in
    let now : c.mark_step.new.steps.items ≡ marked c.args.place xs = c.mark_step.ensures no_step ∙ marked_set xs c.args.place no_step lt in
    ap (λ (l : List Listed). list_any is_left (take c.self.inside.first l)) now ∙ marked_left c.args.place c.self.inside.first xs c.self.invariant.1

pub returns : goal.returns
returns c =
    let xs = c.self.inside.steps.items in
    let lt : c.args.place < length xs = omega (arith, c.requires, ap (λ (l : List Listed). length l) c.self.view_is) in
    c.mark_step.ensures no_step ∙ marked_set xs c.args.place no_step lt ∙ ap (marked c.args.place) c.self.view_is
