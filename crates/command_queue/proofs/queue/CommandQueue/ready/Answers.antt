use Rattle.std.proofs.Common.{◌≡◌, ◌<◌, ◌++◌, ◌∷◌, [], List, length, take, get_or, ap, sym, subst, ◌∙◌, arith}
use Rattle.std.proofs.lemmas.List.{get_or_read, take_more}
use Rattle.command_queue.specs.declared.queue.Listed.{Listed}
use Rattle.command_queue.specs.Readiness.{is_ready}
use Rattle.command_queue.specs.StageSets.{Stands}
use Rattle.command_queue.proofs.Flags.{stands_none}
use Rattle.command_queue.proofs.Ready.{no_step, passes_first, pass_ready, pass_other}
use Rattle.command_queue.proofs.queue.CommandQueue.ready.Goals as goal
use Rattle.command_queue.proofs.queue.CommandQueue.ready.Goals.{then-pass+else-behind-eq0, else-pass}

pub steps-init : goal.steps-init
steps-init c =
    let xs = c.self.inside.steps.items in (
      stands_none (take c.self.inside.first xs) c.new-before.result.waiting c.new-before.result.held c.self.invariant.1 c.new-before.ensures,
      passes_first xs c.args.j c.self.inside.first c.self.invariant.1,
    )

pub steps-preserved : goal.steps-preserved
steps-preserved c =
    let xs = c.self.inside.steps.items in
    let at = c.steps.at in
    let lt : at < length xs = omega (arith, c.len-len.ensures, c.self.inside.steps.ok.0) in
    let is : c.index.result.now ≡ get_or xs at no_step = get_or_read xs at c.index.result.now lt c.index.ensures no_step in
    let seen = subst (λ (l : List Listed). Stands l c.pass.new.self.waiting c.pass.new.self.held) (ap (λ (s : Listed). take at xs ++ s ∷ []) is ∙ sym (take_more xs at no_step lt))
    (c.pass.ensures.stands (take at xs) c.steps.invariant.0) in
    let ready : c.pass.result ≡ is_ready (take at xs) (get_or xs at no_step) = c.pass.ensures.ready (take at xs) c.steps.invariant.0 ∙ ap (is_ready (take at xs)) is in
    elim c.if-pass.branch [
      | then-pass+else-behind-eq0 w ↦
          rw w.behind-is (seen, pass_ready xs c.args.j at c.steps.behind no_step lt c.steps.invariant.1 (sym ready ∙ w.if-pass.true) w.if-behind-eq0.false)
      | else-pass w ↦ rw w.behind-is (seen, pass_other xs c.args.j at c.steps.behind no_step lt c.steps.invariant.1 (sym ready ∙ w.if-pass.false))
    ]
