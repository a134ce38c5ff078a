use Rattle.std.proofs.Common.{◌≡◌, Bool, List, length, take, ◌&&◌, ap, sym, ◌∙◌, arith}
use Rattle.std.specs.Prelude.{nat_lt}
use Rattle.std.specs.List.{list_any}
use Rattle.std.proofs.lemmas.Bool.{lt-ltb, le-ltb}
use Rattle.command_queue.specs.declared.queue.Listed.{Listed}
use Rattle.command_queue.specs.Readiness.{is_left}
use Rattle.command_queue.proofs.Ready.{any_upto}
use Rattle.command_queue.proofs.queue.CommandQueue.has_left.Goals as goal

pub returns-then-first-count : goal.returns-then-first-count
returns-then-first-count c =
    let xs = c.self.inside.steps.items in
    let first = c.first_left-first.result in
    let long : c.len.result ≡ length xs = omega (arith, c.len.ensures, c.self.inside.steps.ok.0) in
    ap (nat_lt first) long ∙ sym (ap (λ (v : Bool). v && nat_lt first (length xs)) (lt-ltb first c.args.count c.if-first-count.true))
    ∙ any_upto xs first c.args.count c.first_left-first.ensures.none c.first_left-first.ensures.left ∙ ap (λ (l : List Listed). list_any is_left (take c.args.count l)) c.self.view_is

pub returns-else-first-count : goal.returns-else-first-count
returns-else-first-count c =
    let xs = c.self.inside.steps.items in
    let first = c.first_left-first.result in
    le-ltb first c.args.count c.if-first-count.false ∙ sym (ap (λ (v : Bool). v && nat_lt first (length xs)) (le-ltb first c.args.count c.if-first-count.false))
    ∙ any_upto xs first c.args.count c.first_left-first.ensures.none c.first_left-first.ensures.left ∙ ap (λ (l : List Listed). list_any is_left (take c.args.count l)) c.self.view_is
