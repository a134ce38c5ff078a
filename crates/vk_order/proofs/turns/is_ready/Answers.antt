use Rattle.std.proofs.Common.{◌≤◌, arith}
use Rattle.std.proofs.lemmas.Bool.{leb-true}
use Rattle.vk_order.proofs.turns.is_ready.Goals as goal

pub returns-in-Some : goal.returns-in-Some
returns-in-Some c = λ e.
    let k = c.in-Some.ensures in
    let a = k.ready in
    let b : c.in-Some.ready ≤ c.args.rank = leb-true c.in-Some.ready c.args.rank e in
    record { number = k.number; row = k.row; there = k.there; same = k.same; ready = omega (arith, a, b) }
