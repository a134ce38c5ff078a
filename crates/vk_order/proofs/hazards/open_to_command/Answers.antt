use Rattle.std.proofs.Common.{◌<◌, ◌≤◌, length, arith}
use Rattle.vk_order.proofs.Served.{served_pair}
use Rattle.vk_order.proofs.hazards.open_to_command.Goals as goal

pub open_far-requires-clause-served : goal.open_far-requires-clause-served
open_far-requires-clause-served c y from below is =
    let ops = c.args.ops.now in let served = c.served_at.result in
    let reached : served ≤ y = omega (arith, c.min-served.ensures, from, below) in
    let there : served < length ops = omega (arith, reached, below, c.requires.within) in
    served_pair ops c.args.x served y c.args.c.now c.requires.there c.served_at.ensures.behind reached (c.served_at.ensures.serves there) is
