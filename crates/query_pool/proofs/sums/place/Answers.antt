use Rattle.std.proofs.Common.{length, ap, arith}
use Rattle.query_pool.proofs.Climbing.{below_length}
use Rattle.query_pool.proofs.sums.place.Goals as goal

pub sum_at-upto-requires : goal.sum_at-upto-requires
sum_at-upto-requires c =
    let le = below_length c.args.command c.args.sums.now.items in let at = c.requires in
    omega (arith, le, at, ap length c.deref-2.ensures.value)

pub insert-requires : goal.insert-requires
insert-requires c =
    let le = below_length c.args.command c.args.sums.now.items in let at = c.requires in let len = c.args.sums.now.ok.0 in
    omega (arith, le, at, len)
