use Rattle.std.proofs.Common.{arith}
use Rattle.query_pool.proofs.Climbing.{below_length}
use Rattle.query_pool.proofs.sums.sum_below.Goals as goal

pub sum_at-requires : goal.sum_at-requires
sum_at-requires c = (let le = below_length c.args.command c.args.sums.now in let is = c.below-count.ensures in omega (arith, le, is))
