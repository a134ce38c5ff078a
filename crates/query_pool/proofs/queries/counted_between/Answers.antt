use Rattle.query_pool.proofs.Climbing.{between_sums}
use Rattle.query_pool.proofs.queries.counted_between.Goals as goal

pub returns : goal.returns
returns c = (let e = between_sums 0 0 c.args.from c.args.to c.args.sums.now c.requires in cc e)
