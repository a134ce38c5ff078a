use Rattle.d3d_lists.proofs.Numbers.{cleared_by}
use Rattle.d3d_lists.proofs.counts.Counts.clear.Goals as goal

pub returns : goal.returns
returns c = cleared_by c.args.self.now c.set.new.self c.args.id c.set.ensures
