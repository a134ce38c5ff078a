use Rattle.d3d_lists.proofs.Numbers.{kept_by, raised_by}
use Rattle.std.proofs.Common.{◌+◌}
use Rattle.d3d_lists.proofs.counts.Counts.raise.Goals as goal

pub returns-clause-counts : goal.returns-clause-counts
returns-clause-counts c = raised_by c.args.self.now c.set.new.self c.args.id c.get-count.result c.requires.0 c.get-count.ensures c.set.ensures

pub returns-clause-kept : goal.returns-clause-kept
returns-clause-kept c = kept_by c.args.self.now c.set.new.self c.args.id (c.get-count.result + 1) c.requires.0 c.set.ensures
