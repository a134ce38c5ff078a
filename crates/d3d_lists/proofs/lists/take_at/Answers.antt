use Rattle.std.proofs.Common.{[]}
use Rattle.d3d_lists.proofs.Tables.{recorded_in-set}
use Rattle.d3d_lists.proofs.lists.take_at.Goals as goal

pub returns-clause-left : goal.returns-clause-left
returns-clause-left c = recorded_in-set c.args.opened.now c.args.context c.take.new.self [] c.take.ensures.left
