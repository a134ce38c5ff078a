use Rattle.std.proofs.Common.{arith}
use Rattle.d3d_lists.proofs.Tables.{length-calls_in}
use Rattle.d3d_lists.proofs.opened.OpenList.count.Goals as goal

pub returns : goal.returns
returns c = grind (arith, length-calls_in)
