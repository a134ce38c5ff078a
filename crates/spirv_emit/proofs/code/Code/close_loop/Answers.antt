use Rattle.spirv_emit.proofs.Words.Appending.{puts_then}
use Rattle.spirv_emit.proofs.code.Code.close_loop.Goals as goal

pub returns : goal.returns
returns c = puts_then c.in_ok-label.ensures (puts_then c.in_ok-branch.ensures c.in_ok-label-2.ensures)
