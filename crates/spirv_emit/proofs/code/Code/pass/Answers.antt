use Rattle.spirv_emit.proofs.Words.Appending.{puts_then}
use Rattle.spirv_emit.proofs.code.Code.pass.Goals as goal

pub returns : goal.returns
returns c = puts_then c.in_ok-missed.ensures c.in_ok-branch.ensures
