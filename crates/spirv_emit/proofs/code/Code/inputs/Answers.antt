use Rattle.spirv_emit.proofs.Words.Appending.{puts_then}
use Rattle.spirv_emit.proofs.code.Code.inputs.Goals as goal

pub returns : goal.returns
returns c = puts_then c.in_ok-variable.ensures (puts_then c.in_ok-variable-2.ensures (puts_then c.in_ok-variable-3.ensures (puts_then c.in_ok-variable-4.ensures (c.in_ok-variable-5.ensures))))
