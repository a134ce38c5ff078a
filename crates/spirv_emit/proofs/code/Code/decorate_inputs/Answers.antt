use Rattle.spirv_emit.proofs.Words.Appending.{puts_then}
use Rattle.spirv_emit.proofs.code.Code.decorate_inputs.Goals as goal

pub returns : goal.returns
returns c = puts_then c.in_ok-decorate_by.ensures (puts_then c.in_ok-decorate_by-2.ensures (puts_then c.in_ok-decorate_by-3.ensures (c.in_ok-decorate_by-4.ensures)))
