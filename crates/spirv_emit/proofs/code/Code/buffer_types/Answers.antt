use Rattle.spirv_emit.proofs.Words.Appending.{puts_then}
use Rattle.spirv_emit.proofs.code.Code.buffer_types.Goals as goal

pub returns : goal.returns
returns c = puts_then c.in_ok-type_pointer.ensures (puts_then c.in_ok-type_pointer-2.ensures (c.in_ok-type_pointer-3.ensures))
