use Rattle.spirv_emit.proofs.Words.Appending.{puts_then}
use Rattle.spirv_emit.proofs.code.Code.decorate_buffer.Goals as goal

pub returns : goal.returns
returns c = puts_then c.in_ok-decorate_by.ensures (c.in_ok-decorate_by-2.ensures)
