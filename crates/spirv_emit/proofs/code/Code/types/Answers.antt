use Rattle.spirv_emit.proofs.Words.Appending.{puts_then}
use Rattle.spirv_emit.proofs.code.Code.types.Goals as goal

pub returns : goal.returns
returns c = puts_then c.in_ok-word_types.ensures (puts_then c.in_ok-block_types.ensures (puts_then c.in_ok-pointer_types.ensures (puts_then c.in_ok-buffer_types.ensures (puts_then c.in_ok-inputs.ensures (c.in_ok-buffers.ensures)))))
