use Rattle.spirv_emit.proofs.Words.Appending.{puts_then}
use Rattle.spirv_emit.proofs.code.Code.decorations.Goals as goal

pub returns : goal.returns
returns c = puts_then c.in_ok-decorate_blocks.ensures (puts_then c.in_ok-decorate_inputs.ensures (puts_then c.in_ok-decorate_lengths.ensures (c.in_ok-decorate_buffers.ensures)))
