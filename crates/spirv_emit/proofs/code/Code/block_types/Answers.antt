use Rattle.spirv_emit.proofs.Words.Appending.{puts_then}
use Rattle.spirv_emit.proofs.code.Code.block_types.Goals as goal

pub returns : goal.returns
returns c = puts_then c.in_ok-pair_type.ensures (puts_then c.in_ok-type_runtime_array.ensures (puts_then c.in_ok-buffer_block.ensures (c.in_ok-lengths_block.ensures)))
