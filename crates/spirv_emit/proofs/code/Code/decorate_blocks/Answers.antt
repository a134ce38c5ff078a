use Rattle.spirv_emit.proofs.Words.Appending.{puts_then}
use Rattle.spirv_emit.proofs.code.Code.decorate_blocks.Goals as goal

pub returns : goal.returns
returns c = puts_then c.in_ok-decorate_by.ensures (puts_then c.in_ok-decorate.ensures (puts_then c.in_ok-member_decorate.ensures (c.in_ok-decorate-2.ensures)))
