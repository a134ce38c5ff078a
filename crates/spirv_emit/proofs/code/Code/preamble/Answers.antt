use Rattle.spirv_emit.proofs.Words.Appending.{puts_then}
use Rattle.spirv_emit.proofs.code.Code.preamble.Goals as goal

pub returns : goal.returns
returns c = puts_then c.in_ok-settings.ensures (puts_then c.in_ok-decorations.ensures (c.in_ok-types.ensures))
