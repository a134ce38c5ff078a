use Rattle.spirv_emit.proofs.Words.Appending.{puts_then}
use Rattle.spirv_emit.proofs.code.Code.settings.Goals as goal

pub returns : goal.returns
returns c = puts_then c.in_ok-capability.ensures (puts_then c.in_ok-memory_model.ensures (puts_then c.in_ok-entry_point.ensures (c.in_ok-execution_mode.ensures)))
