use Rattle.std.proofs.Common.{rules}
use Rattle.spirv_emit.proofs.Words.Appending.{puts_ok}
use Rattle.spirv_emit.proofs.code.Code.loop_merge.Goals as goal

pub returns : goal.returns
returns c = search (rules, puts_ok)
