use Rattle.std.proofs.Common.{rules}
use Rattle.spirv_emit.proofs.Words.Appending.{makes_ok}
use Rattle.spirv_emit.proofs.code.Code.select.Goals as goal

pub returns-clause-appends : goal.returns-clause-appends
returns-clause-appends c = search (rules, makes_ok)
