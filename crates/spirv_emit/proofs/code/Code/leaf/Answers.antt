use Rattle.std.proofs.Common.{arith, refl}
use Rattle.spirv_emit.proofs.Words.Appending.{appends_none, appends_to}
use Rattle.spirv_emit.proofs.code.Code.leaf.Goals as goal

pub returns-in-Number-clause-appends : goal.returns-in-Number-clause-appends
returns-in-Number-clause-appends c =
    let is = c.in-Number.is in
    rw is (appends_to (appends_none c.args.self.now) refl (omega arith))
