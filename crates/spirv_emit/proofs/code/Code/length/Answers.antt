use Rattle.std.proofs.Common.{arith}
use Rattle.spirv_emit.proofs.Words.Appending.{appends_then, appends_to}
use Rattle.spirv_emit.proofs.code.Code.length.Goals as goal

pub returns-clause-appends : goal.returns-clause-appends
returns-clause-appends c =
    let p = c.in_ok-pointer.ensures.appends in
    let e = p.next_is in
    appends_to (appends_then p c.in_ok-word.ensures.appends) (cc (e, c.in_ok-pointer.ensures.id, c.number.ensures)) (omega (arith, e))
