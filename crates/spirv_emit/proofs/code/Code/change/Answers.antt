use Rattle.std.proofs.Common.{arith}
use Rattle.spirv_emit.proofs.Words.Appending.{then_puts, appends_then, appends_to}
use Rattle.spirv_emit.proofs.code.Code.change.Goals as goal

pub returns : goal.returns
returns c =
    let p = c.in_ok-value.ensures.appends in
    let e = p.next_is in
    appends_to (appends_then p (then_puts c.in_ok-old.ensures.appends c.in_ok-store.ensures)) (cc (e, c.in_ok-value.ensures.id, c.in_ok-old.ensures.id, c.number.ensures, c.number-2.ensures, c.variable.ensures)) (omega (arith, e))
