use Rattle.std.proofs.Common.{refl}
use Rattle.spirv_emit.proofs.Words.Appending.{then_puts, appends_to}
use Rattle.spirv_emit.proofs.code.Code.write.Goals as goal

pub returns : goal.returns
returns c = appends_to (then_puts c.in_ok-value.ensures.appends c.in_ok-store.ensures) (cc (c.in_ok-value.ensures.id)) refl
