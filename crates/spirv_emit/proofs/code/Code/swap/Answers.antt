use Rattle.spirv_emit.specs.Emits.{layout_of}
use Rattle.spirv_emit.proofs.Words.CalculationsAndAccesses.{swap_made}
use Rattle.spirv_emit.proofs.code.Code.swap.Goals as goal

pub returns : goal.returns
returns c =
    swap_made (layout_of c.args.plan.now) c.args.value c.args.comparator c.args.pointer c.args.variable _ _ _ _ _ _ c.in_ok-value.ensures.appends c.in_ok-comparator.ensures.appends c.in_ok-old.ensures.appends c.in_ok-store.ensures
    c.in_ok-value.ensures.id c.in_ok-comparator.ensures.id c.in_ok-old.ensures.id c.number.ensures c.number-2.ensures c.variable.ensures
