use Rattle.spirv_emit.specs.Emits.{layout_of}
use Rattle.spirv_emit.proofs.Words.CalculationsAndAccesses.{reach_made}
use Rattle.spirv_emit.proofs.code.Code.reach.Goals as goal

pub returns : goal.returns
returns c =
    reach_made (layout_of c.args.plan.now) c.args.binding c.args.place.now c.args.action.now c.args.behind _ _ _ c.in_ok-place.ensures.appends c.in_ok-pointer.ensures.appends c.in_ok-action.ensures c.in_ok-branch.ensures
    c.in_ok-place.ensures.id c.in_ok-pointer.ensures.id c.number.ensures
