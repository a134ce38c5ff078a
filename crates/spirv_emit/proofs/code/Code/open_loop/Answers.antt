use Rattle.spirv_emit.specs.Emits.{layout_of}
use Rattle.spirv_model.specs.Op as op
use Rattle.spirv_emit.specs.Code.{turns_are_out}
use Rattle.spirv_emit.proofs.Words.LeavesAndLoops.{out_made, front_made}
use Rattle.spirv_emit.proofs.code.Code.open_loop.Goals as goal

pub returns-clause-appends : goal.returns-clause-appends
returns-clause-appends c =
    let at = layout_of c.args.plan.now in
    front_made at c.in_ok-turn.ensures.appends (out_made at turns_are_out _ op.Return c.in_ok-condition.ensures.appends c.in_ok-condition.ensures.id c.in_ok-out_if.ensures) c.in_ok-assign.ensures
