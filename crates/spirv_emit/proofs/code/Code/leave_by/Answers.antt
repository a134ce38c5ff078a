use Rattle.spirv_emit.specs.Emits.{layout_of, out_op}
use Rattle.spirv_emit.specs.Lower.{test_calculation}
use Rattle.spirv_emit.proofs.Words.LeavesAndLoops.{out_made_of, left_made}
use Rattle.spirv_emit.proofs.code.Code.leave_by.Goals as goal

pub returns : goal.returns
returns c =
    let at = layout_of c.args.plan.now in
    left_made at c.args.test.now (out_op c.args.out) c.in_ok-fetch_test.ensures (out_made_of at _ (test_calculation c.args.test.now) _ (out_op c.args.out) c.test_calculation.ensures c.in_ok-condition.ensures.appends c.in_ok-condition.ensures.id c.in_ok-out_if.ensures)
