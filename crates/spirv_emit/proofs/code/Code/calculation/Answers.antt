use Rattle.spirv_emit.specs.Emits.{layout_of}
use Rattle.spirv_emit.proofs.Words.CalculationsAndAccesses.{calculation_made}
use Rattle.spirv_emit.proofs.code.Code.calculation.Goals as goal

pub returns-clause-appends : goal.returns-clause-appends
returns-clause-appends c = calculation_made (layout_of c.args.plan.now) c.args.calculation.now _ _ c.in_ok-leaves.ensures.appends c.in_ok-leaves.ensures.ids c.steps-steps.ensures c.in_ok-steps.ensures
