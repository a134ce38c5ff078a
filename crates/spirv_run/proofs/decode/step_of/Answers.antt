use Rattle.std.proofs.Common.{map, ◌∙◌}
use Rattle.spirv_model.specs.View.{shown}
use Rattle.spirv_run.proofs.PlainSteps.{plain_is}
use Rattle.spirv_run.proofs.decode.step_of.Goals as goal

pub returns-in_default : goal.returns-in_default
returns-in_default c =
    let d = c.in_default in
    c.plain_step.ensures
    ∙ plain_is c.args.op (map shown c.args.ops.now) c.args.label_next c.args.next d.not-Variable d.not-Function d.not-FunctionEnd d.not-Label d.not-Branch d.not-BranchConditional d.not-Return
