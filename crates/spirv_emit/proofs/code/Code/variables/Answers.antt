use Rattle.spirv_emit.specs.Emits.{layout_of}
use Rattle.spirv_emit.proofs.Words.ModuleParts.{variables_made}
use Rattle.spirv_emit.proofs.code.Code.variables.Goals as goal

pub returns : goal.returns
returns c = variables_made (layout_of c.args.plan.now) c.requires.place c.requires.some c.in_ok-local.ensures c.in_ok-locals.ensures
