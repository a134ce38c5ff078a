use Rattle.std.proofs.Common.{◌∙◌}
use Rattle.spirv_model.specs.View.{shown}
use Rattle.spirv_run.proofs.Decoded.{label_there}
use Rattle.spirv_run.proofs.decode.is_label_at.Goals as goal

pub returns-then-at-ops : goal.returns-then-at-ops
returns-then-at-ops c = c.is_label.ensures ∙ label_there shown c.args.ops.now c.args.at _ c.if-at-ops.true
