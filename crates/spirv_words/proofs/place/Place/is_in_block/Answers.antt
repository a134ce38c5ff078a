use Rattle.std.proofs.Common.{◌∙◌}
use Rattle.spirv_words.proofs.Edges.{in_block_inside}
use Rattle.spirv_words.proofs.place.Place.is_in_block.Goals as goal

pub returns-in_default : goal.returns-in_default
returns-in_default c = λ h p. c.is_inside.ensures h p ∙ in_block_inside h c.args.op c.in_default.not-Function c.in_default.not-FunctionEnd c.in_default.not-Label
