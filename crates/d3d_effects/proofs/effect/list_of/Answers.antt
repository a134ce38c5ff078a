use Rattle.d3d_effects.proofs.NoEffect.{finishes_none}
use Rattle.d3d_effects.proofs.effect.list_of.Goals as goal

pub returns-in_default : goal.returns-in_default
returns-in_default c = finishes_none c.args.call.now c.in_default.not-FinishList
