use Rattle.d3d_uses.proofs.Summaries.{summarises-nothing}
use Rattle.d3d_uses.proofs.uses.Uses.new.Goals as goal

pub returns : goal.returns
returns c = λ res. summarises-nothing _ res c.new.ensures.empty
