use Rattle.d3d_uses.proofs.Summaries.{taken_out}
use Rattle.d3d_uses.proofs.uses.Uses.forget.Goals as goal

pub returns : goal.returns
returns c = taken_out c.self.inside.held.entries c.remove.new.self.entries c.args.self.now c.args.id c.self.view_is c.remove.ensures.updates.0
