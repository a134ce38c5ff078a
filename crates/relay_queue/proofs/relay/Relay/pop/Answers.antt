use Rattle.std.proofs.Common.{ap}
use Rattle.relay_queue.proofs.Steps.{takes, looks}
use Rattle.relay_queue.proofs.relay.Relay.pop.Goals as goal

pub pop_as-requires-clause-rule : goal.pop_as-requires-clause-rule
pop_as-requires-clause-rule g c = (takes g.N.LogName.log g.M.Numbered.number_of g.M.Numbered.first g.M.Numbered.follows _ _ (ap (λ v. v.takes) c.pass.invariant.1), looks g.N.LogName.log g.M.Numbered.number_of g.M.Numbered.first g.M.Numbered.follows _ _)
