use Rattle.std.proofs.Common.{ap}
use Rattle.relay_queue.proofs.Steps.{sends, looks}
use Rattle.relay_queue.proofs.relay.Relay.push.Goals as goal

pub push_as-requires-clause-rule : goal.push_as-requires-clause-rule
push_as-requires-clause-rule g c = (sends g.N.LogName.log g.M.Numbered.number_of g.M.Numbered.first g.M.Numbered.follows _ _ _ _ (ap (λ v. v.sends) c.pass.invariant.1) (rw (ap (λ e. e.messages) c.pass.view_is) c.requires.next), looks g.N.LogName.log g.M.Numbered.number_of g.M.Numbered.first g.M.Numbered.follows _ _)
