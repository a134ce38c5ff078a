use Rattle.std.proofs.Common.{rules}
use Rattle.relay_queue.proofs.Steps.{begins, forks}
use Rattle.relay_queue.proofs.relay.Relay.new.Goals as goal

pub ruled-requires-clause-rule : goal.ruled-requires-clause-rule
ruled-requires-clause-rule g c = begins g.N.LogName.log g.M.Numbered.number_of g.M.Numbered.first g.M.Numbered.follows

pub another-reader-requires-clause-rule : goal.another-reader-requires-clause-rule
another-reader-requires-clause-rule g c = forks g.N.LogName.log g.M.Numbered.number_of g.M.Numbered.first g.M.Numbered.follows _ _ (search rules) (search rules)
