use Rattle.device_laws.proofs.Holding.{holds_accepted, holds_completed, holds_first, holds_run}
use Rattle.device_laws.proofs.blocks_are_held_until_given_up.Goals as goal

pub returns : goal.returns
returns c = record { first = holds_first; accepted = holds_accepted; run = holds_run; completed = holds_completed }
