use Rattle.device_laws.proofs.Copies.{copies_in_order}
use Rattle.device_laws.proofs.InOrder.{leads_accepted, leads_completed, leads_first, leads_run}
use Rattle.device_laws.proofs.what_is_left_completes_what_is_held.Goals as goal

pub returns : goal.returns
returns c = record { first = leads_first; accepted = leads_accepted; run = leads_run; completed = leads_completed; copies = copies_in_order }
