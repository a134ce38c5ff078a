use Rattle.submit_finish.proofs.Dispatches.{dispatched_needed, made_needed, batch_needed}
use Rattle.submit_finish.proofs.dispatches_are_needed.Goals as goal

pub returns : goal.returns
returns c = record {
  commands = dispatched_needed;
  made = made_needed;
  batches = λ log reading lawful events core h front s back e m is. batch_needed log reading lawful events core h front s back e m is;
}
