use Rattle.core_model.proofs.Messages.StandingBatches.{batch_stands, stands_first}
use Rattle.core_model.proofs.succession_laws.batches_keep_standing.Goals as goal

pub returns : goal.returns
returns c = record { start = stands_first; stands = batch_stands }
