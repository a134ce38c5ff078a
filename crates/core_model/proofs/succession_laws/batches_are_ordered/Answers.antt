use Rattle.core_model.specs.BatchOrder.{ops_of, staging_at}
use Rattle.core_model.proofs.Listing.RunOrder.{batches_in_order}
use Rattle.core_model.proofs.Messages.BatchesInTurn.{batches_listed, steady_batches, one_more}
use Rattle.core_model.proofs.succession_laws.batches_are_ordered.Goals as goal

pub returns : goal.returns
returns c = record {
  listing = batches_listed;
  steady = steady_batches;
  alike = λ script places contents.
      batches_in_order (staging_at script places) contents (ops_of script places) (batches_listed script places);
  one_more = one_more;
}
