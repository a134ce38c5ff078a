use Rattle.core_model.proofs.Listing.RunOrder.{same_order}
use Rattle.core_model.proofs.Listing.RunCovered.{run_covered}
use Rattle.core_model.proofs.run_laws.counts_order_runs.Goals as goal

pub returns : goal.returns
returns c = record { alike = same_order; covered = run_covered }
