use Rattle.core_model.proofs.Queries.RanCounts.{listing_numbers, ran_counts}
use Rattle.core_model.proofs.query_laws.commands_count_in_order.Goals as goal

pub returns : goal.returns
returns c = record { numbers = listing_numbers; counts = ran_counts }
