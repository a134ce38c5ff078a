use Rattle.core_model.proofs.Queries.InOrderCounts.{sums}
use Rattle.core_model.proofs.Queries.InOrderQueries.{counts_right}
use Rattle.core_model.proofs.query_laws.counts_are_sums.Goals as goal

pub returns : goal.returns
returns c = record { totals = sums; counts = counts_right }
