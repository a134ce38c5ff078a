use Rattle.std.proofs.Common.{◌≡◌, length}
use Rattle.query_pool.specs.Running.{raised_from}
use Rattle.query_pool.proofs.Placing.{FitFrom}
use Rattle.query_pool.proofs.sums.raise_from.Given as goal

abbrev pub invariant-later : goal.invariant-later
invariant-later l = record {
  still : raised_from l.invocations l.i l.sums.items ≡ raised_from l.invocations l.fn.at l.initial.sums.items;
  fit : FitFrom l.invocations l.i l.sums.items;
  len : length l.sums.items ≡ length l.initial.sums.items;
}
