use Rattle.std.proofs.Common.{◌≡◌, length, replicate, []}
use Rattle.d3d_lists.specs.Opened.{recorded_in}
use Rattle.d3d_lists.proofs.lists.open_lists.Given as goal

abbrev pub invariant-contexts : goal.invariant-contexts
invariant-contexts l = record {
  count : length l.opened.items ≡ l._i;
  empty : recorded_in l.opened.items ≡ replicate l._i [];
}
