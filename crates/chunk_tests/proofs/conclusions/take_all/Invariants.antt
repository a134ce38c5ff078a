use Rattle.std.proofs.Common.{◌≡◌, [], ◌++◌, length}
use Rattle.cs_chunk.specs.Chunk.{entries_of, with_entries}
use Rattle.chunk_tests.proofs.conclusions.take_all.Given as goal

abbrev pub invariant-takes : goal.invariant-takes
invariant-takes l = record {
  entries : l.to.items ++ entries_of l.chunk ≡ l.initial.to.items ++ entries_of l.initial.chunk;
  rest : with_entries l.chunk [] ≡ with_entries l.initial.chunk [];
}

abbrev pub decreases-takes : goal.decreases-takes
decreases-takes l = length (entries_of l.chunk)
