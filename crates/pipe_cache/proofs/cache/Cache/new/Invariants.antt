use Rattle.pipe_cache.specs.Created.{AreTables}
use Rattle.pipe_cache.proofs.cache.Cache.new.Given as goal

abbrev pub invariant-each_call : goal.invariant-each_call
invariant-each_call l = AreTables l.plan l.i l.calls.items l.cells.items
