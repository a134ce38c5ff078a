use Rattle.std.proofs.Common.{◌≡◌, map, take}
use Rattle.pipe_cache.specs.Cells.{unnoted_of}
use Rattle.pipe_cache.proofs.cache.Cache.note.Given as goal

abbrev pub invariant-cells : goal.invariant-cells
invariant-cells l = l.notes.items ≡ map unnoted_of (take l.cell-index l.cell-items)
