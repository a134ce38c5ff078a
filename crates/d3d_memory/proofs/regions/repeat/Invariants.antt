use Rattle.std.proofs.Common.{◌≡◌, ◌*◌, ◌++◌, length, drop}
use Rattle.d3d_model.specs.Regions.{repeated}
use Rattle.d3d_memory.proofs.regions.repeat.Given as goal

abbrev pub invariant-elements : goal.invariant-elements
invariant-elements l = l.bytes ≡ repeated l.i l.element ++ drop (l.i * length l.element) l.initial.bytes
