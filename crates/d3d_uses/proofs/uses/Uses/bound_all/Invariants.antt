use Rattle.std.proofs.Common.{map, take}
use Rattle.d3d_model.specs.Past.{Binds}
use Rattle.d3d_uses.specs.Summary.{Records}
use Rattle.d3d_uses.proofs.uses.Uses.bound_all.Given as goal

abbrev pub invariant-each : goal.invariant-each
invariant-each l = Records l.initial.self l.call (map Binds (take l.range-index l.ranges)) l.self
