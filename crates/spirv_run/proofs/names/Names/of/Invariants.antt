use Rattle.std.proofs.Common.{◌≤◌, length, drop, map}
use Rattle.spirv_model.specs.View.{shown}
use Rattle.spirv_run.specs.Decoding.{Knows}
use Rattle.spirv_run.proofs.names.Names.of.Given as goal

abbrev pub invariant-ops : goal.invariant-ops
invariant-ops l = record {
  knows : Knows l.names l.at (drop l.at (map shown l.ops));
  within : l.at ≤ length l.ops;
}

abbrev pub decreases-ops : goal.decreases-ops
decreases-ops l = l.at
