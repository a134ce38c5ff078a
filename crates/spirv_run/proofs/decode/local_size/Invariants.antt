use Rattle.std.proofs.Common.{◌≡◌, drop, map}
use Rattle.spirv_model.specs.View.{shown}
use Rattle.spirv_model.specs.Meaning.ModuleDispatch.{local_size}
use Rattle.spirv_run.proofs.decode.local_size.Given as goal

abbrev pub invariant-ops : goal.invariant-ops
invariant-ops l = local_size (map shown l.ops) ≡ local_size (map shown (drop l.op-index l.ops))
