use Rattle.std.proofs.Common.{sym, subst}
use Rattle.spirv_model.specs.Meaning.ModuleDispatch.{IsDefined}
use Rattle.spirv_run.proofs.Samples.{counter_defined}
use Rattle.module_tests.proofs.machine.counter.Goals as goal

pub returns : goal.returns
returns c = subst IsDefined (sym c.in_ok-module.ensures.words) counter_defined
