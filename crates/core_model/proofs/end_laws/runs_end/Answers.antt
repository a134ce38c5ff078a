use Rattle.core_model.proofs.Ends.Nearer.{nearer}
use Rattle.core_model.proofs.Ends.Enabled.{decide, some_goes}
use Rattle.core_model.proofs.Ends.RunsExist.{run_exists}
use Rattle.core_model.proofs.Ends.OneStep.{step_once}
use Rattle.core_model.proofs.Ends.OneRun.{run_once}
use Rattle.core_model.proofs.Ends.NoneWaits.{none_waits}
use Rattle.core_model.proofs.Ends.CoreChains.{bounded, ready_here}
use Rattle.core_model.specs.CoreState.{start}
use Rattle.core_model.proofs.end_laws.runs_end.Goals as goal

pub returns : goal.returns
returns c = record {
  nearer = nearer;
  bounded = λ meaning script events core h. bounded meaning script events (start script) core h;
  decided = λ meaning script core h. decide meaning script h.lawful core
      (ready_here meaning script h.lawful h.events core h.chain);
  enabled = λ meaning script core h. some_goes meaning script h.lawful core
      (ready_here meaning script h.lawful h.events core h.chain);
  exists = run_exists;
  once = step_once;
  one = run_once;
  none_pending = none_waits;
}
