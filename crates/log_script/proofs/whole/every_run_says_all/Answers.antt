use Rattle.log_script.specs.LogScript.{meaning_of, script_of}
use Rattle.log_script.proofs.Promised.SaidSteps.{reached_tells}
use Rattle.log_script.proofs.Promised.SaidRuns.{run_says}
use Rattle.log_script.proofs.whole.every_run_says_all.Goals as goal

pub returns : goal.returns
returns c = record {
  so_far = λ log reading events core h. (reached_tells (meaning_of log) reading (script_of log) events core h).said;
  runs = run_says;
}
