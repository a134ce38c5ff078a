use Rattle.core_model.proofs.Ends.RunsExist.{run_exists}
use Rattle.core_model.proofs.Ends.OneRun.{run_once}
use Rattle.log_script.specs.LogScript.{meaning_of, script_of}
use Rattle.log_script.proofs.Owed.LawfulScripts.{lawful}
use Rattle.log_script.proofs.Promised.Promise.{chain_keeps, run_keeps, plain_says}
use Rattle.log_script.proofs.promise.every_run_keeps_the_promise.Goals as goal

pub returns : goal.returns
returns c = record {
  runs = run_keeps;
  exists = λ log schedule. run_exists (meaning_of log) (script_of log) (lawful log) schedule;
  one = λ log schedule a b p q. run_once (meaning_of log) (script_of log) schedule a b p q;
  none_pending = plain_says;
  chains = chain_keeps;
}
