use Rattle.core_model.proofs.Runs.StillAnswers.{stills_right}
use Rattle.core_model.proofs.Steps.Idle.{free_is_idle}
use Rattle.core_model.proofs.Runs.RunsKeepAll.{reached_kept}
use Rattle.core_model.proofs.Steps.OtherParts.{listing_is_covered}
use Rattle.log_script.specs.LogScript.{meaning_of, script_of}
use Rattle.log_script.proofs.Promised.AnsweredReplies.{chain_answers, run_answers, read_answers}
use Rattle.log_script.proofs.Owed.LawfulScripts.{lawful}
use Rattle.log_script.proofs.Promised.Promise.{read_of}
use Rattle.log_script.proofs.promise.every_run_answers_as_direct3d.Goals as goal

pub returns : goal.returns
returns c = record {
  chains = λ log. chain_answers log (lawful log);
  runs = λ log. run_answers log (lawful log);
  reads = λ log. read_answers log (lawful log);
  reads_stand = read_of;
  pending = λ log reading events core h. stills_right (meaning_of log) reading (script_of log) (lawful log) events
      core h;
  covered = λ log reading events core h.
      listing_is_covered (meaning_of log) reading (script_of log) core
      (reached_kept (meaning_of log) reading (script_of log) (lawful log) events core h).good;
  idle = λ log reading events core h.
      free_is_idle (meaning_of log) reading (script_of log) core
      (reached_kept (meaning_of log) reading (script_of log) (lawful log) events core h).good;
}
