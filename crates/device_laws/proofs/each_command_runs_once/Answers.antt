use Rattle.device_laws.proofs.Standing.{stands_accepted, stands_completed, stands_first, stands_run}
use Rattle.device_laws.proofs.each_command_runs_once.Goals as goal

pub returns : goal.returns
returns c = record {
  first = stands_first;
  accepted = stands_accepted;
  run = stands_run;
  completed = λ batches completed done old new s is. (let all = stands_completed batches completed done old new s is in (all.of, all.stands));
}
