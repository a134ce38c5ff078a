use Rattle.core_model.proofs.Runs.StillAnswers.{stills_right}
use Rattle.core_model.proofs.run_laws.pending_calls_are_late.Goals as goal

pub returns : goal.returns
returns c = record {
  stills = λ meaning reading script core h. stills_right meaning reading script h.lawful h.events
      core h.chain;
}
