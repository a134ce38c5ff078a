use Rattle.core_model.proofs.Messages.TakenInSteps.{step_right}
use Rattle.core_model.proofs.Runs.RunsKeepAll.{reached_kept}
use Rattle.core_model.proofs.block_laws.taken_blocks_are_idle.Goals as goal

pub returns : goal.returns
returns c = record {
  strange = λ meaning reading script old h posts new s place e block is.
      ((step_right meaning reading script h.lawful old posts new
      (reached_kept meaning reading script h.lawful h.events old h.chain) s).0 place e block is).1;
  idle = λ meaning reading script old h posts new s place e block is.
      ((step_right meaning reading script h.lawful old posts new
      (reached_kept meaning reading script h.lawful h.events old h.chain) s).0 place e block is).0;
  pages = λ meaning reading script old h posts new s page e.
      (step_right meaning reading script h.lawful old posts new
      (reached_kept meaning reading script h.lawful h.events old h.chain) s).1 page e;
}
