use Rattle.core_model.specs.Readings.{Any_choices}
use Rattle.core_model.proofs.Runs.RunsKeepAll.{reached_kept, run_kept}
use Rattle.core_model.proofs.Runs.Choices.{run_free}
use Rattle.core_model.proofs.Runs.HostAnswers.{reached_answered, replies_are_reads, reads_are_replies}
use Rattle.core_model.proofs.run_laws.host_reads_are_answers.Goals as goal

pub returns : goal.returns
returns c = record {
  replies = λ meaning reading script core h.
      replies_are_reads meaning reading script h.lawful core
      (reached_kept meaning reading script h.lawful h.events core h.chain)
      (reached_answered meaning reading script h.lawful h.events core h.chain);
  reads = λ meaning reading script core h.
      reads_are_replies meaning reading script h.lawful core
      (reached_kept meaning reading script h.lawful h.events core h.chain)
      (reached_answered meaning reading script h.lawful h.events core h.chain);
  run_replies = λ meaning script lawful schedule core r.
      let f = run_free meaning script schedule core r in
      replies_are_reads meaning Any_choices script lawful core (run_kept meaning script lawful schedule core r)
      (reached_answered meaning Any_choices script lawful f.0 core f.1);
  run_reads = λ meaning script lawful schedule core r.
      let f = run_free meaning script schedule core r in
      reads_are_replies meaning Any_choices script lawful core (run_kept meaning script lawful schedule core r)
      (reached_answered meaning Any_choices script lawful f.0 core f.1);
}
