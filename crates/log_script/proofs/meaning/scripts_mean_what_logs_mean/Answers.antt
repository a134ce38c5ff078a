use Rattle.core_model.specs.Script.{Bytes, Count, Constant}
use Rattle.log_script.proofs.Meant.AgreeingLogs.{agrees_at}
use Rattle.log_script.proofs.Meant.AgreeingReplies.{answered_at}
use Rattle.log_script.proofs.meaning.scripts_mean_what_logs_mean.Goals as goal

pub returns : goal.returns
returns c = record {
  states = λ log n within. agrees_at log n;
  bytes = λ log front call source used may_pend back e. answered_at log front call (Bytes source) used may_pend back e;
  counts = λ log front call query used may_pend back e. answered_at log front call (Count query) used may_pend back e;
  constants = λ log front call value used may_pend back e. answered_at log front call (Constant value) used may_pend
      back e;
}
