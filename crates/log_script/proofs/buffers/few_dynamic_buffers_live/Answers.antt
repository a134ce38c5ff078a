use Rattle.log_script.specs.LogScript.{meaning_of}
use Rattle.log_script.proofs.Owed.FewDynamic.{few_at}
use Rattle.log_script.proofs.buffers.few_dynamic_buffers_live.Goals as goal

pub returns : goal.returns
returns c = λ log front back e. few_at (meaning_of log) log front back e
