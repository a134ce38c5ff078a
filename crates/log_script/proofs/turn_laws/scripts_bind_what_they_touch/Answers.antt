use Rattle.log_script.proofs.Owed.TurnsBound.{script_bound}
use Rattle.log_script.proofs.turn_laws.scripts_bind_what_they_touch.Goals as goal

pub returns : goal.returns
returns c = record {
  quiet = λ log front call item ends play bound back e. (script_bound log front call item ends play bound back e).quiet;
  binds = λ log front call item ends play bound back e. (script_bound log front call item ends play bound back
      e).touched;
}
