use Rattle.d3d_model.specs.InOrder.{before_call}
use Rattle.core_model.specs.Script.{Item}
use Rattle.log_script.specs.LogScript.{shape_made}
use Rattle.log_script.specs.FittingTurns.{TurnFits}
use Rattle.log_script.proofs.Owed.FittingTurns.{turns_fit}
use Rattle.log_script.proofs.Owed.EachTurn.{each_turn}
use Rattle.log_script.proofs.fitting.turns_fit_live_buffers.Goals as goal

pub returns : goal.returns
returns c = record {
  turns = turns_fit;
  filled = λ log front call item ends play bound back e. (each_turn
      (λ n. TurnFits (before_call log n) n (shape_made log n)) log (turns_fit log) front
      (Item call item ends play bound) back e).1.filled;
}
