use Rattle.core_model.proofs.Queries.MarksInTurn.{marks_are, marks_in_turn, calls_in_turn, numbers_in_turn}
use Rattle.core_model.proofs.Queries.EndValues.{message_values}
use Rattle.core_model.proofs.query_laws.query_messages_are_right.Goals as goal

pub returns : goal.returns
returns c = record {
  marks = marks_are;
  in_turn = marks_in_turn;
  calls = calls_in_turn;
  numbers =
      numbers_in_turn;
  values = message_values;
}
