use Rattle.core_model.proofs.Messages.MarkedQueries.{commands_numbered, queries_marked, queries_all, queries_in_turn}
use Rattle.core_model.proofs.Messages.MarkedQueries.{queries_rise, values_between_marks, shaders_created, turns_there}
use Rattle.core_model.proofs.Messages.MarkedQueries.{names_rise, queries_behind, queries_late}
use Rattle.core_model.proofs.succession_laws.messages_mark_queries.Goals as goal

pub returns : goal.returns
returns c = record {
  turns = turns_there;
  numbers = commands_numbered;
  marks = queries_marked;
  all = queries_all;
  in_turn = λ log lawful front here s. queries_in_turn log front here s lawful;
  calls = λ log lawful front here s. queries_rise log front here s lawful;
  names = names_rise;
  behind = queries_behind;
  late = λ log lawful front here s. queries_late log front here s lawful;
  ends = values_between_marks;
  shaders = λ log lawful front here s. shaders_created log front here s lawful;
}
