use Rattle.log_script.proofs.Owed.Numbering.{numbers, next}
use Rattle.log_script.proofs.turn_laws.scripts_number_their_calls.Goals as goal

pub returns : goal.returns
returns c = record { numbers = numbers; calls = next }
