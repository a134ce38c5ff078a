use Rattle.core_model.proofs.Messages.HeldBlocks.{holds_behind}
use Rattle.core_model.proofs.Messages.DeviceHolds.{commands_held, writes_held, marks_held}
use Rattle.core_model.proofs.Messages.EndsInBlocks.{commands_end, writes_end}
use Rattle.core_model.proofs.Messages.GivenUp.{given_held}
use Rattle.core_model.proofs.Messages.GivenOnce.{given_once}
use Rattle.core_model.proofs.Messages.HeldLengths.{lengths_known}
use Rattle.core_model.proofs.succession_laws.used_blocks_are_held.Goals as goal

pub returns : goal.returns
returns c = record {
  held = λ log front here s buffer block e. (holds_behind log front here s).held buffer block e;
  own = λ log front here s buffer other block e f. (holds_behind log front here s).own buffer other block e f;
  lengths = λ log lawful front s. lengths_known log lawful front s;
  commands = commands_held;
  writes = writes_held;
  marks = marks_held;
  given = given_held;
  given_once = given_once;
  commands_end = commands_end;
  writes_end = writes_end;
}
