use Rattle.core_model.proofs.Messages.ClearParts.{parts_clear}
use Rattle.core_model.proofs.succession_laws.parts_keep_clear.Goals as goal

pub returns : goal.returns
returns c = record { clear = parts_clear }
