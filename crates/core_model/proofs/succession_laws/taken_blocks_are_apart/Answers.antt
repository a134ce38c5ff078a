use Rattle.std.proofs.Common.{[], refl}
use Rattle.core_model.proofs.Messages.HeldBlocks.{taken_strange, taken_anew}
use Rattle.core_model.proofs.succession_laws.taken_blocks_are_apart.Goals as goal

pub returns : goal.returns
returns c = record {
  strange = taken_strange;
  once = taken_anew;
  pages = λ log front here s. (s front here [] refl).stages_apart.outside;
}
