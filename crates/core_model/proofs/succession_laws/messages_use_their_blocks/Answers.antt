use Rattle.core_model.proofs.Messages.InsideBlocks.{message_inside}
use Rattle.core_model.proofs.Messages.UsedBlocks.{message_uses}
use Rattle.core_model.proofs.succession_laws.messages_use_their_blocks.Goals as goal

pub returns : goal.returns
returns c = record {
  commands = λ log lawful front here s. (message_uses log lawful front here s).listed;
  writes = λ log lawful front here s. (message_uses log lawful front here s).writes;
  inside = λ log lawful front here s. (message_inside log lawful front here s).listed;
  parts = λ log lawful front here s. (message_inside log lawful front here s).writes;
  formed = λ log lawful front here s. (message_inside log lawful front here s).formed;
  buffers = λ log lawful front here s buffer block e. (message_uses log lawful front here s).owned buffer block e;
}
