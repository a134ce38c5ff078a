use Rattle.core_model.proofs.Messages.ByteEffects.{effect_small, written_small}
use Rattle.core_model.proofs.Messages.MemoryBytes.{MemoryHasBytes, memory_kinds}
use Rattle.core_model.proofs.Messages.Scenes.{reached_by_kinds}
use Rattle.core_model.proofs.message_laws.memory_has_bytes.Goals as goal

pub returns : goal.returns
returns c = record {
  reached = λ meaning reading script core h has.
      (reached_by_kinds meaning reading script MemoryHasBytes (memory_kinds meaning reading script has) h.lawful
      h.events core h.chain).memory;
  commands = effect_small;
  writes = written_small;
}
