use Rattle.std.proofs.Common.{ap, ◌∙◌}
use Rattle.core_model.specs.HostBytes.{bytes_of}
use Rattle.core_model.proofs.Messages.Scenes.{reached_by_kinds}
use Rattle.core_model.proofs.Messages.BytesInTurn.{BytesInTurn, bytes_kinds}
use Rattle.core_model.proofs.Ends.EndsWhole.{ends_whole}
use Rattle.core_model.proofs.message_laws.host_writes_are_the_items.Goals as goal

pub returns : goal.returns
returns c = record {
  so_far = λ meaning reading script core h. reached_by_kinds meaning reading script (BytesInTurn script)
      (bytes_kinds meaning reading script) h.lawful h.events core h.chain;
  ended = λ meaning reading script core h e.
      reached_by_kinds meaning reading script (BytesInTurn script) (bytes_kinds meaning reading script) h.lawful
      h.events core h.chain
      ∙ ap (bytes_of script) (ends_whole meaning reading script h.lawful h.events core h.chain e).past;
}
