use Rattle.core_model.proofs.Messages.MemoryBytes.{MemoryHasBytes, memory_kinds}
use Rattle.core_model.proofs.Messages.Scenes.{reached_by_kinds}
use Rattle.log_script.specs.LogScript.{meaning_of, script_of}
use Rattle.log_script.proofs.Owed.LogBytes.{scripts_have_bytes}
use Rattle.log_script.proofs.Owed.ReadBytes.{read_bytes}
use Rattle.log_script.proofs.lawful.scripts_have_bytes.Goals as goal

pub returns : goal.returns
returns c = record {
  read = read_bytes;
  items = scripts_have_bytes;
  memory = λ log bytes reading core h.
      (reached_by_kinds (meaning_of log) reading (script_of log) MemoryHasBytes
      (memory_kinds (meaning_of log) reading (script_of log) (scripts_have_bytes log bytes)) h.lawful h.events core
      h.chain).memory;
}
