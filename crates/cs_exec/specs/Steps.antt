-- What a step of the command stream makes of a chunk.
use Rattle.std.specs.Prelude.{◌≡◌, ℕ, suc, List, [], ◌∷◌, ◌++◌, length, take, drop}
use Rattle.call_log.specs.Call.{Issued}
use Rattle.call_log.specs.Grammar.{Reading, calls_of}
use Rattle.vk_types.specs.declared.message.Batch.{Batch}
use Rattle.core_model.specs.Chunking.{chunk_turns}
use Rattle.core_model.specs.OtherParts.{created}
use Rattle.core_model.specs.Succession.{Head, Log, ChunkView, BatchBy, batch_head}
use Rattle.log_script.specs.LogScript.{script_of, meaning_of}
use Rattle.cs_exec.specs.Standing.{CsStands, requests_of}
use Rattle.cs_exec.specs.declared.part.CsPart.{CsPart}

-- a log that was read: its script, what its shaders mean, and its bytes
abbrev pub log_of : Reading → Log
log_of read = record {
  script = script_of (calls_of read.frames);
  meaning = meaning_of (calls_of read.frames);
  part = λ s. take s.len (drop s.start read.bytes);
}

-- a chunk that may stand behind these heads becomes the batch that may stand there, with the same head; the stream then
-- stands behind one head more, and asks for the modules of the shaders that the chunk creates, in their order
pub record IsStep (calls : List Issued) (log : Log) (hs : List Head) (old : CsPart) (chunk : ChunkView) (new : CsPart)
    (batch : Batch) : Type 0 where
  pub head : batch_head batch ≡ chunk.head
  pub follows : BatchBy log hs batch
  pub stands : CsStands calls log (hs ++ chunk.head ∷ []) new
  pub requests : requests_of new ≡ requests_of old ++ created (chunk_turns log.script (suc (length hs)))
