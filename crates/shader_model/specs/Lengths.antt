-- What an invocation never changes: the words of constant buffers and resources, and how many words a slot has.
use Rattle.std.specs.Prelude.{◌≡◌, map, length}
use Rattle.shader_model.specs.Invocation.{Slots}

-- two states of the slots in which each slot has as many words, and all but unordered access views the same
pub record KeepsLengths (a b : Slots) : Type 0 where
  pub constants : b.constants ≡ a.constants
  pub reads : b.reads ≡ a.reads
  pub writes : map length b.writes ≡ map length a.writes
