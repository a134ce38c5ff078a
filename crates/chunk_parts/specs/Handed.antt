-- What entries hand to their batch.
use Rattle.std.specs.Prelude.{◌≡◌, List, map}
use Rattle.std.specs.List.{filter_map}
use Rattle.cs_chunk.specs.declared.entry.Entry.{Entry}
use Rattle.vk_types.specs.declared.message.Placed.{Placed}
use Rattle.core_model.specs.CoreState.{somes}
use Rattle.chunk_parts.specs.Chunks.{placed_of}
use Rattle.chunk_parts.specs.declared.handed.Handed.{Handed}

-- the places of these entries, the blocks that they take, and the blocks that they retire
pub record IsHanded (entries : List Entry) (h : Handed) : Type 0 where
  pub placed : h.placed.items ≡ map placed_of entries
  pub blocks : h.blocks.items ≡ filter_map (λ (e : Entry). e.block) entries
  pub marks : h.marks.items ≡ somes (map (λ (p : Placed). p.mark) h.placed.items)
