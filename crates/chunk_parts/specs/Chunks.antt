-- A chunk of the code as the model has it.
use Rattle.std.specs.Prelude.{ℕ, List, map}
use Rattle.std.specs.List.{filter_map}
use Rattle.std.specs.Option.{option_map}
use Rattle.buffer_blocks.specs.declared.block.Block.{Block}
use Rattle.cs_chunk.specs.declared.entry.Entry.{Entry}
use Rattle.cs_chunk.specs.declared.chunk.Chunk.{Chunk}
use Rattle.cs_chunk.specs.Chunk.{entries_of, pages_of}
use Rattle.vk_types.specs.declared.message.Placed.{Placed}
use Rattle.core_model.specs.Succession.{ChunkView}

-- where an entry's bytes stand: its block and its mark by their numbers
abbrev pub placed_of : Entry → Placed
placed_of e = record {
  call = e.call;
  item = e.item;
  block = option_map (λ (b : Block). b.number) e.block;
  mark = e.mark;
  staged = e.staged;
}

-- the places of its entries, the blocks that they take, and the pages on which their bytes are staged
abbrev pub chunk_view : Chunk → ChunkView
chunk_view chunk = record {
  head = record { number = chunk.number; upto = chunk.upto; placed = map placed_of (entries_of chunk) };
  blocks = filter_map (λ (e : Entry). e.block) (entries_of chunk);
  pages = map (λ p. p.block) (pages_of chunk);
}
