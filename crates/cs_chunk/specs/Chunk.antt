-- What a clause says of a chunk: its entries and its pages.
use Rattle.std.specs.Prelude.{List}
use Rattle.staging_pages.specs.PageState.{PageState}
use Rattle.cs_chunk.specs.declared.entry.Entry.{Entry}
use Rattle.cs_chunk.specs.declared.chunk.Chunk.{Chunk}

-- the entries of a chunk that were not taken yet, in order
abbrev pub entries_of : Chunk → List Entry
entries_of chunk = chunk.entries

-- the pages of a chunk that were not taken yet, in order
abbrev pub pages_of : Chunk → List PageState
pages_of chunk = chunk.pages

-- the chunk with other entries
abbrev pub with_entries : Chunk → List Entry → Chunk
with_entries chunk entries = record chunk { entries = entries }

-- the chunk with other pages
abbrev pub with_pages : Chunk → List PageState → Chunk
with_pages chunk pages = record chunk { pages = pages }
