-- A part of a buffer that an unordered access view names, by words, with the bytes around it.
use Rattle.std.specs.Prelude.{ℕ, List, ◌++◌, take, drop, slice_range}
use Rattle.std.specs.List.{flat_map}
use Rattle.byteorder.specs.Endian.{little_bytes}
use Rattle.base_lemmas.specs.ByteWords.{words_of}

-- the words of a part, and the buffer's bytes before and behind it
pub record Part : Type 0 where
  pub before : List ℕ
  pub words : List ℕ
  pub after : List ℕ

-- the part of some bytes from one place to just before another
abbrev pub part_of : List ℕ → (from to : ℕ) → Part
part_of bytes from to = record { before = take from bytes; words = words_of (slice_range bytes from to); after = drop to bytes }

-- the bytes that spell some words, each the lowest byte first
abbrev pub spelled : List ℕ → List ℕ
spelled words = flat_map (little_bytes 4) words

-- all bytes of the buffer
abbrev pub bytes_of : Part → List ℕ
bytes_of p = p.before ++ (spelled p.words ++ p.after)
