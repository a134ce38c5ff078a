-- A list of bytes after a loan of a part of it.
use Rattle.std.specs.Prelude.{ℕ, List, ◌++◌, length, take, drop}

-- the bytes with a piece written over as many of them from a place on. There are as many as before
abbrev pub written : List ℕ → ℕ → List ℕ → List ℕ
written bytes from piece = take (length bytes) (take from bytes ++ (piece ++ drop (length piece) (drop from bytes)))
