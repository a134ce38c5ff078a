-- What a clause says of a block: its bytes, and what it ends as once parts of it that were lent are given back.
use Rattle.std.specs.Prelude.{ℕ, List, ◌++◌}
use Rattle.std.specs.Borrow.{Lends, LendsBoth, MutBor, Fml, Array, u8}
use Rattle.buffer_blocks.specs.declared.block.Block.{Block}
use Rattle.buffer_blocks.specs.contracts.block.Block.{the_row}
use Rattle.buffer_blocks.specs.Written.{written}

-- the bytes of a block
abbrev pub bytes_of : Block → List ℕ
bytes_of block = block.bytes

-- the block with other bytes
abbrev pub with_bytes : Block → List ℕ → Block
with_bytes block bytes = record block { bytes = bytes }

-- the block ends with the last bytes of the loan from this place on, and with its own elsewhere
abbrev pub LendsPart : MutBor Block → ℕ → MutBor (List ℕ) → Fml
LendsPart block from part =
    Lends the_row (Array u8 0) block part (λ piece. with_bytes block.now (written (bytes_of block.now) from piece))

-- the block ends with the last bytes of both loans, the first before the second
abbrev pub LendsHalves : MutBor Block → MutBor (List ℕ) × MutBor (List ℕ) → Fml
LendsHalves block parts =
    LendsBoth the_row (Array u8 0) (Array u8 0) block parts (λ front back. with_bytes block.now (written (bytes_of block.now) 0 (front ++ back)))
