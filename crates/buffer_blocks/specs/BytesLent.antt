-- What the bytes of a block end as, once a part of them that was lent is given back.
use Rattle.std.specs.Prelude.{ℕ, List}
use Rattle.std.specs.Borrow.{Lends, MutBor, Fml, Array, u8}
use Rattle.buffer_blocks.specs.contracts.bytes.Bytes.{the_row}
use Rattle.buffer_blocks.specs.Written.{written}

-- the bytes from this place on end as the last ones in the loan, and all others stay
abbrev pub LendsBytes : MutBor (List ℕ) → ℕ → MutBor (List ℕ) → Fml
LendsBytes bytes from part = Lends the_row (Array u8 0) bytes part (written bytes.now from)
