-- What a page ends as, once a part of it that was lent is given back.
use Rattle.std.specs.Prelude.{ℕ, ◌+◌, List, length, nat_le, Option, if◌then◌else◌}
use Rattle.std.specs.Borrow.{Lends, LendsIf, MutBor, Fml, Array, u8}
use Rattle.buffer_blocks.specs.Block.{bytes_of, with_bytes}
use Rattle.buffer_blocks.specs.Written.{written}
use Rattle.staging_pages.specs.PageState.{PageState}
use Rattle.staging_pages.specs.contracts.page.Page.{the_row}

-- the page with a piece written behind what is used, where so many more bytes are used
abbrev pub staged : PageState → ℕ → List ℕ → PageState
staged page len piece = record {
  block = with_bytes page.block (written (bytes_of page.block) page.used piece);
  used = page.used + len;
}

-- so many bytes, or none where fewer are left
abbrev pub fitting : PageState → ℕ → ℕ
fitting page len = if nat_le (page.used + len) (length (bytes_of page.block)) then len else 0

-- the page ends with the last bytes of the loan behind what was used
abbrev pub LendsNext : MutBor PageState → ℕ → MutBor (List ℕ) → Fml
LendsNext page len part = Lends the_row (Array u8 0) page part (staged page.now len)

-- the same, and it is as before where nothing is lent
abbrev pub LendsIfLeft : MutBor PageState → ℕ → Option (MutBor (List ℕ)) → Fml
LendsIfLeft page len part = LendsIf the_row (Array u8 0) page part (staged page.now len) page.now
