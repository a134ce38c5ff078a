-- Which page is used next.
use Rattle.std.specs.Prelude.{◌≡◌, ℕ, Bool, List, length, replicate, position, max, nat_le, Option, Some, None, slice_index_or}
use Rattle.std.specs.List.{remove}
use Rattle.buffer_blocks.specs.declared.block.Block.{Block}
use Rattle.buffer_blocks.specs.Block.{bytes_of}
use Rattle.staging_pages.specs.PageState.{PageState}
use Rattle.dx_types.specs.declared.limits.TheConstants.{PAGE_BYTES}

abbrev pub is_long_enough : ℕ → Block → Bool
is_long_enough len page = nat_le len (length (bytes_of page))

-- nothing of the page is used
abbrev pub unused : Block → PageState
unused block = record { block = block; used = 0 }

-- a new page has this number, and so many bytes, all 0
pub record IsNewPage (number len : ℕ) (page : PageState) : Type 0 where
  pub number_is : page.block.number ≡ number
  pub not_retired : page.block.retired ≡ 0
  pub zeros : bytes_of page.block ≡ replicate len 0
  pub nothing_used : page.used ≡ 0

-- the page at this place of those that came back is taken, or a new one where there is no such place
abbrev pub TakesPageAt : List Block → ℕ → ℕ → PageState → List Block → Option ℕ → Type 0
TakesPageAt old number len page new (Some at) = (page ≡ unused (slice_index_or old at page.block)) × (new ≡ remove old at)
TakesPageAt old number len page new None = IsNewPage number (max len PAGE_BYTES) page × (new ≡ old)

-- the first page that came back and is long enough is taken, or a new one where none is
abbrev pub TakesPage : List Block → ℕ → ℕ → PageState → List Block → Type 0
TakesPage old number len page new = TakesPageAt old number len page new (position (is_long_enough len) old)
