-- Where the bytes of a call are staged.
use Rattle.std.specs.Prelude.{◌≡◌, ℕ, suc, ◌+◌, ◌<◌, ◌≤◌, ◌==◌, cond, List, [], ◌∷◌, ◌++◌, length, Option, Some}
use Rattle.std.specs.Prelude.{None, ◌⊎◌}
use Rattle.dx_types.specs.declared.range.Range.{Range}
use Rattle.buffer_blocks.specs.declared.block.Block.{Block}
use Rattle.buffer_blocks.specs.Block.{bytes_of}
use Rattle.staging_pages.specs.PageState.{PageState}
use Rattle.staging_pages.specs.Page.{staged}
use Rattle.staging_pages.specs.Pages.{TakesPage}

-- the pages that came back, the open chunk's newest page, and the next number of a block of no class
pub record Pool : Type 0 where
  pub spare : List Block
  pub newest : Option PageState
  pub next : ℕ

abbrev pub empty_pool : Pool
empty_pool = record { spare = []; newest = None; next = 512 }

-- so many bytes fit on the page
abbrev pub Fits : ℕ → PageState → Type 0
Fits len page = page.used + len ≤ length (bytes_of page.block)

abbrev pub NotFits : ℕ → Option PageState → Type 0
NotFits len None = Unit {0}
NotFits len (Some page) = length (bytes_of page.block) < page.used + len

-- the range of the next bytes of a page
abbrev pub next_range : PageState → ℕ → Range
next_range page len = record { block = page.block.number; from = page.used; to = page.used + len }

-- a page that is no longer the newest stands with the chunk's others
abbrev pub put_by : List PageState → Option PageState → List PageState
put_by pages None = pages
put_by pages (Some page) = pages ++ page ∷ []

-- another page is the newest: the first that came back and is long enough, else a new one with the next number
pub record TurnsPage (len : ℕ) (old : Pool) (pages : List PageState) (page : PageState) (new : Pool)
    (after : List PageState) : Type 0 where
  pub takes : TakesPage old.spare old.next len page new.spare
  pub newest : new.newest ≡ Some page
  pub next : new.next ≡ cond (page.block.number == old.next) (suc old.next) old.next
  pub put : after ≡ put_by pages old.newest

-- the bytes stand behind what is used of the newest page
pub record StagesOn (bytes : List ℕ) (old : Pool) (page : PageState) (r : Range) (new : Pool) : Type 0 where
  pub newest : old.newest ≡ Some page
  pub fits : Fits (length bytes) page
  pub range : r ≡ next_range page (length bytes)
  pub after : new ≡ record old { newest = Some (staged page (length bytes) bytes) }

-- the bytes stand on the newest page where they fit, else on the next one
abbrev pub Stages : List ℕ → Pool → List PageState → Range → Pool → List PageState → Type 0
Stages bytes old pages r new after =
    ((page : PageState) × StagesOn bytes old page r new × (after ≡ pages))
    ⊎ (NotFits (length bytes) old.newest × (page : PageState) × (mid : Pool)
    × TurnsPage (length bytes) old pages page mid after × StagesOn bytes mid page r new)
