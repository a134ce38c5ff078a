-- Blocks and pages that an item needs: which may be had, and which the core that is stepped takes.
use Rattle.std.specs.Prelude.{◌≡◌, ℕ, suc, ◌+◌, ◌*◌, ◌<◌, Bool, true, false, cond, max, nat_le, List, [], ◌∷◌, ◌++◌}
use Rattle.std.specs.Prelude.{length, Option, Some, None, slice_get, slice_set}
use Rattle.std.specs.List.{AllByRecursion}
use Rattle.core_model.specs.Script.{updated}
use Rattle.core_model.specs.CoreState.{Page, Board, Newest, Pool}
use Rattle.core_model.specs.Readings.{Reading, chooses_first, keeps_pages}
use Rattle.dx_types.specs.declared.limits.TheConstants.{CLASS_BLOCKS, PAGE_BYTES}

-- where a block of a class is had: from this place, where it is at home, or newly made
pub data BlockChoice : Type 0 where
  At_home : (place : ℕ) → BlockChoice
  New_block : BlockChoice

pub data Takes : BlockChoice → ℕ → ℕ → Board → Board → Type 0 where
  From_home : (class block place : ℕ) (board : Board) → (slice_get (board.places class) place ≡ Some (Some block))
      → Takes (At_home place) class block board (record board {
        places =
            updated class (slice_set (board.places class) place None) board.places;
      })
  New_made : (class : ℕ) (board : Board) → (board.made class < CLASS_BLOCKS)
      → Takes New_block class (class * CLASS_BLOCKS + board.made class) board
      (record board { made = updated class (suc (board.made class)) board.made })

-- the choice of the stepped core: the lowest place with a block, from number `at` on, else a new block
abbrev pub first_home : ℕ → List (Option ℕ) → BlockChoice
first_home at [] = New_block
first_home at (None ∷ ps) = first_home (suc at) ps
first_home at (Some b ∷ ps) = At_home at

abbrev pub TakesBlock : Reading → ℕ → ℕ → Board → Board → Type 0
TakesBlock reading class block old new =
    (choice : BlockChoice) × Takes choice class block old new
    × (chooses_first reading ≡ true → choice ≡ first_home 0 (old.places class))

-- where bytes are staged: from `at` of a page. `added` is the page, where it is the chunk's next one
pub record Staged : Type 0 where
  pub block : ℕ
  pub at : ℕ
  pub added : List Page

-- a page has at least 1,048,576 bytes
abbrev pub fresh_page : Pool → ℕ → Page
fresh_page pool len = record { block = pool.next; len = max len PAGE_BYTES }

-- the page where bytes are staged: the open chunk's newest, the one with this place among those that came back, as
-- long as its post has it, or a new one
pub data PageChoice : Type 0 where
  Newest_page : PageChoice
  Spare_page : (place : ℕ) → PageChoice
  New_page : PageChoice

-- the bytes fit on the newest page, if there is one
abbrev pub newest_fits : ℕ → Option Newest → Bool
newest_fits len None = false
newest_fits len (Some n) = nat_le (n.used + len) n.page.len

-- the page with another length
abbrev pub with_length : Page → ℕ → Page
with_length p n = record p { len = n }

pub data Stages : PageChoice → ℕ → Staged → Pool → Pool → Type 0 where
  On_newest : (len : ℕ) (pool : Pool) (n : Newest) → (pool.newest ≡ Some n) → (newest_fits len (Some n) ≡ true)
      → Stages Newest_page len (record { block = n.page.block; at = n.used; added = [] }) pool
      (record pool { newest = Some (record n { used = n.used + len }) })
  On_spare : (len : ℕ) (pool : Pool) (front : List Page) (p : Page) (back : List Page) (long : ℕ)
      → (pool.spare ≡ front ++ p ∷ back) → (nat_le len long ≡ true)
      → (newest_fits len pool.newest ≡ false)
      → Stages (Spare_page (length front)) len (record { block = p.block; at = 0; added = with_length p long ∷ [] })
      pool (record pool {
        spare = front ++ back;
        newest = Some (record { page = with_length p long; used = len });
      })
  On_new : (len : ℕ) (pool : Pool) → (newest_fits len pool.newest ≡ false)
      → Stages New_page len (record { block = pool.next; at = 0; added = fresh_page pool len ∷ [] }) pool
      (record pool { newest = Some (record { page = fresh_page pool len; used = len }); next = suc pool.next })

-- the choice of the stepped core where the newest page is too short: the first that came back and is long enough,
-- else a new one
abbrev pub first_long : ℕ → ℕ → List Page → PageChoice
first_long at len [] = New_page
first_long at len (p ∷ ps) = cond (nat_le len p.len) (Spare_page at) (first_long (suc at) len ps)

abbrev pub first_page : ℕ → Pool → PageChoice
first_page len pool = cond (newest_fits len pool.newest) Newest_page (first_long 0 len pool.spare)

-- a page that came back has the length that it had
abbrev pub KeepsLength : PageChoice → Staged → Pool → Type 0
KeepsLength Newest_page s old = Unit {0}
KeepsLength (Spare_page place) s old = AllByRecursion (λ p. slice_get old.spare place ≡ Some p) s.added
KeepsLength New_page s old = Unit {0}

abbrev pub StagesBytes : Reading → ℕ → Staged → Pool → Pool → Type 0
StagesBytes reading len s old new =
    (choice : PageChoice) × Stages choice len s old new × (chooses_first reading ≡ true → choice ≡ first_page len old)
    × (keeps_pages reading ≡ true → KeepsLength choice s old)
