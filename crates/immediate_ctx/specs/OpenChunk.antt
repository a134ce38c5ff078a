-- The open chunk, as the recorder fills it.
use Rattle.std.specs.Prelude.{◌≡◌, ℕ, ◌-◌, Bool, cond, List, [], ◌∷◌, ◌++◌, Option, length, map}
use Rattle.std.specs.Prelude.{Some, None}
use Rattle.std.specs.Prelude.{◌==◌, not}
use Rattle.std.specs.List.{filter}
use Rattle.dx_types.specs.declared.range.Range.{Range}
use Rattle.staging_pages.specs.PageState.{PageState}
use Rattle.vk_types.specs.declared.message.Placed.{Placed}
use Rattle.cs_chunk.specs.declared.entry.Entry.{Entry}
use Rattle.chunk_parts.specs.Chunks.{placed_of}
use Rattle.core_model.specs.OtherParts.{is_among}
use Rattle.immediate_ctx.specs.declared.counts.Counts.{Counts}
use Rattle.immediate_ctx.specs.Due.{counted, no_counts}

-- the entries of the open chunk and its pages but for the newest, what is counted of it, where its items stand, and
-- the blocks of staging buffers that it uses; `named` are those of them that it does not destroy
pub record Filled : Type 0 where
  pub entries : List Entry
  pub pages : List PageState
  pub counts : Counts
  pub placed : List Placed
  pub used : List ℕ
  pub named : List ℕ

abbrev pub nothing_filled : Filled
nothing_filled = record { entries = []; pages = []; counts = no_counts; placed = []; used = []; named = [] }

-- a chunk is there from its first entry on
abbrev pub filled_or_none : Option Filled → Filled
filled_or_none None = nothing_filled
filled_or_none (Some f) = f

-- the entries are counted, and their places kept
pub record IsKept (entries : List Entry) (count : ℕ) (placed : List Placed) : Type 0 where
  pub counted : length entries ≡ count
  pub places : map placed_of entries ≡ placed

-- how many bytes an entry stages
abbrev pub staged_by : Option Range → ℕ
staged_by None = 0
staged_by (Some r) = r.to - r.from

-- one more entry, which retires a block of a class or doesn't
abbrev pub with_entry : Entry → Bool → Filled → Filled
with_entry e retires f = record f {
  entries = f.entries ++ e ∷ [];
  counts = counted retires (staged_by e.staged) f.counts;
  placed = f.placed ++ placed_of e ∷ [];
}

-- each block once, in the order in which they are used first
abbrev pub once_more : ℕ → List ℕ → List ℕ
once_more b bs = cond (is_among b bs) bs (bs ++ b ∷ [])

abbrev pub with_use : ℕ → Filled → Filled
with_use b f = record f { used = once_more b f.used; named = once_more b f.named }

-- the blocks without this one
abbrev pub without : ℕ → List ℕ → List ℕ
without b bs = filter (λ m. not (m == b)) bs
