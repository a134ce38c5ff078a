-- The tables of a plan, and what they show of each call.
use Rattle.std.specs.Prelude.{◌≡◌, ℕ, ◌-◌, ◌≤◌, List, length, map, take, drop}
use Rattle.std.specs.List.{All}
use Rattle.std.specs.Option.{option_map}
use Rattle.dx_types.specs.declared.range.ResRange.{ResRange}
use Rattle.dx_types.specs.declared.range.Span.{Span}
use Rattle.d3d_effects.specs.Listed.{cut_at}
use Rattle.d3d_plan.specs.Planned.{Planned}
use Rattle.d3d_plan.specs.declared.entry.Entry.{Entry}
use Rattle.d3d_plan.specs.declared.entry.Words.{Words}
use Rattle.d3d_plan.specs.declared.tables.Piece.{Piece}
use Rattle.d3d_plan.specs.declared.tables.Tables.{Tables}

abbrev pub span_of : Words → Span
span_of w = record { start = w.start; len = w.len }

-- ---- a piece of the tables

abbrev pub between : {X : Type 0} → List X → ℕ → ℕ → List X
between xs start end = take (end - start) (drop start xs)

abbrev pub bound_in : Tables → Piece → List ResRange
bound_in t p = between t.ranges.items p.start p.end

abbrev pub calls_in : Tables → Piece → List ℕ
calls_in t p = between t.calls.items p.first p.last

abbrev pub ends_in : Tables → Piece → List ℕ
ends_in t p = between t.ends.items p.first p.last

-- the ranges of each of its calls
abbrev pub parts_at : Tables → Piece → List (List ResRange)
parts_at t p = cut_at 0 (bound_in t p) (ends_in t p)

-- the tables have it
pub record IsWithin (t : Tables) (p : Piece) : Type 0 where
  pub ordered : p.start ≤ p.end
  pub ends : p.end ≤ length t.ranges.items
  pub listed : p.first ≤ p.last
  pub calls : p.last ≤ length t.calls.items
  pub marks : p.last ≤ length t.ends.items

-- it has these ranges, these calls, and these ranges of each of them
pub record Holds (t : Tables) (p : Piece) (rs : List ResRange) (ns : List ℕ) (own : List (List ResRange)) : Type 0 where
  pub within : IsWithin t p
  pub bound : bound_in t p ≡ rs
  pub calls : calls_in t p ≡ ns
  pub parts : parts_at t p ≡ own

-- ---- all entries

abbrev pub shown_entry : Tables → Entry → Planned
shown_entry t e = record {
  verdict = e.verdict;
  last_use = e.last_use;
  bound = bound_in t e.piece;
  calls = calls_in t e.piece;
  parts = parts_at t e.piece;
  words = option_map span_of e.words;
  shader = e.shader;
}

abbrev pub IsWithinOf : Tables → Entry → Type 0
IsWithinOf t e = IsWithin t e.piece

abbrev pub shown : Tables → List Entry → List Planned
shown t entries = map (shown_entry t) entries

-- the entries show this plan
pub record Shows (entries : List Entry) (t : Tables) (plan : List Planned) : Type 0 where
  pub same : shown t entries ≡ plan
  pub within : All (IsWithinOf t) entries
