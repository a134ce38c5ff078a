-- Values by id that last for one turn, and what each turn begins with.
use Rattle.std.specs.Prelude.{ℕ, ◌≡◌, ◌≤◌, ◌==◌, if◌then◌else◌, List, Option, Some, All, map}
use Rattle.std.specs.List.{AllByRecursion}
use Rattle.spirv_run.specs.declared.value.Value.{Value}
use Rattle.spirv_run.specs.declared.cells.Cell.{Cell}

-- what each turn begins with, and what this one has
pub record Cells : Type 0 where
  pub kept : List (Option Value)
  pub held : List (Option Value)

-- what a cell has in a turn: what was set in this turn, or else what each begins with
abbrev pub held_in : (turn : ℕ) → Cell → Option Value
held_in turn c = if c.turn == turn then Some c.value else c.kept

abbrev pub kept_of : List Cell → List (Option Value)
kept_of cs = map (λ (c : Cell). c.kept) cs

abbrev pub cells_in : (turn : ℕ) → List Cell → Cells
cells_in turn cs = record { kept = kept_of cs; held = map (held_in turn) cs }

-- no cell was set in a later turn
abbrev pub AreUntil : (turn : ℕ) → List Cell → Type 0
AreUntil turn cs = AllByRecursion (λ (c : Cell). c.turn ≤ turn) cs

-- no cell was set in any turn
abbrev pub AreUnset : List Cell → Type 0
AreUnset cs = All (λ (c : Cell). c.turn ≡ 0) cs
