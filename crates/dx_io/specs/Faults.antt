-- How a count of faults rises. It is a u64 that stands still at its end.
use Rattle.std.specs.Prelude.{ℕ, ◌+◌, ◌-◌, ◌^◌, ◌≤◌, min}

-- A count that stands at its end, or is one higher.
abbrev pub one_more : ℕ → ℕ
one_more before = min (before + 1) (2 ^ 64 - 1)

-- A fault was counted between the two moments.
abbrev pub Rose : ℕ → ℕ → Type 0
Rose before now = min (before + 1) (2 ^ 64 - 1) ≤ now

-- No fault was counted between the two moments.
abbrev pub IsSteady : ℕ → ℕ → Type 0
IsSteady before now = ¬ Rose before now
