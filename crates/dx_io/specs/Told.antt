-- Bytes that the outside tells, or doesn't tell. What tells once goes on telling.
use Rattle.std.specs.Prelude.{◌≡◌, ℕ, List, ◌++◌, take, Option, Some, None, ⊤}

-- These bytes were taken from the front, where what is left is told.
abbrev pub Gives : Option (List ℕ) → List ℕ → Option (List ℕ) → Type 0
Gives None bytes None = ⊤
Gives None bytes (Some new) = ⊥
Gives (Some old) bytes None = ⊥
Gives (Some old) bytes (Some new) = old ≡ bytes ++ new

-- These bytes were appended, where what is held is told.
abbrev pub Appends : Option (List ℕ) → List ℕ → Option (List ℕ) → Type 0
Appends None bytes None = ⊤
Appends None bytes (Some new) = ⊥
Appends (Some old) bytes None = ⊥
Appends (Some old) bytes (Some new) = new ≡ old ++ bytes

-- Some front of these bytes was appended, where what is held is told.
abbrev pub AppendsFront : Option (List ℕ) → List ℕ → Option (List ℕ) → Type 0
AppendsFront old bytes new = (n : ℕ) × Appends old (take n bytes) new
