-- Where the next command number stands at least.
use Rattle.std.specs.Prelude.{ℕ, ◌+◌, List, [], ◌∷◌, Option, None, Some}

-- behind the last number
abbrev pub least_of : Option ℕ → ℕ
least_of None = 0
least_of (Some last) = last + 1

-- behind these numbers
abbrev pub least_after : ℕ → List ℕ → ℕ
least_after least [] = least
least_after least (n ∷ ns) = least_after (n + 1) ns
