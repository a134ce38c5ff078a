-- Running sums over commands by rising number, and the counts that they are sums of.
use Rattle.std.specs.Prelude.{ℕ, zero, suc, ◌+◌, ◌-◌, ◌<◌, ◌≤◌, ◌^◌, ◌==◌, nat_lt, cond, List, [], ◌∷◌}
use Rattle.std.specs.List.{AllByRecursion}
use Rattle.query_pool.specs.declared.sums.Sum.{Sum}

-- what each command ran, where `s` is the sum before the first
abbrev pub counts_from : ℕ → List Sum → List (ℕ × ℕ)
counts_from s [] = []
counts_from s (x ∷ xs) = (x.command, x.upto - s) ∷ counts_from x.upto xs

-- commands rise from number `least` on, and sums don't fall from `s` on
abbrev pub Climbs : ℕ → ℕ → List Sum → Type 0
Climbs least s [] = Unit {0}
Climbs least s (x ∷ xs) = (least ≤ x.command) × (s ≤ x.upto) × Climbs (suc x.command) x.upto xs

-- how many of the first are smaller commands
abbrev pub below : ℕ → List Sum → ℕ
below k [] = 0
below k (x ∷ xs) = cond (nat_lt x.command k) (suc (below k xs)) 0

-- the sum of so many of the first
abbrev pub sum_at : ℕ → List Sum → ℕ → ℕ
sum_at s [] n = s
sum_at s (x ∷ xs) zero = s
sum_at s (x ∷ xs) (suc n) = sum_at x.upto xs n

-- the command has a sum, that before it if it had none
abbrev pub placed : ℕ → ℕ → List Sum → List Sum
placed k s [] = record { command = k; upto = s } ∷ []
placed k s (x ∷ xs) = cond (nat_lt x.command k) (x ∷ placed k x.upto xs) (cond (x.command == k) (x ∷ xs) (record { command = k; upto = s } ∷ x ∷ xs))

-- so many invocations more
abbrev pub raised : ℕ → Sum → Sum
raised n x = record { command = x.command; upto = x.upto + n }

-- so many more in each sum from a place on
abbrev pub raised_from : ℕ → ℕ → List Sum → List Sum
raised_from n at [] = []
raised_from n zero (x ∷ xs) = raised n x ∷ raised_from n zero xs
raised_from n (suc at) (x ∷ xs) = x ∷ raised_from n at xs

-- no sum grows past what a word holds
abbrev pub AllFit : ℕ → List Sum → Type 0
AllFit n sums = AllByRecursion (λ (x : Sum). x.upto + n < 2 ^ 64) sums
