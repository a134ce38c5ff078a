-- The words of a text.
use Rattle.std.specs.Prelude.{◌≡◌, ℕ, ◌+◌, ◌-◌, ◌*◌, ◌<◌, nat_le, Bool, true, not, ◌&&◌, ⊤, Option, List, [], ◌∷◌, ◌++◌, MatchOption}
use Rattle.std.specs.List.{AllByRecursion}
use Rattle.std.specs.Str.{all_ascii_digits}

-- Each number is a byte.
abbrev pub AreBytes : List ℕ → Type 0
AreBytes xs = AllByRecursion (λ b. b < 256) xs

-- No byte of these is c.
abbrev pub Lacks : ℕ → List ℕ → Type 0
Lacks c [] = ⊤
Lacks c (x ∷ xs) = (x ≡ c → ⊥) × Lacks c xs

-- Nothing is here, or c stands in front.
abbrev pub StopsAt : ℕ → List ℕ → Type 0
StopsAt c [] = ⊤
StopsAt c (x ∷ xs) = x ≡ c

-- The bytes before the first c, and those from it on.
pub record Cut (c : ℕ) (whole front behind : List ℕ) : Type 0 where
  pub spelled : whole ≡ front ++ behind
  pub lacks : Lacks c front
  pub stops : StopsAt c behind

-- The number that digits go on to write, behind those that write a first number.
abbrev pub read_on : ℕ → List ℕ → ℕ
read_on n [] = n
read_on n (c ∷ cs) = read_on (10 * n + (c - 48)) cs

-- Digits stand in front of a text, and write n behind those of a first number; then the text ends, or the stop stands there.
pub record GoesOn (stop first : ℕ) (text : List ℕ) (n : ℕ) (rest : List ℕ) : Type 0 where
  pub digits : List ℕ
  pub are : all_ascii_digits digits ≡ true
  pub is : read_on first digits ≡ n
  pub spelled : text ≡ digits ++ rest
  pub stops : StopsAt stop rest

-- No byte is a capital letter.
abbrev pub lower : List ℕ → Bool
lower [] = true
lower (x ∷ xs) = not (nat_le 65 x && nat_le x 90) && lower xs

-- A word is that of the value that was found, or of none.
abbrev pub IsRead : {A : Type 0} → (A → Type 0) → (A → List ℕ) → List ℕ → Option A → Type 0
IsRead Good spell word found = MatchOption found ((v : _) → Good v → word ≡ spell v → ⊥) (λ v. Good v × (word ≡ spell v))
