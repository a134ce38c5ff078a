-- The values of the formulas that reach views: whether a word is there, and its place.
use Rattle.std.proofs.Common.{◌≡◌, ℕ, zero, suc, ◌+◌, ◌*◌, ◌/◌, ◌%◌, ◌^◌, ◌<◌, ◌≤◌, Bool, true, false, if◌then◌else◌, [], ◌∷◌, Some, refl, sym, ap, ◌∙◌, arith}
use Rattle.std.specs.Prelude.{◌&&◌, nat_lt}
use Rattle.std.proofs.lemmas.Bool.{ltb-true, ltb-false, le-ltb}
use Rattle.shader_model.specs.Arithmetic.{low}
use Rattle.spirv_model.specs.Meaning.Values.{Word, Truth}
use Rattle.spirv_emit.specs.declared.formula.Formula.TheVariants as formula
use Rattle.spirv_emit.specs.Steps.{steps_of}
use Rattle.spirv_emit.specs.Frames.{steps_value}
use Rattle.spirv_emit.proofs.Lowering.FormulaValues.{Gives, Tells}

-- no slot has more words
abbrev most_words : ℕ
most_words = 4194304

-- a comparison of the address itself, and one of the sum: both hold where the sum is below
sum_below : (n b c : ℕ) → b < 4 → c ≤ most_words → (nat_lt n c && nat_lt (low (n + b)) c) ≡ nat_lt (n + b) c
sum_below n b c lb lc = by_first (nat_lt n c) refl
  where
    by_first : (t : Bool) → nat_lt n c ≡ t → (t && nat_lt (low (n + b)) c) ≡ nat_lt (n + b) c
    by_first true e = let k = ltb-true n c e in ap (λ z. nat_lt z c) (let q : low (n + b) ≡ n + b = omega (arith, k, lb, lc) in q)
    by_first false e = let k = ltb-false n c e in sym (le-ltb (n + b) c (omega (arith, k)))

-- ## Raw views: the word b of the address a, of c words

pub raw_tells : (a b c d e : ℕ) → b < 4 → c ≤ most_words → Tells a b c d e formula.RawInside (nat_lt (a / 4 + b) c)
raw_tells a b c d e lb lc = ap (λ t. Some (Truth t)) (sum_below (a / 4) b c lb lc)

pub raw_gives : (a b c d e : ℕ) → a / 4 + b < 2 ^ 32 → Gives a b c d e formula.RawPlace (a / 4 + b)
raw_gives a b c d e lt = ap (λ k. Some (Word k)) (let z : (a / 4 + b) % 2 ^ 32 ≡ a / 4 + b = omega (arith, lt) in z)

-- ## Structured views: the word c of the offset b of the element a of d words, of e words

abbrev structured_is : (a b c d e : ℕ) → Bool
structured_is a b c d e = nat_lt a (e / d) && nat_lt (b / 4 + c) d

three_parts : (x y z w : Bool) → (y && z) ≡ w → ((x && y) && z) ≡ (x && w)
three_parts true y z w e = e
three_parts false y z w e = refl

structured_open : (a b c d e : ℕ) → Tells a b c (suc d) e formula.StructuredInside ((nat_lt a (e / suc d) && nat_lt (b / 4) (suc d)) && nat_lt (low (b / 4 + c)) (suc d))
structured_open a b c d e = refl

pub structured_tells : (a b c d e : ℕ) → c < 4 → 0 < d → d ≤ most_words → Tells a b c d e formula.StructuredInside (structured_is a b c d e)
structured_tells a b c zero e lc pos few = absurd (omega arith)
structured_tells a b c (suc d) e lc pos few = structured_open a b c d e ∙ ap (λ t. Some (Truth t)) (three_parts (nat_lt a (e / suc d)) (nat_lt (b / 4) (suc d)) (nat_lt (low (b / 4 + c)) (suc d)) _ (sum_below (b / 4) c (suc d) lc few))

pub structured_gives : (a b c d e : ℕ) → a * d + (b / 4 + c) < 2 ^ 32 → Gives a b c d e formula.StructuredPlace (a * d + (b / 4 + c))
structured_gives a b c d e lt = ap (λ k. Some (Word k)) (let z : ((a * d) % 2 ^ 32 + (b / 4 + c) % 2 ^ 32) % 2 ^ 32 ≡ a * d + (b / 4 + c) = omega (arith, lt) in z)

-- ## Typed views: the element a of b words, of c words

typed_open : (a b c d e : ℕ) → Tells a (suc b) c d e formula.TypedInside (nat_lt a (c / suc b))
typed_open a b c d e = refl

pub typed_tells : (a b c d e : ℕ) → 0 < b → Tells a b c d e formula.TypedInside (nat_lt a (c / b))
typed_tells a zero c d e pos = absurd (omega arith)
typed_tells a (suc b) c d e pos = typed_open a b c d e

pub typed_gives : (a b c d e : ℕ) → a * b + c < 2 ^ 32 → Gives a b c d e formula.TypedPlace (a * b + c)
typed_gives a b c d e lt = ap (λ k. Some (Word k)) (let z : ((a * b) % 2 ^ 32 + c) % 2 ^ 32 ≡ a * b + c = omega (arith, lt) in z)

one_or_none : (t : Bool) → Some (if t then Word 1 else Word 0) ≡ Some (Word (if t then 1 else 0))
one_or_none true = refl
one_or_none false = refl

one_open : (a b c d e : ℕ) → steps_value (a ∷ suc b ∷ c ∷ d ∷ e ∷ []) (steps_of formula.TypedOne) ≡ Some (if nat_lt a (c / suc b) then Word 1 else Word 0)
one_open a b c d e = refl

pub typed_one_gives : (a b c d e : ℕ) → 0 < b → Gives a b c d e formula.TypedOne (if nat_lt a (c / b) then 1 else 0)
typed_one_gives a zero c d e pos = absurd (omega arith)
typed_one_gives a (suc b) c d e pos = one_open a b c d e ∙ one_or_none (nat_lt a (c / suc b))
