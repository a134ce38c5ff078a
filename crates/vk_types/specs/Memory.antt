-- Device memory, and ranges of it.
use Rattle.std.specs.Prelude.{ℕ, ◌+◌, ◌-◌, ◌*◌, ◌/◌, ◌%◌, ◌^◌, Bool, cond, ◌&&◌, ◌==◌, nat_lt, nat_le, List, Option, Some, None, slice_get}
use Rattle.dx_types.specs.declared.range.Range.{Range}

-- the byte of each block at each place
abbrev pub Memory : Type 0
Memory = ℕ → ℕ → ℕ

-- memory whose bytes are all 0
abbrev pub zeros : Memory
zeros = λ block at. 0

-- a range by its block and ends
abbrev pub range : ℕ → ℕ → ℕ → Range
range block from to = record { block = block; from = from; to = to }

-- the range has this byte
abbrev pub covers : Range → ℕ → ℕ → Bool
covers r block at = (r.block == block) && (nat_le r.from at && nat_lt at r.to)

-- two ranges share a byte
abbrev pub meets : Range → Range → Bool
meets r s = (r.block == s.block) && ((nat_lt r.from s.to && nat_lt s.from r.to) && (nat_lt r.from r.to && nat_lt s.from s.to))

-- memory with these bytes in the range, and every other byte kept
abbrev pub put : Range → (ℕ → ℕ) → Memory → Memory
put r piece memory = λ block at. cond (covers r block at) (piece (at - r.from)) (memory block at)

-- byte k of the range, and 0 past its end
abbrev pub byte_of : Memory → Range → ℕ → ℕ
byte_of memory r k = cond (nat_lt (r.from + k) r.to) (memory r.block (r.from + k)) 0

-- word k of the range, of four bytes with the lowest first
abbrev pub word_of : Memory → Range → ℕ → ℕ
word_of memory r k =
    byte_of memory r (4 * k) + (256 * byte_of memory r (4 * k + 1) + (65536 * byte_of memory r (4 * k + 2) + 16777216 * byte_of memory r (4 * k + 3)))

-- byte k of a word
abbrev pub byte_in : ℕ → ℕ → ℕ
byte_in word k = word / 256 ^ k % 256

-- the number, and 0 where there is none
abbrev pub or_zero : Option ℕ → ℕ
or_zero None = 0
or_zero (Some n) = n

-- element k of a list of numbers, and 0 past its end
abbrev pub number_at : List ℕ → ℕ → ℕ
number_at ns k = or_zero (slice_get ns k)

-- byte k of a list of words
abbrev pub byte_in_words : List ℕ → ℕ → ℕ
byte_in_words words k = byte_in (number_at words (k / 4)) (k % 4)
